-- The products fit: a constant of 1,000 at most, 50 driveways at most and a slope of 50 den at most, over 10^12.
use Prim.Native.Nat.{◌-◌, ◌*◌, ◌≤◌}
use native.Mathlib.Nat.{mul-le-mul}
use native.Mathlib.Omega.{arith}
use Rattle.driveways.specs.DrivewayLaws.{at_num_over, at_den_over}
use Rattle.driveways.proofs.value_at.Goals as goal
use Rattle.driveways.proofs.value_at.Goals.{Start}

fixed_fits : (c : Start) → c.args.constant * c.args.den ≤ 1000 * 1000000000000
fixed_fits c = mul-le-mul c.requires.1 c.requires.4

rest_fits : (c : Start) → c.args.driveways * (50 * c.args.den - 5 * c.args.num) ≤ 50 * 50000000000000
rest_fits c = let most : 50 * c.args.den - 5 * c.args.num ≤ 50000000000000 = omega arith in mul-le-mul c.requires.2 most

pub overflow_mul-fixed : goal.overflow_mul-fixed
overflow_mul-fixed c = omega (arith, fixed_fits c)

pub overflow_mul-result : goal.overflow_mul-result
overflow_mul-result c = omega (arith, rest_fits c)

pub overflow_add-result : goal.overflow_add-result
overflow_add-result c = omega (arith, fixed_fits c, rest_fits c)

pub overflow_add-result-2 : goal.overflow_add-result-2
overflow_add-result-2 c = omega (arith, fixed_fits c)

pub returns : goal.returns
returns c =
    let a = c.args in
    rw (
      at_num_over a.constant a.driveways c.requires.0 a.num a.den c.requires.3,
      at_den_over a.constant a.driveways c.requires.0 a.num a.den c.requires.3,
    )
