use native.Mathlib.Omega.{arith}
use mathlib.Core.Path.{sym}
use native.Mathlib.Nat.{mul-le-mul}
use Prim.Native.Nat.{◌-◌, ◌*◌, ◌≤◌}
use Rattle.model.specs.Widths.{shoulder_unit}
use Rattle.bracket.specs.Ratio.{coded_quotient}
use Rattle.factors.proofs.widths.of_related.Goals as goal

products : (c : goal.Start) → let a = c.args in ((1000 - a.share) * a.unit ≤ 1000 * shoulder_unit) × (a.share * a.r ≤ 1000 * (3 * shoulder_unit))
products c =
    let rest : 1000 - c.args.share ≤ 1000 = omega arith in
    let few : c.args.r ≤ 3 * shoulder_unit = omega arith in
    (mul-le-mul rest c.requires.2, mul-le-mul c.requires.0 few)

pub overflow_mul-result : goal.overflow_mul-result
overflow_mul-result c = omega (arith, (products c).0)

pub overflow_mul-result-2 : goal.overflow_mul-result-2
overflow_mul-result-2 c = omega (arith, (products c).1)

pub overflow_add-result : goal.overflow_add-result
overflow_add-result c = omega (arith, (products c).0, (products c).1)

pub returns : goal.returns
returns c = sym (coded_quotient _ _ (omega arith))
