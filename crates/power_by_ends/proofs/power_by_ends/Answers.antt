use Rattle.std.proofs.Common.{arith}
use Rattle.power.specs.Exponents.{place_among_is}
use Rattle.power.proofs.AnswerLaws.{power_refused, power_refused_place, power_given}
use Rattle.power_by_ends.proofs.power_by_ends.Goals as goal

pub returns-then-base-lt1 : goal.returns-then-base-lt1
returns-then-base-lt1 c =
    let a = c.args in
    let r = power_refused a.base a.num a.den (λ r. omega (arith, r.from_one, r.to_20000, r.hundredths)) in
    record { value = r.0; stands = r.1 }

pub returns-in_err-exponent : goal.returns-in_err-exponent
returns-in_err-exponent c =
    let r = power_refused_place c.args.base c.args.num c.args.den c.in_err-exponent.ensures in
    rw c.from_residual.ensures (record { value = r.0; stands = r.1 })

pub power_by_ends_with-requires : goal.power_by_ends_with-requires
power_by_ends_with-requires c =
    let p = place_among_is c.args.num c.in_ok-exponent.exponent c.in_ok-exponent.ensures in
    (omega arith, omega arith, omega arith)

pub returns : goal.returns
returns c =
    let r = power_given c.args.base c.args.num c.args.den (omega arith) (omega arith) (omega arith) c.in_ok-exponent.ensures c.power_by_ends_with.ensures in
    record { value = r.0; stands = r.1 }
