use Rattle.std.proofs.Common.{arith, ◌<◌, ◌≤◌}
use Rattle.report_text.specs.Decimal.{decimal_some, one_digit, more_digits, length_digits}
use Rattle.report_text.specs.Lines.{digit_stored, last_stored}
use Rattle.report_text.proofs.put_digits.Goals as goal

pub loop-i-preserved : goal.loop-i-preserved
loop-i-preserved c =
    let more : 10 ≤ c.loop-i.rest = more_digits _ (omega arith) in
    (omega (arith, length_digits _ more), digit_stored _ _ _ _ _ more c.loop-i.invariant.0 c.loop-i.invariant.1)

pub overflow_cast-out-2 : goal.overflow_cast-out-2
overflow_cast-out-2 c = let one : c.loop-i.rest < 10 = one_digit _ (omega arith) in omega arith

pub overflow_add-out-2 : goal.overflow_add-out-2
overflow_add-out-2 c = let one : c.loop-i.rest < 10 = one_digit _ (omega arith) in omega arith

pub bounds-out-at : goal.bounds-out-at
bounds-out-at c = omega (arith, decimal_some c.args.n)

pub returns : goal.returns
returns c = last_stored _ _ _ _ (one_digit _ (omega arith)) c.loop-i.invariant.1
