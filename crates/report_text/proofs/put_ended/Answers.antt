use Rattle.std.proofs.Common.{arith, rules}
use Rattle.report_text.specs.Decimal.{decimal_short}
use Rattle.report_text.specs.Lines.{ended_stored}
use Rattle.report_text.proofs.put_ended.Goals as goal

pub overflow_add-end : goal.overflow_add-end
overflow_add-end c = omega (arith, decimal_short c.args.n (search rules))

pub put_digits-requires : goal.put_digits-requires
put_digits-requires c = (omega arith, omega (arith, decimal_short c.args.n (search rules)))

pub bounds-out-end : goal.bounds-out-end
bounds-out-end c = omega (arith, decimal_short c.args.n (search rules))

pub overflow_add-result : goal.overflow_add-result
overflow_add-result c = omega (arith, decimal_short c.args.n (search rules))

pub returns : goal.returns
returns c = ended_stored _ _ _ _ _ _ (search rules) (omega arith) c.put_digits.ensures
