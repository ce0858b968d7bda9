-- The site read, lent as its values.
use Rattle.std.proofs.Common.{arith}
use Rattle.unit.proofs.Lending.{lent}
use Rattle.unit.proofs.sites.crash_site_read.Goals as goal

pub returns-else-values-lt-ANSWER_NUMBERS : goal.returns-else-values-lt-ANSWER_NUMBERS
returns-else-values-lt-ANSWER_NUMBERS c = rw (← c.read_site.ensures.answer_is, c.in-Ok.is, c.put_site.ensures) (lent _ _ _ (omega arith))
