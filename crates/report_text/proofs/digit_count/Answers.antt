use Rattle.report_text.specs.Decimal.{length_of_power}
use Rattle.report_text.proofs.digit_count.Goals as goal

pub returns : goal.returns
returns c = rw c.unwrap_or.ensures (length_of_power _ _ c.checked_ilog10.ensures.none c.checked_ilog10.ensures.power_le c.checked_ilog10.ensures.next_power_gt)
