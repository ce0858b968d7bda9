use Rattle.power.specs.Power.{power_bracket}
use Rattle.power_by_ends.proofs.power_by_ends_with.Goals as goal

pub returns : goal.returns
unfolding power_bracket
returns c = rw (c.power_low_with.ensures, c.power_high_with.ensures)
