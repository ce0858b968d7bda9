use Rattle.remainder.specs.Remainder.{remainder_low}
use Rattle.power.specs.Power.{power_low}
use Rattle.power_by_ends.proofs.power_low_with.Goals as goal

pub returns : goal.returns
unfolding power_low remainder_low
returns c =
    rw (c.times_down-2.ensures, c.times_down.ensures, c.raised_low-remainder.ensures.value, c.hundredths.ensures, c.log_bounds-log.ensures.value)
    (rw (c.stored_bounds-first.ensures.value, c.stored_bounds-second.ensures.value, c.split-s.ensures.value))
