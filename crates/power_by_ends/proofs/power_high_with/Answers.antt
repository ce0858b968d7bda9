use Rattle.remainder.specs.Remainder.{remainder_high}
use Rattle.power.specs.Power.{power_high}
use Rattle.power_by_ends.proofs.power_high_with.Goals as goal

pub returns : goal.returns
unfolding power_high remainder_high
returns c =
    rw (c.times_up-2.ensures, c.times_up.ensures, c.raised_high-remainder.ensures.value, c.hundredths.ensures, c.log_bounds-log.ensures.value)
    (rw (c.stored_bounds-first.ensures.value, c.stored_bounds-second.ensures.value, c.split-s.ensures.value))
