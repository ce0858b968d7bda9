use Rattle.remainder.specs.Remainder.{remainder_low, remainder_high}
use Rattle.remainder.proofs.remainder_bounds.Goals as goal

pub returns-clause-value : goal.returns-clause-value
unfolding remainder_low remainder_high
returns-clause-value c = rw (c.raised_low.ensures.value, c.raised_high.ensures.value, c.log_bounds-log.ensures.value)
