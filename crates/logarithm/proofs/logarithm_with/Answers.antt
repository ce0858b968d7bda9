-- Both ends from one split and one division: their sums are the definition's.
use Rattle.logarithm.specs.Logarithm.{logarithm_low, logarithm_high, logarithm_bracket}
use Rattle.logarithm.proofs.logarithm_with.Goals as goal

pub returns : goal.returns
unfolding logarithm_bracket logarithm_low logarithm_high
returns c =
    rw (c.stored_bounds-first.ensures.value, c.stored_bounds-second.ensures.value) (rw (c.log_bounds-rest.ensures.value, c.split-s.ensures.value))
