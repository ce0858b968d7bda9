use Rattle.std.specs.Prelude.{ℕ, ◌+◌}
use Rattle.std.proofs.Common.{arith}
use Rattle.estimate.specs.Fraction.{Fraction, ◌≤ᶠ◌, whole, ◌*ᶠ◌}
use Rattle.estimate.specs.FractionLaws.{≤ᶠ-trans, ≤ᶠ-refl}
use Rattle.estimate.specs.Exponential.{sum_with_tail, last_term, exp_over}
use Rattle.estimate.proofs.ExponentialLaws.{tail_bounds_every_sum}
use Rattle.estimate.specs.ExponentialBounds.{AtLeastExp}

pub at_least_by_tail : {w x : Fraction} (m : ℕ) → whole 2 *ᶠ x ≤ᶠ whole (m + 2) → sum_with_tail m x ≤ᶠ w → AtLeastExp w x
at_least_by_tail {w} {x} m b h = record { bounds = λ n. ≤ᶠ-trans (tail_bounds_every_sum x m b n) h }

-- up to 21 the tail law holds at depth 0 already
pub exp_over_at_least : (d : ℕ) (x : Fraction) → x ≤ᶠ whole 21 → AtLeastExp (exp_over d x) x
unfolding exp_over whole ◌*ᶠ◌
exp_over_at_least d x h = at_least_by_tail (last_term d) (omega (arith, h.cross)) (≤ᶠ-refl (sum_with_tail (last_term d) x))
