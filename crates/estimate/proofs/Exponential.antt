-- Laws of Exponential in specs/.
use Rattle.std.specs.Prelude.{ℕ, suc, ◌+◌, refl}
use Rattle.estimate.specs.Fraction.{Fraction, ◌=ᶠ◌, whole, fraction, ◌÷◌, ◌+ᶠ◌, ◌*ᶠ◌}
use Rattle.estimate.specs.Exponential.{added_terms, exp_over, exp_under, partial_sum, sum_num, sum_with_tail, term, term_den, term_num, with_tail_adds_terms}

pub over_adds_terms : (d : ℕ) (x : Fraction) → exp_over d x =ᶠ added_terms (40 + d) x +ᶠ whole 2 *ᶠ term (suc (40 + d)) x
unfolding exp_over
over_adds_terms d x = with_tail_adds_terms (40 + d) x

-- A WORKED FIGURE, e^1 at depth 1: over is under and 2/42!
pub e_at_depth_one : exp_over 1 (whole 1) =ᶠ exp_under 1 (whole 1) +ᶠ 2 ÷ 1405006117752879898543142606244511569936384000000000
unfolding exp_under exp_over partial_sum sum_with_tail sum_num term_num term_den whole fraction ◌+ᶠ◌ ◌÷◌
e_at_depth_one = record { cross = refl }
