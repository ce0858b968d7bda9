-- Laws of the estimates of ln: what bounds them at every depth, and their order.
use Rattle.std.specs.Prelude.{ℕ}
use Rattle.estimate.specs.Fraction.{Fraction, ◌≤ᶠ◌}
use Rattle.estimate.specs.FractionLaws.{≤ᶠ-trans, ≤ᶠ-refl, <ᶠ-≤ᶠ-trans, ≤ᶠ-of-not-<ᶠ, not-≤ᶠ-and-<ᶠ, decimal_mono}
use Rattle.estimate.specs.Standing.{LowRight}
use Rattle.estimate.specs.Exponential.{exp_under}
use Rattle.estimate.specs.ExponentialBounds.{AtMostExp, AtLeastExp, at_most_weaker, exp_bounds_in_order}
use Rattle.estimate.specs.ExponentialBounds.{exp_under_at_most, exp_under_strict}
use Rattle.estimate.specs.Logarithm.{ln_smallest, ln_over, ln_smallest_is}

ln_over_holds : (d : ℕ) (A : Fraction) → A ≤ᶠ exp_under d (ln_over d A)
unfolding ln_over
ln_over_holds d A = (ln_smallest_is d A).holds

-- STANDING

-- e^x ≤ A: then x is at most each over-estimate of ln A
pub below_ln_over : {A x : Fraction} → AtLeastExp A x → (d : ℕ) → x ≤ᶠ ln_over d A
below_ln_over {A} {x} h d =
    ≤ᶠ-of-not-<ᶠ λ k. not-≤ᶠ-and-<ᶠ (ln_over_holds d A) (<ᶠ-≤ᶠ-trans (exp_under_strict d k) (exp_bounds_in_order (exp_under_at_most d x) h (≤ᶠ-refl x)))

pub ln_low_stands : {A x : Fraction} → AtLeastExp A x → LowRight x (λ d. ln_over d A)
ln_low_stands h = record { at = λ d _. below_ln_over h d }

-- ORDER

-- the estimates themselves are bounds of ln A
pub ln_over_at_most : (d : ℕ) (A : Fraction) → AtMostExp A (ln_over d A)
ln_over_at_most d A = at_most_weaker (ln_over_holds d A) (≤ᶠ-refl (ln_over d A)) (exp_under_at_most d (ln_over d A))

pub ln_over_mono : {A B : Fraction} → A ≤ᶠ B → (d : ℕ) → ln_over d A ≤ᶠ ln_over d B
unfolding ln_over
ln_over_mono {A} {B} l d = decimal_mono d ((ln_smallest_is d A).least (ln_smallest d B) (≤ᶠ-trans l (ln_smallest_is d B).holds))
