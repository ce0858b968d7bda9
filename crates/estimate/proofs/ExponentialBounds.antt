-- Laws of ExponentialBounds in specs/.
use Rattle.std.specs.Prelude.{ℕ, ◌≤◌, ◌<◌}
use Rattle.std.proofs.Common.{arith}
use Rattle.estimate.specs.Fraction.{Fraction, fraction, ◌≤ᶠ◌, whole, ten_thousandths, inverse}
use Rattle.estimate.specs.FractionLaws.{≤ᶠ-refl, inverse_antitone}
use Rattle.estimate.specs.Standing.{LowRight}
use Rattle.estimate.specs.Exponential.{exp_under, exp_over, exp_neg_under, exp_neg_over, exp_under_positive, exp_over_positive}
use Rattle.estimate.specs.ExponentialBounds.{AtMostExp, exp_bounds_in_order, exp_under_at_most}
use Rattle.estimate.proofs.ExponentialOver.{exp_over_at_least}

pub exp_under-≤-over : (x : Fraction) → x ≤ᶠ whole 21 → (d e : ℕ) → exp_under d x ≤ᶠ exp_over e x
exp_under-≤-over x h d e = exp_bounds_in_order (exp_under_at_most d x) (exp_over_at_least e x h) (≤ᶠ-refl x)

pub exp_neg_under-≤-over : (x : Fraction) → x ≤ᶠ whole 21 → (d e : ℕ) → exp_neg_under d x ≤ᶠ exp_neg_over e x
unfolding exp_neg_under exp_neg_over
exp_neg_under-≤-over x h d e = inverse_antitone (exp_under_positive e x) (exp_over_positive d x) (exp_under-≤-over x h e d)

pub exp_neg_under_positive : (d : ℕ) (x : Fraction) → 0 < (exp_neg_under d x).num
unfolding exp_neg_under inverse
exp_neg_under_positive d x = (exp_over d x).pos

-- STANDING

-- an argument up to 21, for which the tail bounds every sum
pub within_tail_law : (x : ℕ) → x ≤ 210000 → ten_thousandths x ≤ᶠ whole 21
unfolding ten_thousandths fraction whole
within_tail_law x h = record { cross = omega arith }

pub exp_low_stands : {w x : Fraction} → x ≤ᶠ whole 21 → AtMostExp w x → LowRight w (λ d. exp_over d x)
exp_low_stands {w} {x} b h = record { at = λ d _. exp_bounds_in_order h (exp_over_at_least d x b) (≤ᶠ-refl x) }
