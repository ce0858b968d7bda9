-- Laws of SignedExponent in specs/.
use Rattle.std.specs.Prelude.{ℕ, ◌≤◌, ◌<◌}
use Rattle.estimate.specs.Fraction.{◌≤ᶠ◌, ten_thousandths}
use Rattle.estimate.specs.Exponential.{exp_under_positive}
use Rattle.estimate.proofs.ExponentialBounds.{within_tail_law, exp_under-≤-over, exp_neg_under-≤-over, exp_neg_under_positive}
use Rattle.estimate.specs.SignedExponent.{Minus, Plus, SignedExponent, signed_exp_over, signed_exp_under, size}

-- up to 21 every under-estimate is at most every over-estimate
pub signed_under-≤-over : (e : SignedExponent) → size e ≤ 210000 → (i j : ℕ) → signed_exp_under i e ≤ᶠ signed_exp_over j e
signed_under-≤-over (Plus x) h i j = exp_under-≤-over (ten_thousandths x) (within_tail_law x h) i j
signed_under-≤-over (Minus x) h i j = exp_neg_under-≤-over (ten_thousandths x) (within_tail_law x h) i j

pub signed_under_positive : (d : ℕ) (e : SignedExponent) → 0 < (signed_exp_under d e).num
signed_under_positive d (Plus x) = exp_under_positive d (ten_thousandths x)
signed_under_positive d (Minus x) = exp_neg_under_positive d (ten_thousandths x)
