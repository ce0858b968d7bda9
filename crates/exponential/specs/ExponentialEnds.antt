-- The ends of the bracket of e^x at the scale: they are at most and at least e^x, close to each other, and of a known size.
use Rattle.std.specs.Prelude.{ℕ, ◌/◌, ◌%◌}
use native.Mathlib.Omega.{arith}
use Rattle.estimate.specs.Fraction.{fraction, ◌≤ᶠ◌, whole, ◌+ᶠ◌, ten_thousandths}
use Rattle.estimate.specs.ExponentialBounds.{AtMostExp, at_most_product, at_most_weaker}
use Rattle.exponential.specs.Scale.{scaled, product_down-≤}
use Rattle.exponential.specs.Stored.{stored_exp}
use Rattle.exponential.specs.StoredLaws.{stored_at_most_lem}
use Rattle.exponential.specs.Taylor.{taylor_low}
use Rattle.exponential.specs.TaylorLaws.{taylor_at_most}
use Rattle.exponential.specs.Exponential.{exp_low}

-- THE ENDS STAND

parts-≤ : (x : ℕ) → whole (x / 10000) +ᶠ ten_thousandths (x % 10000) ≤ᶠ ten_thousandths x
unfolding whole ten_thousandths fraction ◌+ᶠ◌
parts-≤ x = record { cross = omega arith }

pub exp_low_at_most : (x : ℕ) → AtMostExp (scaled (exp_low x)) (ten_thousandths x)
unfolding exp_low
exp_low_at_most x =
    at_most_weaker (product_down-≤ (stored_exp (x / 10000)) (taylor_low (x % 10000))) (parts-≤ x)
    (at_most_product (stored_at_most_lem (x / 10000)) (taylor_at_most (x % 10000)))
