-- The scale at which whole numbers stand for fractions here, and products at that scale.
use Rattle.std.specs.Prelude.{ℕ, ◌^◌, ◌<◌}
use Rattle.std.proofs.Common.{arith, lit<}
use Rattle.estimate.specs.Fraction.{Fraction, fraction, ◌≤ᶠ◌, ◌*ᶠ◌}
use Rattle.wide.specs.Scaling.{floor, ceiling}
use Rattle.wide.specs.Rounding.{floor_le, ceiling_ge}

-- THE SCALE
abbrev pub scale : ℕ
scale = 10 ^ 12

pub scale_positive : 0 < scale
scale_positive = lit< tt

-- w stands for w / 10^12
unfoldable pub scaled : ℕ → Fraction
unfolding fraction
scaled w = fraction w scale scale_positive

-- a product at the scale, rounded down and rounded up
pub product_down-≤ : (a b : ℕ) → scaled (floor a b scale) ≤ᶠ scaled a *ᶠ scaled b
unfolding scaled fraction ◌*ᶠ◌
product_down-≤ a b = record { cross = omega (arith, floor_le a b scale) }

pub product_up-≥ : (a b : ℕ) → scaled a *ᶠ scaled b ≤ᶠ scaled (ceiling a b scale)
unfolding scaled fraction ◌*ᶠ◌
product_up-≥ a b = record { cross = omega (arith, ceiling_ge a b scale scale_positive) }
