-- Laws of ExpectedLaws in specs/.
use Rattle.std.specs.Prelude.{ℕ, ◌+◌, ◌*◌, ◌≤◌, ◌<◌, ◌≡◌}
use Rattle.std.proofs.Common.{ap, mul-pos, arith}
use Rattle.std.proofs.Math.Nat.{mul-le-mul_left, mul-le-mul_right}
use Rattle.estimate.specs.Fraction.{Fraction, fraction, ◌≤ᶠ◌, ◌÷◌, millionths}
use Rattle.estimate.specs.FractionLaws.{≤ᶠ-trans}
use Rattle.estimate.specs.Standing.{LowRight, HighRight}
use Rattle.wide.specs.Scaling.{floor, ceiling}
use Rattle.wide.specs.Rounding.{Narrow, floor_le, floor_lt, ceiling_ge, ceiling_lt, ≤-floor, floor-≤, ≤-ceiling, ceiling-≤, scaled_order, rounded_width}
use Rattle.model.specs.Expected.{weighed, expected_low, expected_high}
use Rattle.model.specs.ExpectedLaws.{weighed_mono}

-- what a rounding E of a million times n K / D says, times another denominator F
module _ (E D n K F : ℕ) where
  rounded_up_below : E * D < 1000000 * (n * K) + D → E * (D * F) ≤ n * (1000000 * K) * F + D * F
  rounded_up_below h = omega (arith, mul-le-mul_right F h)

  rounded_up_above : 1000000 * (n * K) ≤ E * D → n * (1000000 * K) * F ≤ E * (D * F)
  rounded_up_above h = omega (arith, mul-le-mul_right F h)

  rounded_down_near : 1000000 * (n * K) < E * D + D → n * (1000000 * K) * F ≤ E * (F * D) + F * D
  rounded_down_near h = omega (arith, mul-le-mul_right F h)

-- two figures x / (B + u) and y / (B + v) where x u = y v, from x / B and y / B
further : (R r c x y B u v : ℕ) → x * u ≡ y * v → R * (x * B) ≤ R * (y * B) + c * (B * B) + r * (x * B) →
    R * (x * (B + u)) ≤ R * (y * (B + v)) + c * ((B + v) * (B + u)) + r * (x * (B + u))
further R r c x y B u v e h = omega (arith, ap (λ z. R * z) e)

near : (R w r c low high P B : ℕ) → R * high ≤ R * low + R * w + r * high → R * w * P ≤ c * B →
    R * (high * P * B) ≤ R * (low * P * B) + c * (B * B) + r * (high * P * B)
near R w r c low high P B n h = omega (arith, mul-le-mul_right (P * B) n, mul-le-mul_left B h)

-- the two figures of a pair before they are rounded, over the product of their denominators B + a low and B + a high
apart : (R w r c low high P B a : ℕ) → R * high ≤ R * low + R * w + r * high → R * w * P ≤ c * B →
    R * (high * P * (B + a * low)) ≤ R * (low * P * (B + a * high)) + c * ((B + a * high) * (B + a * low)) + r * (high * P * (B + a * low))
apart R w r c low high P B a n h = further R r c (high * P) (low * P) B (a * low) (a * high) (omega arith) (near R w r c low high P B n h)

same_product : (R d w K : ℕ) → R * d * w * (1000000 * K) ≤ R * (w * K) * (d * 1000000)
same_product R d w K = omega arith

module _ (k : Fraction) (O : ℕ) where
  -- the formula's denominator at n millionths, over k's
  denominator : ℕ → ℕ
  denominator n = k.den * 1000000 + k.num * n

  denominator_positive : (n : ℕ) → 0 < denominator n
  unfolding denominator
  denominator_positive n = omega (arith, k.pos)

  low_is : (n : ℕ) → millionths (expected_low k O n) ≤ᶠ weighed k O (millionths n)
  unfolding expected_low weighed millionths ◌÷◌ fraction
  low_is n = record { cross = omega (arith, floor_le 1000000 (n * (k.den + k.num * O)) (k.den * 1000000 + k.num * n)) }

  high_is : (n : ℕ) → weighed k O (millionths n) ≤ᶠ millionths (expected_high k O n)
  unfolding expected_high weighed millionths ◌÷◌ fraction denominator
  high_is n = record { cross = omega (arith, ceiling_ge 1000000 (n * (k.den + k.num * O)) (k.den * 1000000 + k.num * n) (denominator_positive n)) }

  -- THEY STAND: "its estimates are this at N's estimates"
  pub expected_low_right : (n : ℕ) {over : ℕ → Fraction} → LowRight (millionths n) over → LowRight (millionths (expected_low k O n)) (λ d. weighed k O (over d))
  expected_low_right n h = record { at = λ d l. ≤ᶠ-trans (low_is n) (weighed_mono k O (h.at d l)) }

  pub expected_high_right : (n : ℕ) {under : ℕ → Fraction} → HighRight (millionths n) under
      → HighRight (millionths (expected_high k O n)) (λ d. weighed k O (under d))
  expected_high_right n h = record { at = λ d l. ≤ᶠ-trans (weighed_mono k O (h.at d l)) (high_is n) }

  -- "No low passes its high"
  pub expected_in_order : (low high : ℕ) → low ≤ high → expected_low k O low ≤ expected_high k O high
  unfolding expected_low expected_high weighed millionths ◌÷◌ fraction denominator
  expected_in_order low high l =
      scaled_order 1000000 1000000 _ _ _ _ (denominator_positive low) (denominator_positive high) (omega arith)
      (omega (arith, mul-le-mul_left (k.den * (k.den + k.num * O) * 1000000) l))

  -- IT LIES BETWEEN: from the lesser to the greater of the prediction and the history, in millionths
  module _ (n : ℕ) (few : O * 1000000 ≤ n) where
    below_prediction : 1000000 * (n * (k.den + k.num * O)) ≤ n * (k.den * 1000000 + k.num * n)
    below_prediction = omega (arith, mul-le-mul_left (k.num * n) few)

    above_history : O * 1000000 * (k.den * 1000000 + k.num * n) ≤ 1000000 * (n * (k.den + k.num * O))
    above_history = omega (arith, mul-le-mul_left (k.den * 1000000) few)

    pub history-≤-expected_low : O * 1000000 ≤ expected_low k O n
    unfolding expected_low weighed millionths ◌÷◌ fraction denominator
    history-≤-expected_low = ≤-floor 1000000 _ _ _ (denominator_positive n) above_history

    pub expected_low-≤-prediction : expected_low k O n ≤ n
    unfolding expected_low weighed millionths ◌÷◌ fraction denominator
    expected_low-≤-prediction = floor-≤ 1000000 _ _ _ (denominator_positive n) below_prediction

    pub history-≤-expected_high : O * 1000000 ≤ expected_high k O n
    unfolding expected_high weighed millionths ◌÷◌ fraction denominator
    history-≤-expected_high = ≤-ceiling 1000000 _ _ _ (denominator_positive n) above_history

    pub expected_high-≤-prediction : expected_high k O n ≤ n
    unfolding expected_high weighed millionths ◌÷◌ fraction denominator
    expected_high-≤-prediction = ceiling-≤ 1000000 _ _ _ (denominator_positive n) below_prediction

  module _ (n : ℕ) (many : n ≤ O * 1000000) where
    above_prediction : n * (k.den * 1000000 + k.num * n) ≤ 1000000 * (n * (k.den + k.num * O))
    above_prediction = omega (arith, mul-le-mul_left (k.num * n) many)

    below_history : 1000000 * (n * (k.den + k.num * O)) ≤ O * 1000000 * (k.den * 1000000 + k.num * n)
    below_history = omega (arith, mul-le-mul_left (k.den * 1000000) many)

    pub prediction-≤-expected_low : n ≤ expected_low k O n
    unfolding expected_low weighed millionths ◌÷◌ fraction denominator
    prediction-≤-expected_low = ≤-floor 1000000 _ _ _ (denominator_positive n) above_prediction

    pub expected_low-≤-history : expected_low k O n ≤ O * 1000000
    unfolding expected_low weighed millionths ◌÷◌ fraction denominator
    expected_low-≤-history = floor-≤ 1000000 _ _ _ (denominator_positive n) below_history

    pub prediction-≤-expected_high : n ≤ expected_high k O n
    unfolding expected_high weighed millionths ◌÷◌ fraction denominator
    prediction-≤-expected_high = ≤-ceiling 1000000 _ _ _ (denominator_positive n) above_prediction

    pub expected_high-≤-history : expected_high k O n ≤ O * 1000000
    unfolding expected_high weighed millionths ◌÷◌ fraction denominator
    expected_high-≤-history = ceiling-≤ 1000000 _ _ _ (denominator_positive n) below_history

  -- THE WIDTH: a predicted pair that is w + (r / R) high apart gives an expected pair that is w (1 + kO) + 2 + (r / R) high apart
  module _ (R w r low high : ℕ) (narrow : Narrow R w r low high) where
    pub expected_width : R * k.den * expected_high k O high
        ≤ R * k.den * expected_low k O low + (R * (w * (k.den + k.num * O)) + 2 * (R * k.den)) + r * k.den * expected_high k O high
    unfolding expected_low expected_high weighed millionths ◌÷◌ fraction denominator
    expected_width =
        let K = k.den + k.num * O in
        let DL = k.den * 1000000 + k.num * low in
        let DH = k.den * 1000000 + k.num * high in
        rounded_width (R * k.den) (R * (w * K)) (r * k.den) (floor 1000000 (low * K) DL) (ceiling 1000000 (high * K) DH)
        (high * (1000000 * K) * DL) (low * (1000000 * K) * DH) (DH * DL)
        (mul-pos (denominator_positive high) (denominator_positive low))
        (apart (R * k.den) w (r * k.den) (R * (w * K)) low high (1000000 * K) (k.den * 1000000) k.num
        (omega (arith, mul-le-mul_right k.den narrow.width)) (same_product R k.den w K))
        (rounded_up_below (ceiling 1000000 (high * K) DH) DH high K DL (ceiling_lt 1000000 (high * K) DH (denominator_positive high)))
        (rounded_up_above (ceiling 1000000 (high * K) DH) DH high K DL (ceiling_ge 1000000 (high * K) DH (denominator_positive high)))
        (rounded_down_near (floor 1000000 (low * K) DL) DL low K DH (floor_lt 1000000 (low * K) DL (denominator_positive low)))
