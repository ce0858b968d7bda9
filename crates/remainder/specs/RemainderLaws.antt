-- The bounds of ((N+r)/N)^(p/q), for every exponent p/q up to 1: that they are bounds, how near they are and how large.
use Rattle.std.specs.Prelude.{ℕ, ◌+◌, ◌*◌, ◌^◌, ◌≤◌, ◌<◌, ◌≡◌}
use Rattle.std.proofs.Common.{mul-le-mul, mul-le-mul_left, mul-le-mul_right, arith, lit<, lit≤}
use Rattle.estimate.proofs.Remainder.{ratio_power_low_whole, ratio_power_high_whole}
use Rattle.laws.specs.Quotient.{quotient_down, quotient_up, RoundedDown, RoundedUp, rounded_down, down_near, quotient_up_lem, at_most}
use Rattle.remainder.specs.Remainder.{SmallRest, Exponent, most_denominator, most_log, scale, log_low, log_high, remainder_low, remainder_high, NearOne}
use Rattle.remainder.specs.LogarithmBounds.{log_low_stands, log_low_small, log_high_stands, log_high_small, log_near, log_near_whole}
use Rattle.remainder.specs.ExponentialBounds.{ExponentialLow, ExponentialHigh, exponential_low_is, exponential_high_is, exponentials_near}

-- A NUMBER TIMES p/q

module _ {p q : ℕ} (e : Exponent p q) where
  -- rounded either way
  pub part_small : {y x : ℕ} → y ≤ most_log → x * q < y * p + q → x ≤ 4000000000
  part_small {y} {x} h near = let x-≤ = at_most x q y (omega (arith, near, mul-le-mul_left y e.at_most_one)) in omega arith

  parts_near : (y y' c d : ℕ) {x x' : ℕ} → y' ≤ y + c → c * p + q ≤ d * q → RoundedDown (y * p) q x → RoundedUp (y' * p) q x' → x' ≤ x + d
  parts_near y y' c d {x} {x'} h k f g = at_most x' q (x + d) (omega (arith, f.near, g.near, mul-le-mul_right p h))

  -- where the denominator is small, the product before the division fits
  pub part_fits : {y : ℕ} → q ≤ most_denominator → y ≤ most_log → y * p ≤ most_log * most_denominator
  part_fits few h = mul-le-mul {m₂ = most_denominator} h (omega arith)

module _ (N r p q : ℕ) (s : SmallRest N r) (e : Exponent p q) where
  low_part : RoundedDown (log_low N r * p) q (quotient_down (log_low N r * p) q)
  low_part = rounded_down (log_low N r * p) q e.positive

  high_part : RoundedUp (log_high N r * p) q (quotient_up (log_high N r * p) q)
  high_part = quotient_up_lem (log_high N r * p) q e.positive

  low_part_small : quotient_down (log_low N r * p) q ≤ 4000000000
  low_part_small = part_small e (log_low_small N r s) (down_near (log_low N r * p) q e.positive)

  high_part_small : quotient_up (log_high N r * p) q ≤ 4000000000
  high_part_small = part_small e (log_high_small N r s) high_part.near

  low_is : ExponentialLow (quotient_down (log_low N r * p) q) (remainder_low N r p q)
  unfolding remainder_low
  low_is = exponential_low_is (quotient_down (log_low N r * p) q) low_part_small

  high_is : ExponentialHigh (quotient_up (log_high N r * p) q) (remainder_high N r p q)
  unfolding remainder_high
  high_is = exponential_high_is (quotient_up (log_high N r * p) q) high_part_small

  -- (w/10^12)^q ≤ ((N+r)/N)^p, and its mirror
  pub remainder_low_stands : remainder_low N r p q ^ q * N ^ p ≤ (N + r) ^ p * scale ^ q
  remainder_low_stands =
      ratio_power_low_whole N r scale p q 3 (log_low N r) (quotient_down (log_low N r * p) q) (remainder_low N r p q) s.positive (lit< tt)
      (log_low_stands N r s) low_part.below low_is.stands

  pub remainder_high_stands : (N + r) ^ p * scale ^ q ≤ remainder_high N r p q ^ q * N ^ p
  remainder_high_stands =
      ratio_power_high_whole N r scale p q 3 (log_high N r) (quotient_up (log_high N r * p) q) (remainder_high N r p q) s.positive (lit< tt)
      (omega arith) (omega (arith, high_part_small)) (log_high_stands N r s) high_part.above high_is.stands

  -- how near they are, where the logarithm's bounds are c apart at most: d is c p/q, rounded up and one more
  pub remainder_near_by : (c d : ℕ) → log_high N r ≤ log_low N r + c → c * p + q ≤ d * q → d ≤ 7502 → remainder_high N r p q ≤ remainder_low N r p q + (d + 81)
  unfolding remainder_low remainder_high
  remainder_near_by c d near part few =
      exponentials_near (quotient_down (log_low N r * p) q) (quotient_up (log_high N r * p) q) d low_part_small high_part_small few
      (parts_near e (log_low N r) (log_high N r) c d near part low_part high_part)

  -- 7.583 * 10^-9 apart at most, 3.833 * 10^-9 for an exponent up to 1/2, and 0.082 * 10^-9 where there is no rest
  pub remainder_near : remainder_high N r p q ≤ remainder_low N r p q + 7583
  remainder_near = remainder_near_by 7501 7502 (log_near N r s) (omega arith) (lit≤ tt)

  pub remainder_near_to_half : 2 * p ≤ q → remainder_high N r p q ≤ remainder_low N r p q + 3833
  remainder_near_to_half h = remainder_near_by 7501 3752 (log_near N r s) (omega arith) (lit≤ tt)

  pub remainder_near_whole : r ≡ 0 → remainder_high N r p q ≤ remainder_low N r p q + 82
  remainder_near_whole h = remainder_near_by 0 1 (log_near_whole N r s h) (omega arith) (lit≤ tt)

  pub remainder_low_near_one : NearOne (remainder_low N r p q)
  remainder_low_near_one = low_is.near_one

  pub remainder_high_near_one : NearOne (remainder_high N r p q)
  remainder_high_near_one = high_is.near_one
