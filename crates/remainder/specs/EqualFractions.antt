-- EQUAL FRACTIONS HAVE THE SAME BOUNDS of what a rest adds to a power, those at p/q and at (p c)/(q c), and the first factor of a
-- number of its own: for exponents in thousandths.
use Rattle.std.specs.Prelude.{ℕ, ◌*◌, ◌≤◌, ◌<◌, ◌≡◌}
use Rattle.std.proofs.Common.{ap, sym, mul-pos, mul-le-mul_right, arith, lit<}
use native.Mathlib.Nat.{mul-lt-mul_of_pos_right, mul_assoc, mul-div-mul_right}
use Rattle.laws.specs.Quotient.{quotient_down, quotient_up, quotient_up_lem, rounded_up_is}
use Rattle.remainder.specs.Remainder.{log_low, log_high, exponential_low, exponential_high, remainder_low, remainder_high}
use Rattle.remainder.specs.Split.{first_factor}

module _ (p q c : ℕ) (hq : 0 < q) (hc : 0 < c) where
  down_lifted : (y : ℕ) → quotient_down (y * (p * c)) (q * c) ≡ quotient_down (y * p) q
  down_lifted y = rw (← mul_assoc y p c) (mul-div-mul_right (y * p) q hc)

  up_lifted : (y : ℕ) → quotient_up (y * (p * c)) (q * c) ≡ quotient_up (y * p) q
  up_lifted y =
      let f = quotient_up_lem (y * p) q hq in
      sym (rounded_up_is (mul-pos hq hc)
      (record { above = omega (arith, mul-le-mul_right c f.above); near = omega (arith, mul-lt-mul_of_pos_right f.near hc) }))

  pub remainder_low_lifted : (N r : ℕ) → remainder_low N r (p * c) (q * c) ≡ remainder_low N r p q
  unfolding remainder_low
  remainder_low_lifted N r = ap exponential_low (down_lifted (log_low N r))

  pub remainder_high_lifted : (N r : ℕ) → remainder_high N r (p * c) (q * c) ≡ remainder_high N r p q
  unfolding remainder_high
  remainder_high_lifted N r = ap exponential_high (up_lifted (log_high N r))

-- the first factor apart from the second's bound, at most 79 for a number up to 20,000
pub first_factor-≤ : (a b : ℕ) → a ≤ b * 256 → first_factor a ≤ b
unfolding first_factor
first_factor-≤ a b h = omega (arith, (quotient_up_lem a 256 (lit< tt)).near)
