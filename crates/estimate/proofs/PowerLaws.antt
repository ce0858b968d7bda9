-- Laws of PowerLaws in specs/.
use Rattle.std.specs.Prelude.{ℕ, ◌+◌, ◌*◌, ◌^◌, ◌≤◌, ◌<◌}
use Rattle.std.proofs.Common.{le_of_lt, le_of_mul-le-mul_right, lt_of_not-le, arith, add-one}
use Rattle.std.proofs.Math.Nat.{mul-le-mul_right, one-le-pow, pow-le-pow_left, not-suc-le_self}
use Rattle.estimate.specs.Fraction.{◌≤ᶠ◌, fraction, decimal, whole}
use Rattle.estimate.specs.Standing.{LowRight, HighRight}
use Rattle.estimate.specs.WholePower.{mul_pow, pow_le_cancel}
use Rattle.estimate.specs.Power.{AtMostPower, AtLeastPower, power_largest, power_under, power_over, power_largest_is}

-- STANDING

-- a bound from below at the scale S and one from above at the scale R, of one number's root, stand in that order
pub root_bounds_in_order : (X q a b S R : ℕ) → 0 < q → a ^ q ≤ X * S ^ q → X * R ^ q ≤ b ^ q → a * R ≤ b * S
root_bounds_in_order X q a b S R hq h k =
    pow_le_cancel q hq (rw (mul_pow a R q, mul_pow b S q) (omega (arith, mul-le-mul_right (R ^ q) h, mul-le-mul_right (S ^ q) k)))

module _ (A p q : ℕ) (hq : 0 < q) where
  -- t + 1 does not pass
  pub above_power : (d : ℕ) → AtLeastPower (power_largest d A p q + 1) (10 ^ d) A p q
  above_power d = le_of_lt (lt_of_not-le (λ h. not-suc-le_self _ (rw add-one at ((power_largest_is d A p q hq).most (power_largest d A p q + 1) h))))

  module _ (t S : ℕ) (hS : 0 < S) where
    pub power_low_stands : AtMostPower t S A p q → LowRight (fraction t S hS) (λ d. power_over d A p q)
    unfolding fraction power_over decimal
    power_low_stands h = record { at = λ d _. record { cross = root_bounds_in_order (A ^ p) q t _ S (10 ^ d) hq h (above_power d) } }

    pub power_high_stands : AtLeastPower t S A p q → HighRight (fraction t S hS) (λ d. power_under d A p q)
    unfolding fraction power_under decimal
    power_high_stands h = record { at = λ d _. record { cross = root_bounds_in_order (A ^ p) q _ t (10 ^ d) S hq (power_largest_is d A p q hq).holds h } }

  -- A from 1: the power is at least 1
  pub power_under-≥-one : 1 ≤ A → (d : ℕ) → whole 1 ≤ᶠ power_under d A p q
  unfolding whole power_under decimal
  power_under-≥-one hA d = omega (arith, (power_largest_is d A p q hq).most (10 ^ d) (omega (arith, mul-le-mul_right ((10 ^ d) ^ q) (one-le-pow p A hA))))

-- PRODUCTS

-- the power of a product that was rounded down, or up
le_pow_mul : (a b c R q : ℕ) → c * R ≤ a * b → c ^ q * R ^ q ≤ a ^ q * b ^ q
le_pow_mul a b c R q l = rw (← mul_pow c R q, ← mul_pow a b q) (pow-le-pow_left l q)

-- bounds of N^(p/q) at the scale S and of (A/N)^(p/q) at the scale R multiply to bounds of A^(p/q) at the scale S
module _ (A N p q S R a b c : ℕ) (hR : 0 < R) where
  pub power_low_remainder : AtMostPower a S N p q → b ^ q * N ^ p ≤ A ^ p * R ^ q → c * R ≤ a * b → AtMostPower c S A p q
  power_low_remainder h k l =
      le_of_mul-le-mul_right {k = R ^ q} (omega (arith, le_pow_mul a b c R q l, mul-le-mul_right (b ^ q) h, mul-le-mul_right (S ^ q) k)) (one-le-pow q R hR)

  pub power_high_remainder : AtLeastPower a S N p q → A ^ p * R ^ q ≤ b ^ q * N ^ p → a * b ≤ c * R → AtLeastPower c S A p q
  power_high_remainder h k l =
      le_of_mul-le-mul_right {k = R ^ q} (omega (arith, le_pow_mul c R a b q l, mul-le-mul_right (b ^ q) h, mul-le-mul_right (S ^ q) k)) (one-le-pow q R hR)

-- bounds of n^(p/q) and of m^(p/q), both at the scale S, multiply to bounds of (n m)^(p/q) at the scale S
module _ (n m p q S a b c : ℕ) (hS : 0 < S) where
  pub power_low_product : AtMostPower a S n p q → AtMostPower b S m p q → c * S ≤ a * b → AtMostPower c S (n * m) p q
  power_low_product h k l = power_low_remainder (n * m) n p q S S a b c hS h (rw (mul_pow n m p) (omega (arith, mul-le-mul_right (n ^ p) k))) l

  pub power_high_product : AtLeastPower a S n p q → AtLeastPower b S m p q → a * b ≤ c * S → AtLeastPower c S (n * m) p q
  power_high_product h k l = power_high_remainder (n * m) n p q S S a b c hS h (rw (mul_pow n m p) (omega (arith, mul-le-mul_right (n ^ p) k))) l
