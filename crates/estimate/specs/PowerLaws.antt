-- Laws of bounds t/S of powers A^(p/q), over every exponent p and denominator q: why they stand at every depth, and what they make.
use Rattle.std.specs.Prelude.{ℕ, ◌+◌, ◌*◌, ◌^◌, ◌<◌, ◌≡◌}
use Rattle.std.proofs.Common.{mul-le-mul_left, arith, pow-add}
use Rattle.std.proofs.Math.Nat.{pow-le-pow_left}
use Rattle.estimate.specs.WholePower.{mul_pow, pow_mul, pow_le_cancel}
use Rattle.estimate.specs.Power.{AtMostPower, AtLeastPower}

-- OTHER EXPONENTS

module _ (A p q S t k : ℕ) where
  -- an exponent that is not in lowest terms: from p/q to (p k)/(q k)
  pub power_low_lift : AtMostPower t S A p q → AtMostPower t S A (p * k) (q * k)
  power_low_lift h = rw (pow_mul t q k, pow_mul A p k, pow_mul S q k, ← mul_pow (A ^ p) (S ^ q) k) (pow-le-pow_left h k)

  pub power_high_lift : AtLeastPower t S A p q → AtLeastPower t S A (p * k) (q * k)
  power_high_lift h = rw (pow_mul t q k, pow_mul A p k, pow_mul S q k, ← mul_pow (A ^ p) (S ^ q) k) (pow-le-pow_left h k)

  -- and back
  pub power_low_reduce : 0 < k → AtMostPower t S A (p * k) (q * k) → AtMostPower t S A p q
  power_low_reduce hk h = pow_le_cancel k hk (rw (mul_pow (A ^ p) (S ^ q) k, ← pow_mul t q k, ← pow_mul A p k, ← pow_mul S q k) h)

  pub power_high_reduce : 0 < k → AtLeastPower t S A (p * k) (q * k) → AtLeastPower t S A p q
  power_high_reduce hk h = pow_le_cancel k hk (rw (mul_pow (A ^ p) (S ^ q) k, ← pow_mul t q k, ← pow_mul A p k, ← pow_mul S q k) h)

  -- a whole power beside it: from p/q to k + p/q
  whole_power : A ^ (k * q + p) * S ^ q ≡ (A ^ k) ^ q * (A ^ p * S ^ q)
  whole_power = rw (pow-add A (k * q) p, pow_mul A k q) (omega arith)

  pub power_low_whole_part : AtMostPower t S A p q → AtMostPower (A ^ k * t) S A (k * q + p) q
  power_low_whole_part h = rw (mul_pow (A ^ k) t q, whole_power) (mul-le-mul_left ((A ^ k) ^ q) h)

  pub power_high_whole_part : AtLeastPower t S A p q → AtLeastPower (A ^ k * t) S A (k * q + p) q
  power_high_whole_part h = rw (mul_pow (A ^ k) t q, whole_power) (mul-le-mul_left ((A ^ k) ^ q) h)
