-- Powers of whole numbers: of a product, to a product, and how they keep an order.
use Rattle.std.specs.Prelude.{ℕ, zero, suc, ◌*◌, ◌^◌, ◌≤◌, ◌<◌, ◌≡◌}
use Rattle.std.proofs.Math.Nat.{pow-zero, mul-mul-mul_comm, pow-lt-pow_left}
use Rattle.std.proofs.Common.{pow-suc, mul-zero, mul-suc, lt_of_not-le, lt_irrefl, lt_of_lt_of_le, ne_of_gt, pow-add}
use Rattle.std.proofs.Math.Decide.{dec_le}

pub mul_pow : (a b n : ℕ) → (a * b) ^ n ≡ a ^ n * b ^ n
mul_pow a b zero = simp pow-zero
mul_pow a b (suc n) = simp (pow-suc, mul_pow a b n, mul-mul-mul_comm)

pub pow_mul : (a m n : ℕ) → a ^ (m * n) ≡ (a ^ m) ^ n
pow_mul a m zero = simp (mul-zero, pow-zero)
pow_mul a m (suc n) = simp (mul-suc, pow-add, pow-suc, pow_mul a m n)

-- a root keeps an order
pub pow_le_cancel : (q : ℕ) {a b : ℕ} → 0 < q → a ^ q ≤ b ^ q → a ≤ b
pow_le_cancel q {a} {b} hq h = by_cases (dec_le a b)
  where
    by_cases : Dec (a ≤ b) → a ≤ b
    by_cases (yes l) = l
    by_cases (no f) = absurd (lt_irrefl (b ^ q) (lt_of_lt_of_le (pow-lt-pow_left (lt_of_not-le f) (ne_of_gt hq)) h))
