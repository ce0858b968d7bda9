-- A^(p/q) at depth d, for any p and any q from 1 (document 01 has q = 100).
use Rattle.std.specs.Prelude.{ℕ, zero, suc, ◌+◌, ◌*◌, ◌^◌, ◌≤◌, ◌<◌, ◌≡◌, leb}
use Rattle.std.proofs.Common.{zero-le, le_trans, mul-zero, pow-suc, mul-le-mul_right, zero-lt-suc, not-suc-le-zero, not-le_of_lt, arith, add-one, leb→le, le→leb}
use Rattle.std.proofs.Math.Nat.{pow-le-pow_left, one-le-pow}
use Rattle.estimate.specs.Fraction.{Fraction, ◌=ᶠ◌, decimal, ◌÷◌}
use Rattle.estimate.specs.Search.{largest, Largest, largest_of_all, largest_unique, largest_by_neighbour}
use Rattle.estimate.specs.WholePower.{mul_pow, pow_le_cancel}

-- t/S is at most A^(p/q): "(t/10^d)^100 at most A^p", with S for 10^d and q for 100, and without the division
abbrev pub AtMostPower : (t S A p q : ℕ) → Type 0
AtMostPower t S A p q = t ^ q ≤ A ^ p * S ^ q

-- t/S is at least A^(p/q)
abbrev pub AtLeastPower : (t S A p q : ℕ) → Type 0
AtLeastPower t S A p q = A ^ p * S ^ q ≤ t ^ q

-- the largest t with t/10^d at most A^(p/q), found up to A^p * 10^d
unfoldable pub power_largest : (d A p q : ℕ) → ℕ
power_largest d A p q = largest (λ t. leb (t ^ q) (A ^ p * (10 ^ d) ^ q)) (A ^ p * 10 ^ d)

-- "under is the largest t/10^d"
unfoldable pub power_under : (d A p q : ℕ) → Fraction
power_under d A p q = decimal d (power_largest d A p q)

-- "over is (t+1)/10^d"
unfoldable pub power_over : (d A p q : ℕ) → Fraction
power_over d A p q = decimal d (power_largest d A p q + 1)

-- what passes is within the bound, since a number is at most its powers
le_pow : (a q : ℕ) → 0 < q → a ≤ a ^ q
le_pow zero q h = zero-le
le_pow (suc a) zero h = absurd (not-suc-le-zero h)
le_pow (suc a) (suc q) h = rw (pow-suc (suc a) q) (omega (arith, mul-le-mul_right (suc a) (one-le-pow q (suc a) (zero-lt-suc a))))

within : (X q S t : ℕ) → 0 < q → t ^ q ≤ X * S ^ q → t ≤ X * S
within X q S t hq h = pow_le_cancel q hq (le_trans h (rw (mul_pow X S q) (mul-le-mul_right (S ^ q) (le_pow X q hq))))

zero_passes : (q n : ℕ) → 0 < q → 0 ^ q ≤ n
zero_passes zero n h = absurd (not-suc-le-zero h)
zero_passes (suc q) n h = rw (pow-suc 0 q, mul-zero) zero-le

-- it is the largest of all whole numbers, for every A, 0 too
pub power_largest_is : (d A p q : ℕ) → 0 < q → Largest (λ t. AtMostPower t (10 ^ d) A p q) (power_largest d A p q)
unfolding power_largest
power_largest_is d A p q hq =
    largest_of_all (λ t. AtMostPower t (10 ^ d) A p q) _ (λ t h. leb→le _ _ h) (λ t h. le→leb _ _ h) _
    (zero_passes q _ hq) (λ t h. omega (arith, within (A ^ p) q (10 ^ d) t hq h))

-- by certificate: t passes and t + 1 does not
pub power_largest_value : (d A p q t : ℕ) → 0 < q → AtMostPower t (10 ^ d) A p q → A ^ p * (10 ^ d) ^ q < (t + 1) ^ q → power_largest d A p q ≡ t
power_largest_value d A p q t hq h k =
    largest_unique (power_largest_is d A p q hq)
    (largest_by_neighbour (λ r s l g. le_trans (pow-le-pow_left l q) g) h (λ g. not-le_of_lt k (rw add-one g)))

-- both estimates by the same certificate
pub record PowerValue (d A p q t : ℕ) : Type 0 where
  pub under : power_under d A p q ≡ decimal d t
  pub over : power_over d A p q ≡ decimal d (t + 1)

-- "32^0.60 at depth 1: 8.0 and 8.1"
pub record ThirtyTwoToSixTenths : Type 0 where
  pub under : power_under 1 32 60 100 =ᶠ 80 ÷ 10
  pub over : power_over 1 32 60 100 =ᶠ 81 ÷ 10
