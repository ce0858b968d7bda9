-- "Stored bounds of powers for A from 1 to 256 at the five exponents are one constant table, checked against these definitions": the estimates at depth 9.
use Rattle.std.specs.Prelude.{ℕ, ◌+◌, ◌-◌, ◌*◌, ◌^◌, ◌≤◌, ◌<◌, List, ◌≡◌, get_or}
use Rattle.std.proofs.Math.Path.{refl}
use Rattle.std.proofs.Common.{le_trans, mul_comm, arith}
use Rattle.std.proofs.Math.Nat.{mul-le-mul_right, one-le-pow, pow-le-pow_left, pow-le-pow_right}
use Rattle.estimate.specs.WholePower.{mul_pow, pow_mul, pow_le_cancel}
use Rattle.estimate.specs.Power.{power_largest, power_largest_is}
use Rattle.estimate.proofs.PowerLaws.{above_power}
use Rattle.remainder.specs.Remainder.{Exponent}
use Rattle.bracket.specs.declared.Bounds.{Bounds}
use Rattle.power.specs.Exponents.{exponent_at}

-- the bounds' denominator
abbrev pub billion : ℕ
billion = 10 ^ 9

-- the under-estimate of k^(p/q) at depth 9, in billionths
unfoldable pub stored_low : (k p q : ℕ) → ℕ
stored_low k p q = power_largest 9 k p q

-- and the over-estimate
unfoldable pub stored_high : (k p q : ℕ) → ℕ
stored_high k p q = power_largest 9 k p q + 1

-- both
abbrev pub stored_bounds : (k p q : ℕ) → Bounds
stored_bounds k p q = record { low = stored_low k p q; high = stored_high k p q }

-- where the table has the bounds of k at the exponent of a place: the lower here, the upper next to it
abbrev pub entry : (e k : ℕ) → ℕ
entry e k = 2 * (e * 256 + (k - 1))

-- a table that has the stored bounds at each entry
pub record StoredPowers (table : List ℕ) : Type 0 where
  pub low : (e k : ℕ) → e < 5 → 1 ≤ k → k ≤ 256 → get_or table (entry e k) 0 ≡ stored_low k (exponent_at e) 100
  pub high : (e k : ℕ) → e < 5 → 1 ≤ k → k ≤ 256 → get_or table (entry e k + 1) 0 ≡ stored_high k (exponent_at e) 100

-- A LOWER BOUND OF k^(1/c) IS ONE OF k^(p/q) FOR EVERY EXPONENT FROM 1/c ON

pow_swap : (a m n : ℕ) → (a ^ m) ^ n ≡ (a ^ n) ^ m
pow_swap a m n = rw (← pow_mul a m n, ← pow_mul a n m, mul_comm m n)

root_below_power : (k p q c w S : ℕ) → 0 < k → 0 < c → q ≤ p * c → w ^ c ≤ k * S ^ c → w ^ q ≤ k ^ p * S ^ q
root_below_power k p q c w S hk hc part h =
    pow_le_cancel c hc
    (rw (pow_swap w q c, mul_pow (k ^ p) (S ^ q) c, pow_swap S q c, ← pow_mul k p c)
    (le_trans (pow-le-pow_left h q) (rw (mul_pow k (S ^ c) q) (mul-le-mul_right ((S ^ c) ^ q) (pow-le-pow_right hk part)))))

-- THEY ARE BOUNDS, FOR EVERY BASE AND EXPONENT

module _ (k p q : ℕ) (e : Exponent p q) where
  pub stored_low_stands : stored_low k p q ^ q ≤ k ^ p * billion ^ q
  unfolding stored_low
  stored_low_stands = (power_largest_is 9 k p q e.positive).holds

  pub stored_high_stands : k ^ p * billion ^ q ≤ stored_high k p q ^ q
  unfolding stored_high
  stored_high_stands = above_power k p q e.positive 9

  pub stored_near : stored_high k p q ≡ stored_low k p q + 1
  unfolding stored_low stored_high
  stored_near = refl

  -- at most c, where k^p is at most c^q
  pub stored_below : (c : ℕ) → k ^ p ≤ c ^ q → stored_low k p q ≤ c * billion
  stored_below c h = pow_le_cancel q e.positive (le_trans stored_low_stands (rw (mul_pow c billion q) (mul-le-mul_right (billion ^ q) h)))

  module _ (h : 1 ≤ k) where
    pub stored_from_one : billion ≤ stored_low k p q
    unfolding stored_low
    stored_from_one = (power_largest_is 9 k p q e.positive).most billion (omega (arith, mul-le-mul_right (billion ^ q) (one-le-pow p k h)))

    -- at least a lower bound of b^(1/c), for a k from b and an exponent from 1/c on
    pub stored_from_root : (b c w : ℕ) → 0 < c → q ≤ p * c → b ≤ k → w ^ c ≤ b * billion ^ c → w ≤ stored_low k p q
    unfolding stored_low
    stored_from_root b c w hc part hb hw =
        (power_largest_is 9 k p q e.positive).most w (root_below_power k p q c w billion h hc part (le_trans hw (mul-le-mul_right (billion ^ c) hb)))
