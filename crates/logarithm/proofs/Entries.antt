-- The table's rule: one test, computed over the table, and one law that carries it to each entry of any table that passes.
use Prim.Native.Nat.{ℕ, zero, suc, ◌+◌, ◌-◌, ◌≤◌, ◌<◌}
use mathlib.Core.Bool.{Bool}
use mathlib.Core.List.{List}
use mathlib.Core.Path.{◌≡◌, sym, ◌∙◌}
use native.Mathlib.Nat.{mul-pos}
use native.Mathlib.Numerals.{add-one}
use native.Mathlib.Omega.{arith}
use lib.Dec.{T, leb, leb→le, lit<}
use lib.ListN.{get_or}
use Rattle.laws.specs.Table.{both, both_left, both_right, passes_all, entry_passes}
use Rattle.estimate.specs.Fraction.{Fraction, ◌≤ᶠ◌, ◌<ᶠ◌, leᶠ, fraction, whole, decimal}
use Rattle.estimate.specs.FractionLaws.{leᶠ-sound, whole_mono, ≤ᶠ-<ᶠ-trans, <ᶠ-≤ᶠ-trans}
use Rattle.estimate.specs.Exponential.{term_num, term_den, partial_sum, sum_with_tail, exp_under, exp_over, term_den_positive}
use Rattle.estimate.proofs.Logarithm.{ln_largest_value}
use Rattle.estimate.specs.Logarithm.{ln_smallest_value}
use Rattle.logarithm.specs.Stored.{stored_low, stored_high, StoredLogarithms}

-- the estimates of e^(t/10^12) at depth 12
abbrev pub over_at : ℕ → Fraction
over_at t = exp_over 12 (decimal 12 t)

abbrev pub under_at : ℕ → Fraction
under_at t = exp_under 12 (decimal 12 t)

-- of k = i + 1: the over-estimate of e^(t/10^12) is at most k, the under-estimate at the next number at least k; only ln 1 may be 0
unfoldable pub right_entry : ℕ → ℕ → Bool
right_entry i t = both (leb i t) (both (leᶠ (over_at t) (whole (i + 1))) (leᶠ (whole (i + 1)) (under_at (suc t))))

-- the test: 256 entries, and each is right
unfoldable pub passes : List ℕ → Bool
passes xs = passes_all right_entry 256 xs

-- THE ESTIMATES OF e^x DIFFER FROM x > 0 ON

term_positive : (n i : ℕ) → 0 < n → 0 < term_num n i
unfolding term_num
term_positive n zero h = lit< tt
term_positive n (suc i) h = mul-pos (term_positive n i h) h

sum-<-with_tail : (m : ℕ) (x : Fraction) → 0 < x.num → partial_sum m x <ᶠ sum_with_tail m x
unfolding partial_sum sum_with_tail term_den
sum-<-with_tail m x h = record { cross = omega (arith, mul-pos (term_positive x.num (suc m) h) (term_den_positive x.den m x.pos)) }

under-<-over : (t : ℕ) → 0 < t → under_at t <ᶠ over_at t
unfolding exp_under exp_over
under-<-over t h = sum-<-with_tail 52 (decimal 12 t) (unfold decimal fraction in h)

-- WHAT PASSES IS THE ESTIMATE AT DEPTH 12

module _ (i k t : ℕ) (e : i + 1 ≡ k) (h : T (right_entry i t)) where
  tests : T (both (leb i t) (both (leᶠ (over_at t) (whole k)) (leᶠ (whole k) (under_at (suc t)))))
  unfolding right_entry
  tests = rw e at h

  last_two : T (both (leᶠ (over_at t) (whole k)) (leᶠ (whole k) (under_at (suc t))))
  last_two = both_right (leb i t) _ tests

  passed : over_at t ≤ᶠ whole k
  passed = leᶠ-sound (over_at t) (whole k) (both_left (leᶠ (over_at t) (whole k)) _ last_two)

  next : whole k ≤ᶠ under_at (suc t)
  next = leᶠ-sound (whole k) (under_at (suc t)) (both_right (leᶠ (over_at t) (whole k)) _ last_two)

  low_is : t ≡ stored_low k
  unfolding stored_low
  low_is = sym (ln_largest_value 12 (whole k) t (whole_mono (omega arith)) passed (≤ᶠ-<ᶠ-trans next (under-<-over (suc t) (omega arith))))

  high_is : 2 ≤ k → t + 1 ≡ stored_high k
  unfolding stored_high
  high_is l =
      let from : i ≤ t = leb→le i t (both_left (leb i t) _ tests) in
      add-one t ∙ sym (ln_smallest_value 12 (whole k) t next (<ᶠ-≤ᶠ-trans (under-<-over t (omega arith)) passed))

-- what passes has the stored bounds
pub stored_by_test : (xs : List ℕ) → T (passes xs) → StoredLogarithms xs
unfolding passes
stored_by_test xs t = record {
  low = λ k from to. low_is (k - 1) k (get_or xs (k - 1) 0) (omega arith) (right k from to);
  high = λ k from to. high_is (k - 1) k (get_or xs (k - 1) 0) (omega arith) (right k (omega arith) to) from;
}
  where
    right : (k : ℕ) → 1 ≤ k → k ≤ 256 → T (right_entry (k - 1) (get_or xs (k - 1) 0))
    right k from to = entry_passes right_entry 256 xs t (k - 1) (omega arith)
