-- A stored bracket keeps its promise for every exponent of the range, and a table that passes its test has the bracket of each of its
-- exponents.
use Rattle.std.specs.Prelude.{ℕ, ◌+◌, ◌*◌, ◌≤◌, ◌<◌, ◌≡◌, List, T, get_or}
use Rattle.std.proofs.Common.{le_refl, leb→le, eqb→eq}
use Rattle.laws.specs.Table.{both, both_left, both_right, all_below_lem}
use Rattle.estimate.specs.Fraction.{Fraction}
use Rattle.estimate.specs.SignedExponent.{SignedExponent}
use Rattle.exponential.specs.StoredBrackets.{stored_bracket}
use Rattle.exponential.specs.StoredBrackets.{stored_high, stored_at_most, StoredBrackets, low_holds, high_holds, holds_stored, over_stored_scale}

-- its high end bounds it
pub stored_high_bounds : (x : SignedExponent) → (stored_bracket x).high_num * (stored_high x).den ≤ (stored_high x).num * (stored_bracket x).high_den
unfolding stored_high
stored_high_bounds x = le_refl _

pub stored_bounded : (most : Fraction) (x : SignedExponent) → T (stored_at_most most x)
    → (stored_bracket x).high_num * most.den ≤ most.num * (stored_bracket x).high_den
unfolding stored_at_most
stored_bounded most x t = leb→le _ _ t

-- A TABLE THAT PASSES ITS TEST has the stored brackets
module _ (n : ℕ) (exponent : ℕ → SignedExponent) (table : List ℕ) (passed : T (holds_stored n exponent table)) where
  entry_holds : (i : ℕ) → i < n → T (both (low_holds exponent table i) (high_holds exponent table i))
  unfolding holds_stored
  entry_holds i h = all_below_lem (λ i. both (low_holds exponent table i) (high_holds exponent table i)) n passed i h

  pub stored_by_test : StoredBrackets n exponent table
  stored_by_test = record {
    low = λ i h. eqb→eq _ _ (both_left (low_holds exponent table i) (high_holds exponent table i) (entry_holds i h));
    high = λ i h. eqb→eq _ _ (both_right (low_holds exponent table i) (high_holds exponent table i) (entry_holds i h));
  }

-- AN ENTRY of it is its exponent's bracket
pub entry_is : {n : ℕ} {exponent : ℕ → SignedExponent} {table : List ℕ} → StoredBrackets n exponent table → (i : ℕ) → i < n
    → over_stored_scale (get_or table (2 * i) 0) (get_or table (2 * i + 1) 0) ≡ stored_bracket (exponent i)
unfolding stored_bracket
entry_is stored i h = rw (stored.low i h, stored.high i h)
