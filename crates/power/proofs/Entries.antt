-- The table's rule: one test, computed over the table, and one law that carries it to each entry of any table that passes.
use Prim.Native.Nat.{ℕ, ◌+◌, ◌-◌, ◌*◌, ◌/◌, ◌%◌, ◌^◌, ◌≤◌, ◌<◌}
use mathlib.Core.Bool.{Bool}
use mathlib.Core.List.{List}
use mathlib.Core.Path.{◌≡◌, sym, ap, ◌∙◌}
use native.Mathlib.Nat.{add-zero}
use native.Mathlib.Omega.{arith}
use lib.Dec.{T, leb, ltb, eqb, leb→le, ltb→lt, eqb→eq, lit<}
use lib.ListN.{get_or}
use Rattle.laws.specs.Table.{both, both_left, both_right, passes_all, entry_passes}
use Rattle.estimate.specs.Power.{power_largest, power_largest_value}
use Rattle.power.specs.Exponents.{exponent_at}
use Rattle.power.specs.Stored.{stored_low, stored_high, entry, StoredPowers}

-- with t = x - side: t^100 ≤ k^p 10^900 < (t+1)^100
unfoldable pub right_bound : (k p side x : ℕ) → Bool
right_bound k p side x =
    both (eqb (x - side + side) x) (both (leb ((x - side) ^ 100) (k ^ p * (10 ^ 9) ^ 100)) (ltb (k ^ p * (10 ^ 9) ^ 100) ((x - side + 1) ^ 100)))

-- place i is of the number i / 2 % 256 + 1 and the exponent at i / 2 / 256; a lower bound where it is even, an upper one where it is odd
unfoldable pub right_entry : ℕ → ℕ → Bool
right_entry i x = right_bound (i / 2 % 256 + 1) (exponent_at (i / 2 / 256)) (i % 2) x

-- the test: 2560 entries, and each is right
unfoldable pub passes : List ℕ → Bool
passes xs = passes_all right_entry 2560 xs

bound_is : (k p side x : ℕ) → T (right_bound k p side x) → x ≡ power_largest 9 k p 100 + side
unfolding right_bound
bound_is k p side x h =
    let t = x - side in
    let X = k ^ p * (10 ^ 9) ^ 100 in
    let a = both_left (eqb (t + side) x) (both (leb (t ^ 100) X) (ltb X ((t + 1) ^ 100))) h in
    let b = both_right (eqb (t + side) x) (both (leb (t ^ 100) X) (ltb X ((t + 1) ^ 100))) h in
    let below = leb→le (t ^ 100) X (both_left (leb (t ^ 100) X) (ltb X ((t + 1) ^ 100)) b) in
    let above = ltb→lt X ((t + 1) ^ 100) (both_right (leb (t ^ 100) X) (ltb X ((t + 1) ^ 100)) b) in
    sym (ap (λ (z : ℕ). z + side) (power_largest_value 9 k p 100 t (lit< tt) below above) ∙ eqb→eq (t + side) x a)

entry_is : (i e k side x : ℕ) → i ≡ entry e k + side → 1 ≤ k → k ≤ 256 → side ≤ 1 → T (right_entry i x) → x ≡ power_largest 9 k (exponent_at e) 100 + side
unfolding right_entry
entry_is i e k side x q from to s h =
    let a : i / 2 % 256 + 1 ≡ k = omega arith in
    let b : i / 2 / 256 ≡ e = omega arith in
    let c : i % 2 ≡ side = omega arith in
    bound_is k (exponent_at e) side x (rw (a, b, c) at h)

-- what passes has the stored bounds
pub stored_by_test : (xs : List ℕ) → T (passes xs) → StoredPowers xs
unfolding passes stored_low stored_high
stored_by_test xs t = record {
  low = λ e k h from to. at_place e k 0 (entry e k) h from to (omega arith) (omega arith) ∙ add-zero (power_largest 9 k (exponent_at e) 100);
  high = λ e k h from to. at_place e k 1 (entry e k + 1) h from to (omega arith) (omega arith);
}
  where
    at_place : (e k side i : ℕ) → e < 5 → 1 ≤ k → k ≤ 256 → side ≤ 1 → i ≡ entry e k + side → get_or xs i 0 ≡ power_largest 9 k (exponent_at e) 100 + side
    at_place e k side i h from to s q = entry_is i e k side (get_or xs i 0) q from to s (entry_passes right_entry 2560 xs t i (omega arith))
