-- One later value after the other: what the definitions of `specs/Record` say of those from place i on.
use Rattle.std.specs.Prelude.{Option, None, Some}
use mathlib.Core.Path.{◌≡◌, refl, ap, sym, ◌∙◌}
use mathlib.Core.Bool.{cond}
use mathlib.Core.List.{List, [], ◌∷◌}
use Prim.Native.Nat.{ℕ, zero, suc, ◌+◌, ◌*◌, ◌<◌, ◌≤◌}
use native.Mathlib.Omega.{arith}
use lib.ListN.{length, drop, set}
use lib.Seq.{drop-drop}
use Rattle.site.specs.declared.rules.Rule.{Rule}
use Rattle.site.specs.Rules.{absent_of, later_years}
use Rattle.site.specs.Record.{word, stands, value_number, field_number, field_value, gathered, later_read}
use Rattle.site.specs.LaterLaws.{place_after, gathered_word}

-- a number at its place
pub number_at_lem : (s : List ℕ) (at i : ℕ) → word (drop (at + 2 * i) s) ≡ word (drop (2 * i) (drop at s))
number_at_lem s at i = ap word (sym (drop-drop (2 * i) at s))

-- the years that are read so far, and the next
none_read : (k : ℕ) (s t : List ℕ) → later_read k 0 s ≡ later_read k 0 t
unfolding later_read
none_read zero s t = refl
none_read (suc k) s t = ap (λ (l : List (Option ℕ)). None ∷ l) (none_read k s t)

pub read_more : (k n : ℕ) (s : List ℕ) → n < k → set (later_read k n s) n (Some (word (drop (2 * n) s))) ≡ later_read k (suc n) s
unfolding later_read
read_more zero n s h = absurd (omega arith)
read_more (suc k) zero s h = ap (λ (l : List (Option ℕ)). Some (word s) ∷ l) (none_read k s (drop 2 s))
read_more (suc k) (suc n) s h =
    let e : 2 * suc n ≡ 2 + 2 * n = omega arith in
    rw (e, ← drop-drop (2 * n) 2 s) (ap (λ (l : List (Option ℕ)). Some (word s) ∷ l) (read_more k n (drop 2 s) (omega arith)))

pub read_start : (s : List ℕ) → None ∷ None ∷ None ∷ None ∷ None ∷ None ∷ None ∷ None ∷ None ∷ [] ≡ later_read later_years 0 s
unfolding later_read
read_start s = refl

-- A FIELD AT ITS PLACE among the later values is that of the fields without them
module _ (later minor : ℕ) (s : List ℕ) (long : 4 + 2 * later + 2 * minor ≤ length s) (count place : ℕ) (is : place ≡ place_after later minor count) where
  word_there : word (drop place s) ≡ word (drop (2 * count) (gathered later minor s))
  word_there = ap (λ (k : ℕ). word (drop k s)) is ∙ gathered_word later minor s long count

  pub number_there : (rule : Rule) (map : ℕ) → field_number rule map (drop place s) ≡ field_number rule map (drop (2 * count) (gathered later minor s))
  number_there rule map = ap (λ (w : ℕ). cond (stands rule map) (value_number rule w) 0) word_there

  pub value_there : (rule : Rule) (map : ℕ) → field_value rule map (drop place s) ≡ field_value rule map (drop (2 * count) (gathered later minor s))
  value_there rule map = ap (λ (w : ℕ). cond (stands rule map) (Some w) (absent_of rule)) word_there

-- the bytes of so many numbers and more
pub bytes_more : (count n : ℕ) → 2 * count + 2 * n ≡ 2 * (count + n)
bytes_more count n = omega arith
