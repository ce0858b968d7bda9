-- One field after the other: what each definition of `specs/Record` says of the rules from place i on.
use Rattle.std.specs.Prelude.{Option}
use mathlib.Core.Path.{◌≡◌, refl, ap, sym, ◌∙◌}
use mathlib.Core.Bool.{Bool, true, false, cond, ◌||◌, or_assoc, or-false}
use mathlib.Core.List.{List, [], ◌∷◌, map}
use Prim.Native.Nat.{ℕ, suc, ◌+◌, ◌*◌, ◌<◌, ◌≤◌}
use native.Mathlib.Omega.{arith}
use lib.ListN.{length, get_or, drop, set}
use lib.Dec.{eqb}
use borrow.Author.Tests.{ne_eqb}
use lib.Seq.{drop-drop, sets}
use Rattle.site.specs.declared.rules.Rule.{Rule}
use Rattle.site.specs.Rules.{slot_count}
use Rattle.site.specs.Record.{rest_of, any_field, field_words, words, field_number, field_value, after, fields_number, fields_values}
use Rattle.laws.specs.Walk.{next, at_end, fill_start, fill_more}

-- a loop that looks for a field that passes a test
module _ {A : Type 0} (rule : A → Rule) (test : A → ℕ → Bool) (last : ℕ → Bool) (xs : List A) (i map : ℕ) (whole : Bool)
    (count : length xs ≡ slot_count) (inv : any_field rule test last (drop i xs) map ≡ whole) where
  any_step : (d : A) → i < slot_count
      → (test (get_or xs i d) map || any_field rule test last (drop (i + 1) xs) (rest_of (rule (get_or xs i d)) map)) ≡ whole
  unfolding any_field
  any_step d h = let w : i < length xs = omega arith in rw (next xs i d w) at inv

  pub any_hit : (d : A) (b : Bool) → i < slot_count → b ≡ test (get_or xs i d) map → b ≡ true → true ≡ whole
  any_hit d b h eb et = let e : test (get_or xs i d) map ≡ true = sym eb ∙ et in rw e at (any_step d h)

  pub any_miss : (d : A) (b : Bool) (rest : ℕ) → i < slot_count → b ≡ test (get_or xs i d) map → b ≡ false
      → rest ≡ rest_of (rule (get_or xs i d)) map → any_field rule test last (drop (i + 1) xs) rest ≡ whole
  any_miss d b rest h eb et er = let e : test (get_or xs i d) map ≡ false = sym eb ∙ et in rw er (rw e at (any_step d h))

  pub any_end : slot_count ≤ i → last map ≡ whole
  unfolding any_field
  any_end h = let w : length xs ≤ i = omega arith in rw (at_end xs i w) at inv

-- a loop that keeps whether a field before passed a test
module _ {A : Type 0} (rule : A → Rule) (test : A → ℕ → Bool) (xs : List A) (i map : ℕ) (count : length xs ≡ slot_count)
    (kept : Bool) {whole : Bool} (inv : (kept || any_field rule test (λ (left : ℕ). false) (drop i xs) map) ≡ whole) where
  pub kept_more : (d : A) (b : Bool) (rest : ℕ) → i < slot_count → b ≡ (kept || test (get_or xs i d) map)
      → rest ≡ rest_of (rule (get_or xs i d)) map
      → (b || any_field rule test (λ (left : ℕ). false) (drop (i + 1) xs) rest) ≡ whole
  unfolding any_field
  kept_more d b rest h eb er =
      let w : i < length xs = omega arith in
      rw (eb, er) (or_assoc kept (test (get_or xs i d) map) _ ∙ rw (next xs i d w) at inv)

  pub kept_end : slot_count ≤ i → kept ≡ whole
  unfolding any_field
  kept_end h = let w : length xs ≤ i = omega arith in sym (or-false kept) ∙ rw (at_end xs i w) at inv

module _ (rules : List Rule) (i map : ℕ) (count : length rules ≡ slot_count) where
  pub words_step : (d : Rule) → i < slot_count
      → words (drop i rules) map ≡ field_words (get_or rules i d) map + words (drop (i + 1) rules) (rest_of (get_or rules i d) map)
  unfolding words
  words_step d h = let w : i < length rules = omega arith in rw (next rules i d w)

  words_end : slot_count ≤ i → words (drop i rules) map ≡ 0
  unfolding words
  words_end h = let w : length rules ≤ i = omega arith in rw (at_end rules i w)

  -- a loop that counts the words
  pub words_turn : (d : Rule) (n rest total whole : ℕ) → i < slot_count → n ≡ field_words (get_or rules i d) map
      → rest ≡ rest_of (get_or rules i d) map → total + words (drop i rules) map ≡ whole
      → total + n + words (drop (i + 1) rules) rest ≡ whole
  words_turn d n rest total whole h en er inv = rw (en, er) (omega (arith, words_step d h))

  pub words_done : (total whole : ℕ) → slot_count ≤ i → total + words (drop i rules) map ≡ whole → total ≡ whole
  words_done total whole h inv = omega (arith, words_end h)

  module _ (s : List ℕ) (at whole : ℕ) (inv : fields_number (drop i rules) map (drop at s) ≡ whole) where
    number_step : (d : Rule) → i < slot_count
        → cond (eqb (field_number (get_or rules i d) map (drop at s)) 0)
        (fields_number (drop (i + 1) rules) (rest_of (get_or rules i d) map) (drop (at + 2 * field_words (get_or rules i d) map) s))
        (field_number (get_or rules i d) map (drop at s)) ≡ whole
    unfolding fields_number
    number_step d h = let w : i < length rules = omega arith in simp drop-drop at (rw (next rules i d w) at inv)

    pub number_hit : (d : Rule) (n : ℕ) → i < slot_count → n ≡ field_number (get_or rules i d) map (drop at s) → (n ≡ 0 → ⊥)
        → n ≡ whole
    number_hit d n h en ne = rw (← en, ne_eqb n 0 ne) at (number_step d h)

    pub number_miss : (d : Rule) (n words rest : ℕ) → i < slot_count → n ≡ field_number (get_or rules i d) map (drop at s)
        → n ≡ 0 → words ≡ field_words (get_or rules i d) map → rest ≡ rest_of (get_or rules i d) map
        → fields_number (drop (i + 1) rules) rest (drop (at + 2 * words) s) ≡ whole
    number_miss d n words rest h en ez ew er =
        let e : field_number (get_or rules i d) map (drop at s) ≡ 0 = sym en ∙ ez in
        rw (ew, er) (rw e at (number_step d h))

    pub number_end : slot_count ≤ i → 0 ≡ whole
    unfolding fields_number
    number_end h = let w : length rules ≤ i = omega arith in rw (at_end rules i w) at inv

  module _ (s : List ℕ) (at : ℕ) (v whole : List (Option ℕ)) (inv : sets v i (fields_values (drop i rules) map (drop at s)) ≡ whole) where
    values_next : (d : Rule) → i < slot_count
        → fields_values (drop i rules) map (drop at s)
        ≡ field_value (get_or rules i d) map (drop at s)
        ∷ fields_values (drop (i + 1) rules) (rest_of (get_or rules i d) map) (drop (at + 2 * field_words (get_or rules i d) map) s)
    unfolding fields_values
    values_next d h = let w : i < length rules = omega arith in rw (next rules i d w) (simp drop-drop)

    pub values_more : (d : Rule) (x : Option ℕ) (words rest : ℕ) → i < slot_count
        → x ≡ field_value (get_or rules i d) map (drop at s) → words ≡ field_words (get_or rules i d) map
        → rest ≡ rest_of (get_or rules i d) map
        → sets (set v i x) (i + 1) (fields_values (drop (i + 1) rules) rest (drop (at + 2 * words) s)) ≡ whole
    values_more d x words rest h ex ew er =
        rw (ex, ew, er) (fill_more v i (field_value (get_or rules i d) map (drop at s)) _ _ whole inv (values_next d h))

    pub values_end : slot_count ≤ i → v ≡ whole
    unfolding fields_values
    values_end h = let w : length rules ≤ i = omega arith in rw (at_end rules i w) at inv

length_values : (rules : List Rule) (map : ℕ) (s : List ℕ) → length (fields_values rules map s) ≡ length rules
unfolding fields_values
length_values [] map s = refl
length_values (rule ∷ rules) map s = ap suc (length_values rules (rest_of rule map) (after rule map s))

pub values_start : (rules : List Rule) (map : ℕ) (s : List ℕ) (v : List (Option ℕ)) → length rules ≡ slot_count
    → length v ≡ slot_count → sets v 0 (fields_values rules map s) ≡ fields_values rules map s
values_start rules map s v count lv = fill_start v (fields_values rules map s) (lv ∙ sym (length_values rules map s ∙ count))
