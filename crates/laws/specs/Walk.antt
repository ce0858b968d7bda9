-- Laws of a loop that walks a list by its index: the element at i before those after it, and a list that is filled from i on.
use Rattle.std.specs.Prelude.{◌≡◌, List, [], ◌∷◌, ℕ, ◌+◌, ◌-◌, ◌<◌, ◌≤◌, length, get_or, take, drop, set}
use Rattle.std.proofs.Common.{ap, sym, ◌∙◌, append-nil, add-one, arith, length-drop, drop_of_length-le, take_all, drop-cons}
use Rattle.std.proofs.lemmas.List.Edits.{sets, sets-eq}

module _ {A : Type 0} where
  pub next : (xs : List A) (i : ℕ) (d : A) → i < length xs → drop i xs ≡ get_or xs i d ∷ drop (i + 1) xs
  next xs i d h = rw (add-one, drop-cons xs i d)

  pub at_end : (xs : List A) (i : ℕ) → length xs ≤ i → drop i xs ≡ []
  at_end xs i h = drop_of_length-le xs h

  -- the part from a place on, as it is lent
  pub part_from : (xs : List A) (i : ℕ) → take (length xs - i) (drop i xs) ≡ drop i xs
  part_from xs i = take_all (length xs - i) (drop i xs) (omega (arith, length-drop i xs))

  pub fill_start : (v whole : List A) → length v ≡ length whole → sets v 0 whole ≡ whole
  fill_start v whole e =
      let h : length v ≤ 0 + length whole = omega arith in
      sets-eq whole v 0 (omega arith) ∙ rw (drop_of_length-le v h) (append-nil whole)

  pub fill_more : (v : List A) (i : ℕ) (x : A) (rest later whole : List A) → sets v i rest ≡ whole → rest ≡ x ∷ later
      → sets (set v i x) (i + 1) later ≡ whole
  fill_more v i x rest later whole inv e =
      ap (λ (j : ℕ). sets (set v i x) j later) (add-one i) ∙ ap (sets v i) (sym e) ∙ inv
