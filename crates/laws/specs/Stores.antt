-- Runs of stores one after another, a run that is stored from its end, and a run at the start of a part.
use Rattle.std.specs.Prelude.{ℕ, suc, ◌+◌, ◌-◌, ◌≤◌, ◌≡◌, refl, List, [], ◌∷◌, ◌++◌, length, take, drop, set}
use Rattle.std.proofs.Common.{ap, ◌∙◌, append-nil, append_assoc, arith, add-zero, zero-add, length-append, length-drop, drop_of_length-le, take_at, drop-drop}
use Rattle.std.proofs.lemmas.List.Edits.{sets, sets-eq}
use Rattle.std.proofs.lemmas.List.{set_comm}
use Rattle.laws.specs.Lent.{laid_over}
use Rattle.laws.specs.Walk.{part_from}

-- a text is stored from a place on and nothing else is changed; the place after it
pub record Puts (before : List ℕ) (at : ℕ) (text : List ℕ) (place : ℕ) (after : List ℕ) : Type 0 where
  pub place_is : place ≡ at + length text
  pub stored : after ≡ sets before at text

-- two runs, one behind the other, are one run
pub sets_more : {A : Type 0} (l : List A) (i : ℕ) (a b : List A) → sets (sets l i a) (i + length a) b ≡ sets l i (a ++ b)
sets_more l i [] b = rw (add-zero i) refl
sets_more l i (x ∷ a) b =
    let e : i + suc (length a) ≡ suc i + length a = omega arith in
    rw e (sets_more (set l i x) (suc i) a b)

-- a run's last element may be stored first
pub set_first : (l : List ℕ) (i : ℕ) (a : List ℕ) (x : ℕ) → sets (set l (i + length a) x) i a ≡ sets l i (a ++ (x ∷ []))
set_first l i [] x = rw (add-zero i) refl
set_first l i (y ∷ a) x =
    let e : i + suc (length a) ≡ suc i + length a = omega arith in
    let other : i + suc (length a) ≡ i → ⊥ = λ h. omega arith in
    rw (set_comm l (i + suc (length a)) i x y other, e) (set_first (set l i y) (suc i) a x)

-- a run stored from the start is laid over what was there
pub sets_laid : (text before : List ℕ) → length text ≤ length before → sets before 0 text ≡ laid_over text before
sets_laid text before h = rw zero-add at (sets-eq text before 0 (omega arith))

-- a run stored at the start of the part from a place on, which was lent and is put back
pub part_stored : {A : Type 0} (l : List A) (i : ℕ) (part a : List A) → i + length a ≤ length l → part ≡ sets (take (length l - i) (drop i l)) 0 a
    → take i l ++ (part ++ drop (length l - i) (drop i l)) ≡ sets l i a
part_stored l i part a h e =
    let long : length (drop i l) ≤ length l - i = omega (arith, length-drop i l) in
    let room : 0 + length a ≤ length (drop i l) = omega (arith, length-drop i l) in
    rw (e, part_from l i, drop_of_length-le (drop i l) long, append-nil, sets-eq a (drop i l) 0 room, drop-drop, zero-add, sets-eq a l i h, append_assoc, append_assoc)

-- a text and the text after it
pub puts_more : {before between after : List ℕ} {at place end : ℕ} {a b : List ℕ} → Puts before at a place between
    → Puts between place b end after → Puts before at (a ++ b) end after
puts_more {before} {between} {after} {at} {place} {end} {a} {b} p q = record {
  place_is = omega (arith, length-append a b, p.place_is, q.place_is);
  stored = q.stored ∙ rw (p.stored, p.place_is) (sets_more before at a b);
}

-- what a buffer starts with, once a text is stored from its start
pub puts_start : {before after text : List ℕ} {place : ℕ} → Puts before 0 text place after → place ≤ length before → take place after ≡ text
puts_start {before} {after} {text} {place} p h =
    let long : length text ≡ place = omega (arith, p.place_is) in
    let fits : 0 + length text ≤ length before = omega arith in
    ap (take place) (p.stored ∙ sets-eq text before 0 fits) ∙ take_at text (drop (0 + length text) before) place long
