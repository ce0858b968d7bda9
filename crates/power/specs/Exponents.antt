-- The five exponents, in hundredths, each named by its place.
use Rattle.std.specs.Prelude.{ℕ, zero, suc, ◌≤◌, ◌<◌, cond, List, [], ◌∷◌, Option, None, Some, ◌≡◌, refl, eqb, leb, ltb, length, get_or}
use Rattle.std.proofs.Common.{suc-le-suc, ap, zero-lt-suc, not-suc-le-zero, le_of_suc-le-suc, arith, eq-eqb, ne_eqb, lt-ltb, leb→le, sym}
use Rattle.std.proofs.lemmas.Bool.{ltb-true}
use Rattle.std.proofs.lemmas.Option.{cond_some, none-some}
use Rattle.std.proofs.Math.Decide.{ℕ_discrete}
use Rattle.laws.specs.Table.{at}
use Rattle.remainder.specs.Remainder.{Exponent}

-- "A^0.79", "B^0.49", "0.60, 0.61", "0.60, 0.20"
abbrev pub exponents : List ℕ
exponents = 79 ∷ 49 ∷ 60 ∷ 61 ∷ 20 ∷ []

abbrev pub exponent_at : ℕ → ℕ
exponent_at e = get_or exponents e 0

-- the place of x in a list, the list's length where it is not in it
abbrev pub place_in : List ℕ → ℕ → ℕ
place_in [] x = 0
place_in (y ∷ ys) x = cond (eqb y x) 0 (suc (place_in ys x))

unfoldable pub place_of : ℕ → ℕ
place_of num = place_in exponents num

-- the place, where num is one of the exponents
unfoldable pub place_among : ℕ → Option ℕ
place_among num = cond (ltb (place_of num) 5) (Some (place_of num)) None

-- THE PLACE IS THE FIRST

pub place_is : (xs : List ℕ) (x i : ℕ) → i < length xs → get_or xs i 0 ≡ x → ((j : ℕ) → j < i → get_or xs j 0 ≡ x → ⊥) → place_in xs x ≡ i
place_is [] x i l e f = absurd (not-suc-le-zero l)
place_is (y ∷ ys) x zero l e f = rw (eq-eqb y x e)
place_is (y ∷ ys) x (suc i) l e f =
    rw (ne_eqb y x (f 0 (zero-lt-suc i))) (ap suc (place_is ys x i (le_of_suc-le-suc l) e (λ j h. f (suc j) (suc-le-suc h))))

pub place_none : (xs : List ℕ) (x : ℕ) → ((j : ℕ) → j < length xs → get_or xs j 0 ≡ x → ⊥) → place_in xs x ≡ length xs
place_none [] x f = refl
place_none (y ∷ ys) x f = rw (ne_eqb y x (f 0 (zero-lt-suc (length ys)))) (ap suc (place_none ys x (λ j h. f (suc j) (suc-le-suc h))))

pub place_holds : (xs : List ℕ) (x : ℕ) → place_in xs x < length xs → get_or xs (place_in xs x) 0 ≡ x
place_holds [] x l = absurd (not-suc-le-zero l)
place_holds (y ∷ ys) x l = by_cases (ℕ_discrete y x) (place_holds ys x) l
  where
    by_cases : Dec (y ≡ x) → (place_in ys x < length ys → get_or ys (place_in ys x) 0 ≡ x)
        → place_in (y ∷ ys) x < length (y ∷ ys) → get_or (y ∷ ys) (place_in (y ∷ ys) x) 0 ≡ x
    by_cases (yes e) r h = rw (eq-eqb y x e) e
    by_cases (no f) r h = rw (ne_eqb y x f) (r (le_of_suc-le-suc (rw (ne_eqb y x f) at h)))

-- a stored exponent is what its place has
pub place_of_holds : (num : ℕ) → place_of num < 5 → exponent_at (place_of num) ≡ num
unfolding place_of
place_of_holds num h = place_holds exponents num h

-- the place that is answered is the first, and none is answered only where there is none
pub place_among_is : (num e : ℕ) → Some e ≡ place_among num → (e ≡ place_of num) × (place_of num < 5)
unfolding place_among
place_among_is num e is =
    let p = cond_some (ltb (place_of num) 5) (place_of num) e (sym is) in (sym p.1, ltb-true (place_of num) 5 p.0)

pub place_among_none : (num : ℕ) → None ≡ place_among num → place_of num < 5 → ⊥
unfolding place_among
place_among_none num is within = none-some (place_of num) (rw (lt-ltb (place_of num) 5 within) at is)

-- EACH IS AT MOST 0.79

pub exponent_small : (e : ℕ) → e < 5 → exponent_at e ≤ 79
exponent_small e h = leb→le (exponent_at e) 79 (at (λ i x. leb x 79) exponents tt e h)

pub exponent_is : (e : ℕ) → e < 5 → Exponent (exponent_at e) 100
exponent_is e h = let s = exponent_small e h in record { at_most_one = omega arith; positive = omega arith }
