-- Document 01's number for each refusal, and an answer that is a refusal by its number.
use Rattle.std.specs.Prelude.{◌≡◌, refl, ℕ, zero, suc, ◌-◌, ◌≤◌, Bool, true, false, cond, eqb, List, [], ◌∷◌, get_or, Result, Ok, Err}
use Rattle.std.proofs.Common.{ap, sym, ◌∙◌, arith}
use borrow.Author.Tests.{eqb-true, eqb-false, ne_eqb}
use Rattle.site.specs.declared.refusal.Refusal.{Refusal}
use Rattle.site.specs.declared.refusal.Refusal.TheVariants as refused

-- "1 too short", "2 bytes left", "3 edition", "4 limits", "5 kind", "6" and "7" the map's bits, "8" a range, "9" a default, "10" space
abbrev pub number_of : Refusal → ℕ
number_of refused.TooShort = 1
number_of refused.BytesAfter = 2
number_of refused.EditionUnknown = 3
number_of refused.OutsideLimits = 4
number_of refused.KindUnknown = 5
number_of refused.BitLacked = 6
number_of refused.BitMissing = 7
number_of refused.OutsideRange = 8
number_of refused.DefaultSpelledOut = 9
number_of refused.NoSpace = 10

-- in the order of their numbers
abbrev pub refusals : List Refusal
refusals =
    refused.TooShort ∷ refused.BytesAfter ∷ refused.EditionUnknown ∷ refused.OutsideLimits ∷ refused.KindUnknown ∷ refused.BitLacked
    ∷ refused.BitMissing ∷ refused.OutsideRange ∷ refused.DefaultSpelledOut ∷ refused.NoSpace ∷ []

-- the refusal that has a number from 1 to 10
abbrev pub refusal : ℕ → Refusal
refusal n = get_or refusals (n - 1) refused.NoSpace

-- the answer by a number: a value with 0, and else the refusal
abbrev pub answer_by : {A : Type 0} → ℕ → A → Result A Refusal
answer_by n a = cond (eqb n 0) (Ok a) (Err (refusal n))

-- the answer of a test that gives no value
abbrev pub checked : ℕ → Result Unit Refusal
checked n = answer_by n tt

-- document 01's number for an answer: 0 for success
abbrev pub number_in : {A : Type 0} → Result A Refusal → ℕ
number_in (Ok a) = 0
number_in (Err refusal) = number_of refusal

pub refusal_lem : (n : ℕ) → n ≤ 10 → (n ≡ 0 → ⊥) → number_of (refusal n) ≡ n
refusal_lem zero h ne = absurd (ne refl)
refusal_lem (suc zero) h ne = refl
refusal_lem (suc (suc zero)) h ne = refl
refusal_lem (suc (suc (suc zero))) h ne = refl
refusal_lem (suc (suc (suc (suc zero)))) h ne = refl
refusal_lem (suc (suc (suc (suc (suc zero))))) h ne = refl
refusal_lem (suc (suc (suc (suc (suc (suc zero)))))) h ne = refl
refusal_lem (suc (suc (suc (suc (suc (suc (suc zero))))))) h ne = refl
refusal_lem (suc (suc (suc (suc (suc (suc (suc (suc zero)))))))) h ne = refl
refusal_lem (suc (suc (suc (suc (suc (suc (suc (suc (suc zero))))))))) h ne = refl
refusal_lem (suc (suc (suc (suc (suc (suc (suc (suc (suc (suc zero)))))))))) h ne = refl
refusal_lem (suc (suc (suc (suc (suc (suc (suc (suc (suc (suc (suc n))))))))))) h ne = absurd (omega arith)

pub refusal_again : (r : Refusal) → refusal (number_of r) ≡ r
refusal_again refused.TooShort = refl
refusal_again refused.BytesAfter = refl
refusal_again refused.EditionUnknown = refl
refusal_again refused.OutsideLimits = refl
refusal_again refused.KindUnknown = refl
refusal_again refused.BitLacked = refl
refusal_again refused.BitMissing = refl
refusal_again refused.OutsideRange = refl
refusal_again refused.DefaultSpelledOut = refl
refusal_again refused.NoSpace = refl

-- no refusal has the number 0, nor one above 10
pub refusal_not_zero : (r : Refusal) → number_of r ≡ 0 → ⊥
refusal_not_zero refused.TooShort e = omega arith
refusal_not_zero refused.BytesAfter e = omega arith
refusal_not_zero refused.EditionUnknown e = omega arith
refusal_not_zero refused.OutsideLimits e = omega arith
refusal_not_zero refused.KindUnknown e = omega arith
refusal_not_zero refused.BitLacked e = omega arith
refusal_not_zero refused.BitMissing e = omega arith
refusal_not_zero refused.OutsideRange e = omega arith
refusal_not_zero refused.DefaultSpelledOut e = omega arith
refusal_not_zero refused.NoSpace e = omega arith

-- an answer by a number up to 10 has that number
pub answer_by_number : {A : Type 0} (n : ℕ) (a : A) → n ≤ 10 → number_in (answer_by n a) ≡ n
answer_by_number n a h = by (eqb n 0) refl
  where
    by : (b : Bool) → eqb n 0 ≡ b → number_in (cond b (Ok a) (Err (refusal n))) ≡ n
    by true t = sym (eqb-true n 0 t)
    by false t = refusal_lem n h (eqb-false n 0 t)

-- it is a refusal exactly where the number is that refusal's
pub answer_by_err : {A : Type 0} (n : ℕ) (a : A) (r : Refusal) → n ≤ 10 → answer_by n a ≡ Err r → n ≡ number_of r
answer_by_err n a r h e = sym (answer_by_number n a h) ∙ ap number_in e

pub err_answer_by : {A : Type 0} (n : ℕ) (a : A) (r : Refusal) → n ≡ number_of r → answer_by n a ≡ Err r
err_answer_by n a r e =
    rw (e, ne_eqb (number_of r) 0 (refusal_not_zero r)) (ap Err (refusal_again r))

-- what two answers of the same value say of its parts
pub ok_parts : {A B : Type 0} (a x : A) (b y : B) → ◌≡◌ {A = Result (A × B) Refusal} (Ok (a, b)) (Ok (x, y)) → (a ≡ x) × (b ≡ y)
ok_parts {A = A} {B = B} a x b y e = let both : ◌≡◌ {A = A × B} (a, b) (x, y) = cc in (ap (λ p. p.0) both, ap (λ p. p.1) both)
