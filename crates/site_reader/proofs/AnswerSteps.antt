-- What an answer by a number tells of the number and of the value.
use Rattle.std.specs.Prelude.{◌≡◌, refl, ℕ, Bool, true, false, cond, eqb, Ok, Err}
use Rattle.std.proofs.Common.{ap, sym, arith}
use borrow.Author.Tests.{eqb-true, eqb-false, ne_eqb}
use Rattle.site.specs.declared.refusal.Refusal.{Refusal}
use Rattle.site.specs.Refusals.{refusal, answer_by}

module _ {A : Type 0} (n : ℕ) (a : A) where
  -- a value is told with 0
  pub told_value : {x : A} → answer_by n a ≡ Ok x → (n ≡ 0) × (a ≡ x)
  told_value {x} e = by (eqb n 0) refl e
    where
      by : (b : Bool) → eqb n 0 ≡ b → cond b (Ok a) (Err (refusal n)) ≡ Ok x → (n ≡ 0) × (a ≡ x)
      by true t e = (eqb-true n 0 t, cc)
      by false t e = let z : ◌≡◌ {A = ℕ} 0 1 = cc in absurd (omega arith)

  -- a refusal is told whatever the value would be
  pub told_refusal : {r : Refusal} → answer_by n a ≡ Err r → (n ≡ 0 → ⊥) × (refusal n ≡ r)
  told_refusal {r} e = by (eqb n 0) refl e
    where
      by : (b : Bool) → eqb n 0 ≡ b → cond b (Ok a) (Err (refusal n)) ≡ Err r → (n ≡ 0 → ⊥) × (refusal n ≡ r)
      by true t e = let z : ◌≡◌ {A = ℕ} 0 1 = cc in absurd (omega arith)
      by false t e = (eqb-false n 0 t, cc)

  -- and is passed on as the refusal of an answer by the same number
  pub passed_on : {B : Type 0} {r : Refusal} (m : ℕ) (b : B) → answer_by n a ≡ Err r → m ≡ n → Err r ≡ answer_by m b
  passed_on m b e same = let told = told_refusal e in rw (same, ne_eqb n 0 told.0) (ap Err (sym told.1))
