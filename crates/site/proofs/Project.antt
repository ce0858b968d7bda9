-- What the tests of the edition and the years tell of an answer that begins with them.
use Rattle.std.specs.Prelude.{◌≡◌, refl, ℕ, Bool, true, false, cond, ◌&&◌, Ok, Err}
use Rattle.std.proofs.Common.{arith}
use Rattle.site.specs.declared.refusal.Refusal.{Refusal}
use Rattle.site.specs.Refusals.{answer_by, checked}

-- both are known
pub project_known : (edition years : Bool) {done : Unit} → checked (cond edition (cond years 0 4) 3) ≡ Ok done → (edition ≡ true) × (years ≡ true)
project_known true true e = (refl, refl)
project_known true false e = let z : ◌≡◌ {A = ℕ} 0 1 = cc in absurd (omega arith)
project_known false years e = let z : ◌≡◌ {A = ℕ} 0 1 = cc in absurd (omega arith)

-- or the refusal is the answer's
pub project_refused : {A : Type 0} (edition years : Bool) {refused : Refusal} (number : ℕ) (a : A) → checked (cond edition (cond years 0 4) 3) ≡ Err refused
    → Err refused ≡ answer_by (cond edition (cond years number 4) 3) a
project_refused true true number a e = let z : ◌≡◌ {A = ℕ} 0 1 = cc in absurd (omega arith)
project_refused true false number a e = cc
project_refused false years number a e = cc

-- and no site is sound
pub project_unsound : (edition years site : Bool) {refused : Refusal} → checked (cond edition (cond years 0 4) 3) ≡ Err refused
    → (edition && (years && site)) ≡ false
project_unsound true true site e = let z : ◌≡◌ {A = ℕ} 0 1 = cc in absurd (omega arith)
project_unsound true false site e = refl
project_unsound false years site e = refl
