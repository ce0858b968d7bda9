-- Laws of Tested in specs/.
use Rattle.std.specs.Prelude.{◌≡◌, refl, true, false, ◌↔◌, ◌⊎◌, ℕ, zero, suc, ◌<◌, leb}
use Rattle.std.proofs.Common.{true≢false, inl, inr, arith}
use Rattle.std.proofs.Math.Bool.{and-false}
use Rattle.std.proofs.lemmas.Bool.{lt-leb}
use Rattle.site.specs.Rules.{edition_known}
use Rattle.laws.specs.Truth.{not_both}

-- 1 and 2 are the editions
pub unknown_neither : (edition : ℕ) → edition_known edition ≡ false → (edition ≡ 1 → ⊥) × (edition ≡ 2 → ⊥)
unknown_neither edition e = (λ one. true≢false (rw one at e), λ two. true≢false (rw two at e))

pub neither_unknown : (edition : ℕ) → (edition ≡ 1 → ⊥) → (edition ≡ 2 → ⊥) → edition_known edition ≡ false
neither_unknown zero one two = refl
neither_unknown (suc zero) one two = absurd (one refl)
neither_unknown (suc (suc zero)) one two = absurd (two refl)
neither_unknown (suc (suc (suc edition))) one two =
    let more : 2 < suc (suc (suc edition)) = omega arith in rw (lt-leb _ _ more) (and-false (leb 1 (suc (suc (suc edition)))))

pub known_either : (edition : ℕ) → (edition_known edition ≡ true) ↔ ((edition ≡ 1) ⊎ (edition ≡ 2))
known_either edition = (either edition, known)
  where
    either : (edition : ℕ) → edition_known edition ≡ true → (edition ≡ 1) ⊎ (edition ≡ 2)
    either zero e = not_both _ e refl
    either (suc zero) e = inl refl
    either (suc (suc zero)) e = inr refl
    either (suc (suc (suc edition))) e = not_both _ e (neither_unknown (suc (suc (suc edition))) (λ one. omega arith) (λ two. omega arith))

    known : (edition ≡ 1) ⊎ (edition ≡ 2) → edition_known edition ≡ true
    known (inl one) = rw one
    known (inr two) = rw two
