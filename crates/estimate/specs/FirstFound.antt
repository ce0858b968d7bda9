-- THE FIRST BEFORE THE BOUND that a search for the smallest finds, where the bound itself need not pass.
use Rattle.std.specs.Prelude.{ℕ, zero, suc, ◌≤◌, ◌<◌, Bool, true, false, ◌≡◌, refl, T}
use Rattle.std.proofs.Common.{zero-le, le_antisymm, lt_of_not-le, le_of_suc-le-suc, arith}
use native.Mathlib.Nat.{not-suc-le-zero}
use Prim.Native.Nat.{suc-le-suc}
use Rattle.estimate.specs.Search.{smallest, smallest_least}

smallest_within : (test : ℕ → Bool) (b : ℕ) → smallest test b ≤ b
unfolding smallest
smallest_within test zero = zero-le
smallest_within test (suc b) = by_test (test zero) (smallest_within (λ i. test (suc i)) b)
  where
    by_test : (v : Bool) → smallest (λ i. test (suc i)) b ≤ b → elim v [ true ↦ zero | false ↦ suc (smallest (λ i. test (suc i)) b) ] ≤ suc b
    by_test true r = zero-le
    by_test false r = suc-le-suc r

-- what is found before the bound passes
pub smallest_below : (test : ℕ → Bool) (b : ℕ) → smallest test b < b → T (test (smallest test b))
unfolding smallest
smallest_below test zero h = absurd (not-suc-le-zero h)
smallest_below test (suc b) h = by_test (test zero) refl (smallest_below (λ i. test (suc i)) b) h
  where
    by_test : (v : Bool) → test zero ≡ v → (smallest (λ i. test (suc i)) b < b → T (test (suc (smallest (λ i. test (suc i)) b))))
        → elim v [ true ↦ zero | false ↦ suc (smallest (λ i. test (suc i)) b) ] < suc b
        → T (test (elim v [ true ↦ zero | false ↦ suc (smallest (λ i. test (suc i)) b) ]))
    by_test true e r l = rw e tt
    by_test false e r l = r (le_of_suc-le-suc l)

module _ (test : ℕ → Bool) (b t : ℕ) (none : (s : ℕ) → s < t → T (test s) → ⊥) where
  -- nothing before t passes
  not_before : t ≤ b → t ≤ smallest test b
  not_before h = le_of_suc-le-suc (lt_of_not-le (λ l. none (smallest test b) l (smallest_below test b (omega arith))))

  -- it is t where t passes, and where t is the bound
  pub smallest_first : t < b → T (test t) → smallest test b ≡ t
  smallest_first h passes = le_antisymm (smallest_least test b t passes) (not_before (omega arith))

  pub smallest_none : t ≡ b → smallest test b ≡ t
  smallest_none e = le_antisymm (rw e (smallest_within test b)) (not_before (omega arith))
