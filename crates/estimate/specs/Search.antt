-- The largest and the smallest whole number that pass a test: a search up to a bound, and what it finds among all whole numbers.
use Rattle.std.specs.Prelude.{ℕ, zero, suc, ◌≤◌, ◌<◌, Bool, true, false, ◌≡◌, refl, T}
use Rattle.std.proofs.Common.{zero-le, ⊎_elim, le_antisymm, lt_of_not-le, le_of_suc-le-suc, eq-or-lt_of_le, arith}

-- the largest number up to b that passes the test; 0 where none does
unfoldable pub largest : (ℕ → Bool) → ℕ → ℕ
largest test zero = zero
largest test (suc b) = elim (test (suc b)) [ true ↦ suc b | false ↦ largest test b ]

-- the smallest number up to b that passes the test; b where none does
unfoldable pub smallest : (ℕ → Bool) → ℕ → ℕ
smallest test zero = zero
smallest test (suc b) = elim (test zero) [ true ↦ zero | false ↦ suc (smallest (λ i. test (suc i)) b) ]

-- t is the largest of all whole numbers with the property
pub record Largest (P : ℕ → Type 0) (t : ℕ) : Type 0 where
  pub holds : P t
  pub most : (s : ℕ) → P s → s ≤ t

-- t is the smallest of all whole numbers with the property
pub record Smallest (P : ℕ → Type 0) (t : ℕ) : Type 0 where
  pub holds : P t
  pub least : (s : ℕ) → P s → t ≤ s

largest_passes : (test : ℕ → Bool) → T (test 0) → (b : ℕ) → T (test (largest test b))
unfolding largest
largest_passes test h zero = h
largest_passes test h (suc b) = by_test (test (suc b)) refl (largest_passes test h b)
  where
    by_test : (v : Bool) → test (suc b) ≡ v → T (test (largest test b)) → T (test (elim v [ true ↦ suc b | false ↦ largest test b ]))
    by_test true e r = rw e tt
    by_test false e r = r

largest_most : (test : ℕ → Bool) (b t : ℕ) → t ≤ b → T (test t) → t ≤ largest test b
unfolding largest
largest_most test zero t l h = l
largest_most test (suc b) t l h = by_test (test (suc b)) refl (λ k. largest_most test b t k h)
  where
    by_test : (v : Bool) → test (suc b) ≡ v → (t ≤ b → t ≤ largest test b) → t ≤ elim v [ true ↦ suc b | false ↦ largest test b ]
    by_test true e r = l
    by_test false e r = ⊎_elim (λ (s : t ≡ suc b). absurd (rw (s, e) at h)) (λ (k : t < suc b). r (le_of_suc-le-suc k)) (eq-or-lt_of_le l)

smallest_passes : (test : ℕ → Bool) (b : ℕ) → T (test b) → T (test (smallest test b))
unfolding smallest
smallest_passes test zero h = h
smallest_passes test (suc b) h = by_test (test zero) refl (smallest_passes (λ i. test (suc i)) b h)
  where
    by_test : (v : Bool) → test zero ≡ v → T (test (suc (smallest (λ i. test (suc i)) b)))
        → T (test (elim v [ true ↦ zero | false ↦ suc (smallest (λ i. test (suc i)) b) ]))
    by_test true e r = rw e tt
    by_test false e r = r

pub smallest_least : (test : ℕ → Bool) (b t : ℕ) → T (test t) → smallest test b ≤ t
unfolding smallest
smallest_least test zero t h = zero-le
smallest_least test (suc b) zero h = by_test (test zero) h
  where
    by_test : (v : Bool) → T v → elim v [ true ↦ zero | false ↦ suc (smallest (λ i. test (suc i)) b) ] ≤ zero
    by_test true e = zero-le
    by_test false e = absurd e
smallest_least test (suc b) (suc t) h = by_test (test zero) (smallest_least (λ i. test (suc i)) b t h)
  where
    by_test : (v : Bool) → smallest (λ i. test (suc i)) b ≤ t → elim v [ true ↦ zero | false ↦ suc (smallest (λ i. test (suc i)) b) ] ≤ suc t
    by_test true r = zero-le
    by_test false r = omega arith

-- once the bound is shown to suffice, a search finds the largest (smallest) of ALL whole numbers
module _ (P : ℕ → Type 0) (test : ℕ → Bool) (sound : (t : ℕ) → T (test t) → P t) (complete : (t : ℕ) → P t → T (test t)) (b : ℕ) where
  pub largest_of_all : P 0 → ((t : ℕ) → P t → t ≤ b) → Largest P (largest test b)
  largest_of_all h within = record {
    holds = sound _ (largest_passes test (complete 0 h) b);
    most = λ s k. largest_most test b s (within s k) (complete s k);
  }

  pub smallest_of_all : P b → Smallest P (smallest test b)
  smallest_of_all h = record { holds = sound _ (smallest_passes test b (complete b h)); least = λ s k. smallest_least test b s (complete s k) }

pub largest_unique : {P : ℕ → Type 0} {s t : ℕ} → Largest P s → Largest P t → s ≡ t
largest_unique {P} {s} {t} h k = le_antisymm (k.most s h.holds) (h.most t k.holds)

pub smallest_unique : {P : ℕ → Type 0} {s t : ℕ} → Smallest P s → Smallest P t → s ≡ t
smallest_unique {P} {s} {t} h k = le_antisymm (h.least t k.holds) (k.least s h.holds)

-- BY CERTIFICATE: where the property goes down (up) from number to number, t has it and its neighbour has not
pub largest_by_neighbour : {P : ℕ → Type 0} {t : ℕ} → ((r s : ℕ) → r ≤ s → P s → P r) → P t → (P (suc t) → ⊥) → Largest P t
largest_by_neighbour {P} {t} down h k = record { holds = h; most = λ s l. le_of_suc-le-suc (lt_of_not-le (λ g. k (down (suc t) s g l))) }

pub smallest_by_neighbour : {P : ℕ → Type 0} {t : ℕ} → ((r s : ℕ) → r ≤ s → P r → P s) → P (suc t) → (P t → ⊥) → Smallest P (suc t)
smallest_by_neighbour {P} {t} up h k = record { holds = h; least = λ s l. lt_of_not-le (λ g. k (up s t g l)) }
