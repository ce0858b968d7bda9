-- A rule of a table: one test, computed entry after entry, and one law that carries it to each entry.
use Rattle.std.specs.Prelude.{◌≡◌, Bool, true, false, List, [], ◌∷◌, ℕ, zero, suc, ◌+◌, ◌<◌, T, eqb, length, get_or}
use Rattle.std.proofs.Common.{◌∙◌, subst, sym, ⊎_elim, add-zero, zero-add, add-suc, suc-add, le_of_suc-le-suc, not-suc-le-zero, eq-or-lt_of_le, eqb→eq}

-- both tests pass
abbrev pub both : Bool → Bool → Bool
both true b = b
both false b = false

pub both_left : (a b : Bool) → T (both a b) → T a
both_left true b t = tt
both_left false b t = t

pub both_right : (a b : Bool) → T (both a b) → T b
both_right true b t = t
both_right false b t = absurd t

-- the test passes at each entry of the list and its place, counted from i
abbrev pub every_at : (ℕ → ℕ → Bool) → ℕ → List ℕ → Bool
every_at test i [] = true
every_at test i (x ∷ xs) = both (test i x) (every_at test (suc i) xs)

at_from : (test : ℕ → ℕ → Bool) (xs : List ℕ) (i : ℕ) → T (every_at test i xs) → (k : ℕ) → k < length xs → T (test (i + k) (get_or xs k 0))
at_from test [] i t k h = absurd (not-suc-le-zero h)
at_from test (x ∷ xs) i t zero h = subst (λ (m : ℕ). T (test m x)) (sym (add-zero i)) (both_left (test i x) (every_at test (suc i) xs) t)
at_from test (x ∷ xs) i t (suc k) h =
    subst (λ (m : ℕ). T (test m (get_or xs k 0))) (suc-add i k ∙ sym (add-suc i k))
    (at_from test xs (suc i) (both_right (test i x) (every_at test (suc i) xs) t) k (le_of_suc-le-suc h))

-- what every_at entry passes, the k-th passes
pub at : (test : ℕ → ℕ → Bool) (xs : List ℕ) → T (every_at test 0 xs) → (k : ℕ) → k < length xs → T (test k (get_or xs k 0))
at test xs t k h = subst (λ (m : ℕ). T (test m (get_or xs k 0))) (zero-add k) (at_from test xs 0 t k h)

-- a table of n entries that each pass, and its k-th
unfoldable pub passes_all : (ℕ → ℕ → Bool) → ℕ → List ℕ → Bool
passes_all test n xs = both (eqb (length xs) n) (every_at test 0 xs)

pub entry_passes : (test : ℕ → ℕ → Bool) (n : ℕ) (xs : List ℕ) → T (passes_all test n xs) → (k : ℕ) → k < n → T (test k (get_or xs k 0))
unfolding passes_all
entry_passes test n xs t k h = at test xs (both_right (eqb (length xs) n) _ t) k (rw (eqb→eq (length xs) n (both_left (eqb (length xs) n) _ t)) h)

-- a test passes at each entry of a list
unfoldable pub all_of : {A : Type 0} → (A → Bool) → List A → Bool
all_of test [] = true
all_of test (x ∷ xs) = both (test x) (all_of test xs)

-- so at the i-th, and past the end where the default passes too
pub entry_of : {A : Type 0} (test : A → Bool) (d : A) → T (test d) → (xs : List A) → T (all_of test xs) → (i : ℕ) → T (test (get_or xs i d))
unfolding all_of
entry_of test d td [] t i = td
entry_of test d td (x ∷ xs) t zero = both_left (test x) (all_of test xs) t
entry_of test d td (x ∷ xs) t (suc i) = entry_of test d td xs (both_right (test x) (all_of test xs) t) i

-- a test passes at each number below n
unfoldable pub all_below : (ℕ → Bool) → ℕ → Bool
all_below test zero = true
all_below test (suc n) = both (test n) (all_below test n)

pub all_below_lem : (test : ℕ → Bool) (n : ℕ) → T (all_below test n) → (i : ℕ) → i < n → T (test i)
unfolding all_below
all_below_lem test zero t i h = absurd (not-suc-le-zero h)
all_below_lem test (suc n) t i h =
    ⊎_elim (λ (e : i ≡ n). rw e (both_left (test n) (all_below test n) t)) (λ (l : i < n). all_below_lem test n (both_right (test n) (all_below test n) t) i l)
    (eq-or-lt_of_le (le_of_suc-le-suc h))

-- two functions that a test finds equal at each number below n, and two of two numbers
pub agree_below : (f g : ℕ → ℕ) (n : ℕ) → T (all_below (λ i. eqb (f i) (g i)) n) → (i : ℕ) → i < n → f i ≡ g i
agree_below f g n t i h = eqb→eq (f i) (g i) (all_below_lem (λ i. eqb (f i) (g i)) n t i h)

pub agree_below_both : (f g : ℕ → ℕ → ℕ) (m n : ℕ) → T (all_below (λ i. all_below (λ j. eqb (f i j) (g i j)) n) m) → (i j : ℕ) → i < m → j < n → f i j ≡ g i j
agree_below_both f g m n t i j h k = agree_below (f i) (g i) n (all_below_lem (λ i. all_below (λ j. eqb (f i j) (g i j)) n) m t i h) j k
