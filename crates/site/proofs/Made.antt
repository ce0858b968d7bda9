-- An array that `array::from_fn` makes by a closure which stays as it was.
use Rattle.std.proofs.Common.{◌≡◌, ◌∙◌, ℕ, zero, suc, ◌+◌, ◌<◌, List, subst, get_or, arith}
use Rattle.std.specs.Array.{IsFromFnResult, IsFromFnResultFrom}
use denote.Param.Members.{Mut, Called}

module _ {F B : Type 0} (g : Mut F (ℕ × Unit {0}) B) (f : F) (ys : List B) (made : ℕ → B) (d : B)
    (gives : (x : ℕ) (y : B) (q : F) → Called g f (x, tt) y q → (q ≡ f) × (y ≡ made x)) where
  from_place : (i n : ℕ) → IsFromFnResultFrom g f ys i n → (k : ℕ) → k < n → get_or ys (i + k) d ≡ made (i + k)
  from_place i zero run k h = absurd (omega arith)
  from_place i (suc n) (q, y, el, call, rest) zero h =
      let at : i + 0 ≡ i = omega arith in
      rw at (el.1 d ∙ (gives i y q call).1)
  from_place i (suc n) (q, y, el, call, rest) (suc k) h =
      let at : i + suc k ≡ i + 1 + k = omega arith in
      let later = subst (λ (x : F). IsFromFnResultFrom g x ys (i + 1) n) (gives i y q call).0 rest in
      rw at (from_place (i + 1) n later k (omega arith))

  -- each element is what the closure gives for its place
  pub made_at : {n : ℕ} → IsFromFnResult g f ys n → (k : ℕ) → k < n → get_or ys k d ≡ made k
  made_at {n} run k h = let at : 0 + k ≡ k = omega arith in rw at at (from_place 0 n run.each k h)
