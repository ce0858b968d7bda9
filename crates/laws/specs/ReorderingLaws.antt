-- Laws of a reordering: it gives a permutation of the library, and such a permutation gives one; no place is left out, each element stands
-- as often as before, and a list from its end is one.
use Rattle.std.specs.Prelude.{ℕ, ◌<◌, ◌≡◌}

-- a place below n whose image is j
pub record ImageAt (n : ℕ) (image : ℕ → ℕ) (j : ℕ) : Type 0 where
  pub place : ℕ
  pub within : place < n
  pub is : image place ≡ j
