-- LISTS WITH THE SAME ELEMENTS IN ANOTHER ORDER, each as often as before.
use Rattle.std.specs.Prelude.{ℕ, ◌<◌, ◌≡◌, List, length, get_or}

-- a one-to-one map of the places of one list to those of another that is as long, with the same element at a place and at its image
pub record Reordering {A : Type 0} (xs ys : List A) (image : ℕ → ℕ) : Type 0 where
  pub same_length : length ys ≡ length xs
  pub inside : (i : ℕ) → i < length xs → image i < length ys
  pub one_to_one : (i j : ℕ) → i < length xs → j < length xs → image i ≡ image j → i ≡ j
  pub same : (i : ℕ) (d : A) → i < length xs → get_or ys (image i) d ≡ get_or xs i d
