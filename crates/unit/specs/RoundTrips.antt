-- BOTH ROUND TRIPS of a site by the exported calls: what one of them leaves, the other takes as it is. The run that the reader leaves
-- is longer than a site's numbers, and what follows these bears on neither (`site_from`).
use Rattle.std.specs.Prelude.{◌≡◌, List, ◌∷◌, ◌++◌, ℕ, take, drop}
use Rattle.unit.specs.SiteNumbers.{site_numbers, answer_numbers}

-- WHAT IS WRITTEN IS READ BACK: with 0, as the same numbers and the record's length
pub record ReadBack (numbers : List ℕ) (n : ℕ) (before afterwards : List ℕ) (number : ℕ) : Type 0 where
  pub number_is : number ≡ 0
  pub values_are : afterwards ≡ take site_numbers numbers ++ (n ∷ drop answer_numbers before)

-- WHAT IS READ IS WRITTEN BACK: with 0, as the bytes of the record that was read, the first n of the part
pub record WrittenBack (part : List ℕ) (n : ℕ) (before afterwards : List ℕ) (written number : ℕ) : Type 0 where
  pub number_is : number ≡ 0
  pub buffer_is : afterwards ≡ take n part ++ drop n before
  pub length_is : written ≡ n
