-- Lent memory: "Lent memory that a call doesn't write stays as it was."
use Rattle.std.specs.Prelude.{ℕ, cond, List, ◌++◌, length, drop, leb}

-- numbers from the start of a run, the rest as it was
abbrev pub laid_over : (numbers before : List ℕ) → List ℕ
laid_over numbers before = numbers ++ drop (length numbers) before

-- all of them, or none where the run is too short
abbrev pub laid : (numbers before : List ℕ) → List ℕ
laid numbers before = cond (leb (length numbers) (length before)) (laid_over numbers before) before
