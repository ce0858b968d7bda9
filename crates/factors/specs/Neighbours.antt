-- A shoulder's two neighbours as the code holds them: the places of their columns, or what a table has there.
use Rattle.std.specs.Prelude.{ℕ, ◌+◌, ◌≡◌}
use Rattle.model.specs.Widths.{column_below, column_above, twice_mean}
use Rattle.factors.specs.declared.widths.Neighbours.{Neighbours}

-- the columns that a shoulder stands between
abbrev pub Beside : ℕ → Neighbours → Type 0
Beside feet columns = (columns.below ≡ column_below feet) × (columns.above ≡ column_above feet)

-- what a table by column has at both
abbrev pub AtBoth : (ℕ → ℕ) → (columns numbers : Neighbours) → Type 0
AtBoth value columns numbers = (numbers.below ≡ value columns.below) × (numbers.above ≡ value columns.above)

-- added up it is twice the mean
pub twice_mean_lem : (value : ℕ → ℕ) (feet : ℕ) {columns numbers : Neighbours} → Beside feet columns → AtBoth value columns numbers
    → numbers.below + numbers.above ≡ twice_mean value feet
twice_mean_lem value feet columns_are numbers_are = rw (numbers_are.0, numbers_are.1, columns_are.0, columns_are.1)
