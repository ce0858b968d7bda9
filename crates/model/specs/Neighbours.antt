-- Twice what a shoulder takes of a table by column, whatever the table holds: its own column's value at 0, 2, 4, 6 and 8 feet, the
-- mean of its two neighbours at 1, 3, 5 and 7, and the last column's from 8 feet on. And its factor in each of these cases.
use Rattle.std.specs.Prelude.{ℕ, ◌≡◌}
use Rattle.model.specs.Widths.{column_below, column_above}

-- a width with the columns below and above it
abbrev pub Between : (feet below above : ℕ) → Type 0
Between feet below above = (column_below feet ≡ below) × (column_above feet ≡ above)
