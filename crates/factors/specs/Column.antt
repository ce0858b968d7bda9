-- A column of a width table as the code holds it.
use Rattle.std.specs.Prelude.{ℕ, ◌≡◌, List, map, get_or}
use Rattle.std.proofs.Common.{ap}
use Rattle.std.proofs.Math.ListN.{get_or-map}
use Rattle.model.specs.Widths as model
use Rattle.factors.specs.declared.widths.Column.{Column}

abbrev pub column_of : Column → model.Column
column_of c = model.column c.light c.adds c.takes c.heavy

abbrev pub held : model.Column → Column
held c = record { light = c.light; adds = c.adds; takes = c.takes; heavy = c.heavy }

-- the code's table of the definition's columns has each at its place
pub column_at : (columns : List model.Column) (i : ℕ) → column_of (get_or (map held columns) i (held model.none)) ≡ get_or columns i model.none
column_at columns i = ap column_of (get_or-map held columns i model.none)
