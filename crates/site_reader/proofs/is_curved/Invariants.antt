-- No bit of the curve before here stands, so the rest of the entries tells.
use Rattle.std.specs.Prelude.{◌≡◌, drop}
use Rattle.site.specs.Record.{curved}
use Rattle.site_reader.proofs.is_curved.Given as goal

abbrev pub invariant-loop-entry : goal.invariant-loop-entry
invariant-loop-entry l = curved (drop l.entry-index l.fn.entries) l.rest ≡ curved l.fn.entries l.map
