-- The years before i are read, and the others hold no number.
use Rattle.std.specs.Prelude.{◌≡◌, drop}
use Rattle.site.specs.Rules.{later_years}
use Rattle.site.specs.Record.{later_read}
use Rattle.site_reader.proofs.later_at.Given as goal

abbrev pub invariant-loop-i : goal.invariant-loop-i
invariant-loop-i l = l.slots ≡ later_read later_years l.i (drop l.at l.s)
