-- The map so far is that of the slots from i on.
use Rattle.std.proofs.Common.{◌≡◌, drop}
use Rattle.site.specs.Writing.{map_of}
use Rattle.site_writer.proofs.map_of.Given as goal

abbrev pub invariant-loop-i : goal.invariant-loop-i
invariant-loop-i l = l.map ≡ map_of (drop l.i l.rules) (drop l.i l.slots)
