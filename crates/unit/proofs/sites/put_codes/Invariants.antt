-- With the codes from i on stored, the run is as it is to be.
use Rattle.std.proofs.Common.{◌≡◌, ◌+◌, map, drop}
use Rattle.std.proofs.lemmas.List.Edits.{sets}
use Rattle.unit.specs.SiteNumbers.{code}
use Rattle.unit.proofs.sites.put_codes.Given as goal

abbrev pub invariant-loop-i : goal.invariant-loop-i
invariant-loop-i l = sets l.values (l.at + l.i) (map code (drop l.i l.slots)) ≡ sets l.initial.values l.at (map code l.slots)
