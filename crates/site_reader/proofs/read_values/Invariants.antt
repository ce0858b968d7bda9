-- The fields before i are not refused, so many of their numbers are passed, and the others tell; with the slots from i on filled in,
-- the list is all the slots. The fields are those without the later values.
use Rattle.std.specs.Prelude.{◌≡◌, ◌+◌, ◌*◌, ◌≤◌, drop, length}
use Rattle.std.proofs.lemmas.List.Edits.{sets}
use Rattle.site.specs.Rules.{slot_count}
use Rattle.site.specs.Record.{words, fields_number, fields_values, gathered}
use Rattle.site_reader.proofs.read_values.Given as goal

abbrev pub invariant-loop-i : goal.invariant-loop-i
invariant-loop-i l =
    let left = drop l.i l.fn.rules in
    let fields = gathered l.later l.minor l.s in
    (l.count ≤ l.i) × (l.count + words left l.rest ≡ words l.fn.rules l.map)
    × (fields_number left l.rest (drop (2 * l.count) fields) ≡ fields_number l.fn.rules l.map fields) × (length l.slots ≡ slot_count)
    × (sets l.slots l.i (fields_values left l.rest (drop (2 * l.count) fields)) ≡ fields_values l.fn.rules l.map fields)
