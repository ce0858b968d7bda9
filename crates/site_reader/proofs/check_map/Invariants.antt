-- No bit before here is one that the kind lacks, so the rest of the rules tells; and a needed bit is absent before here or from here on.
use Rattle.std.specs.Prelude.{◌≡◌, ◌||◌, drop}
use Rattle.site.specs.Record.{lacks, misses}
use Rattle.site_reader.proofs.check_map.Given as goal

abbrev pub invariant-loop-rule : goal.invariant-loop-rule
invariant-loop-rule l =
    let left = drop l.rule-index l.fn.rules in
    (lacks left l.rest ≡ lacks l.fn.rules l.map) × ((l.missing || misses left l.rest) ≡ misses l.fn.rules l.map)
