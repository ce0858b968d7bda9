-- The records that are left, at their place, tell what the scan answers.
use Rattle.std.proofs.Common.{◌≡◌, ◌≤◌, length, ◌-◌}
use Rattle.header.specs.Header.{header_length}
use Rattle.project.specs.File.{scan_records}
use Rattle.project.proofs.scan_records.Given as goal

abbrev pub invariant-loop : goal.invariant-loop
invariant-loop l =
    (l.at ≤ length l.file)
    × (scan_records l.edition l.years l.sites (l.sites - l.counter) l.at l.file ≡ scan_records l.edition l.years l.sites l.sites header_length l.file)
