-- The writer answers each of its answers exactly where that answer's cause is so.
use Rattle.std.specs.Prelude.{Result, Ok, Err}
use Rattle.std.specs.Prelude.{◌≡◌, List, ℕ, ◌<◌, ◌≤◌, length}
use Rattle.std.proofs.Math.Bool.{true, false}
use Rattle.site.specs.declared.values.Site.{Site}
use Rattle.site.specs.Rules.{edition_known}
use Rattle.header.specs.declared.Header.{Header}
use Rattle.project_writer.specs.declared.course.FileRefusal.{FileRefusal}
use Rattle.project_writer.specs.declared.course.FileRefusal.TheVariants.{EditionUnknown, OutsideLimits, OutsideRange, TooShort}
use Rattle.project_writer.specs.ProjectFile.{file_of}
use Rattle.project_writer.specs.Causes.{LimitsKept, FirstOutside, Writable}

-- what each answer says of the header's values, the sites and the space
abbrev pub FileTells : Header → List Site → (room : ℕ) → Result ℕ FileRefusal → Type 0
FileTells header sites room (Ok n) = Writable header sites × (length (file_of header sites) ≤ room) × (n ≡ length (file_of header sites))
FileTells header sites room (Err EditionUnknown) = edition_known header.edition ≡ false
FileTells header sites room (Err OutsideLimits) = (edition_known header.edition ≡ true) × (LimitsKept header sites → ⊥)
FileTells header sites room (Err (OutsideRange index)) =
    (edition_known header.edition ≡ true) × LimitsKept header sites × FirstOutside header.edition header.years sites index
FileTells header sites room (Err TooShort) = Writable header sites × (room < length (file_of header sites))
