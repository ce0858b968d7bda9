-- Laws of FileRoundTrips in specs/.
use Rattle.std.specs.Prelude.{Ok}
use Rattle.std.specs.Prelude.{◌≡◌, refl, ℕ, ◌≤◌, length, drop}
use Rattle.std.proofs.Math.Path.{ap}
use Rattle.std.proofs.Common.{◌∙◌}
use mathlib.Core.List.{List, ◌++◌}
use Rattle.site.specs.Digits.{Bytes}
use Rattle.header.specs.Header.{header_in, count_in}
use Rattle.project.specs.File.{scan_file, sites_in}
use Rattle.project.proofs.Acceptance.{no_cause_exactly}
use Rattle.project_writer.specs.ProjectFile.{file_answer, file_number, file_value, buffer_after}
use Rattle.project_writer.proofs.Exactly.{writable_sound}
use Rattle.project_writer.proofs.Theorems.{accepted_writable, accepted_written}
use Rattle.unit.specs.ProjectNumbers.{ReadsProject}
use Rattle.unit.specs.FileNumbers.{sites_given, WritesFile}
use Rattle.unit.specs.Given.{sites_run}
use Rattle.unit.proofs.Given.{given_again}
use Rattle.unit.specs.FileRoundTrips.{FileWrittenBack}

module _ {file run report : List ℕ} {count : ℕ} (r : ReadsProject file run report count 0) where
  accepted : scan_file file ≡ Ok (count_in file)
  accepted = ((no_cause_exactly file (length run) (count_in file)).1 ((r.reported refl).no_cause, refl)).0

  pub read_file_written : Bytes file → {numbers before afterwards : List ℕ} {value number : ℕ} → sites_given numbers ≡ sites_in file
      → length file ≤ length before → WritesFile (header_in file) numbers before afterwards value number
      → FileWrittenBack file before afterwards value number
  read_file_written bytes {numbers} {before} given space w =
      let back = accepted_written file bytes (count_in file) before accepted space in
      let answer : file_answer (header_in file) (sites_given numbers) (length before) ≡ Ok (length file) = rw given back.0 in
      let left : buffer_after (header_in file) (sites_given numbers) before ≡ file ++ drop (length file) before = rw given back.1 in
      record {
        number_is = w.number_is ∙ ap file_number answer;
        value_is = w.value_is ∙ ap file_value answer;
        buffer_is = w.buffer_is ∙ left;
      }

  -- and there are numbers that give its sites
  pub file_given : sites_given (sites_run (sites_in file)) ≡ sites_in file
  file_given = given_again _ _ (sites_in file) (writable_sound (header_in file) (sites_in file) (accepted_writable file (count_in file) accepted))
