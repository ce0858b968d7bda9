-- Laws of Promise in specs/.
use Rattle.std.specs.Prelude.{Result}
use Rattle.std.specs.Prelude.{◌≡◌, List, ℕ, length}
use Rattle.site.specs.declared.values.Site.{Site}
use Rattle.header.specs.declared.Header.{Header}
use Rattle.project_writer.specs.declared.course.FileRefusal.{FileRefusal}
use Rattle.project_writer.specs.ProjectFile.{file_answer, buffer_after}
use Rattle.project_writer.proofs.Exactly.{cause_of}
use Rattle.project_writer.specs.Promise.{WritesProject}

pub writes_project : (header : Header) (sites : List Site) (before afterwards : List ℕ) (answer : Result ℕ FileRefusal)
    → answer ≡ file_answer header sites (length before) → afterwards ≡ buffer_after header sites before
    → WritesProject header sites before afterwards answer
writes_project header sites before afterwards answer e b =
    record { answer_is = e; buffer_is = b; cause = rw e (cause_of header sites (length before)) }
