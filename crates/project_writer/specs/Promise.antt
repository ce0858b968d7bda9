-- What the project writer promises: equations for the answer and for every byte of the buffer afterwards, and what the answer says.
use Rattle.std.specs.Prelude.{Result}
use Rattle.std.specs.Prelude.{◌≡◌, List, ℕ, length}
use Rattle.site.specs.declared.values.Site.{Site}
use Rattle.header.specs.declared.Header.{Header}
use Rattle.project_writer.specs.declared.course.FileRefusal.{FileRefusal}
use Rattle.project_writer.specs.ProjectFile.{file_answer, file_number, file_value, buffer_after}
use Rattle.project_writer.specs.Causes.{FileCause}

-- "The file comes out complete, or nothing is written", and why not
pub record WritesProject (header : Header) (sites : List Site) (before afterwards : List ℕ) (answer : Result ℕ FileRefusal) : Type 0 where
  pub answer_is : answer ≡ file_answer header sites (length before)
  pub buffer_is : afterwards ≡ buffer_after header sites before
  pub cause : FileCause header sites (length before) (file_number answer) (file_value answer)
