-- The steps of the code: what a walk over the sites makes of its course and of the buffer.
use Rattle.std.specs.Prelude.{Result, Ok, Err}
use Rattle.std.specs.Prelude.{ℕ, ◌+◌, ◌*◌, ◌≤◌, ◌≡◌, true, cond, List, [], ◌∷◌, length, leb}
use Rattle.std.proofs.lemmas.List.Edits.{sets}
use Rattle.site.specs.declared.values.Site.{Site}
use Rattle.site.specs.Rules.{edition_known}
use Rattle.site.specs.Writing.{record_of, sound}
use Rattle.site.specs.Theorems.{longest}
use Rattle.header.specs.declared.Header.{Header}
use Rattle.header.specs.Header.{header_length, header_bytes, admits, most_sites}
use Rattle.project_writer.specs.declared.course.FileRefusal.{FileRefusal}
use Rattle.project_writer.specs.declared.course.FileRefusal.TheVariants.{OutsideRange, TooShort}
use Rattle.project_writer.specs.declared.course.Course.{Course}
use Rattle.project_writer.specs.declared.course.Course.TheVariants.{Measured, Placed, Stopped}
use Rattle.project_writer.specs.ProjectFile.{records_of, sound_sites}

-- one site more of a project of an edition and of so many years
abbrev pub step_course : (edition years : ℕ) → Site → Course → Course
step_course edition years site (Measured sites n) =
    cond (sound edition years site) (Measured (sites + 1) (n + length (record_of edition site))) (Stopped (Err (OutsideRange sites)))
step_course edition years site (Placed at) = Placed (at + length (record_of edition site))
step_course edition years site (Stopped answer) = Stopped answer

abbrev pub step_buffer : (edition : ℕ) → Site → Course → List ℕ → List ℕ
step_buffer edition site (Measured sites n) buffer = buffer
step_buffer edition site (Placed at) buffer = sets buffer at (record_of edition site)
step_buffer edition site (Stopped answer) buffer = buffer

-- all of them, in their order
unfoldable pub walk_course : (edition years : ℕ) → List Site → Course → Course
walk_course edition years [] course = course
walk_course edition years (site ∷ sites) course = walk_course edition years sites (step_course edition years site course)

unfoldable pub walk_buffer : (edition years : ℕ) → List Site → Course → List ℕ → List ℕ
walk_buffer edition years [] course buffer = buffer
walk_buffer edition years (site ∷ sites) course buffer =
    walk_buffer edition years sites (step_course edition years site course) (step_buffer edition site course buffer)

-- the space test, and the header
abbrev pub begun_course : Course → (room : ℕ) → Course
begun_course (Measured sites n) room = cond (leb n room) (Placed header_length) (Stopped (Err TooShort))
begun_course (Placed at) room = Placed at
begun_course (Stopped answer) room = Stopped answer

abbrev pub begun_buffer : Header → (sites : ℕ) → Course → List ℕ → List ℕ
begun_buffer header count (Measured sites n) buffer = cond (leb n (length buffer)) (sets buffer 0 (header_bytes header count)) buffer
begun_buffer header count (Placed at) buffer = buffer
begun_buffer header count (Stopped answer) buffer = buffer

abbrev pub course_answer : Course → Result ℕ FileRefusal
course_answer (Measured sites n) = (Err TooShort)
course_answer (Placed n) = Ok n
course_answer (Stopped answer) = answer

-- what a walk over so many sites needs: a file within the limits of length where it is measured, and valid sites whose records
-- fit the buffer where it is written
abbrev pub Walks : (edition years : ℕ) → List Site → Course → (room : ℕ) → Type 0
Walks edition years sites (Measured count n) room = (count + length sites ≤ most_sites) × (n ≤ header_length + longest * count)
Walks edition years sites (Placed at) room = (sound_sites edition years sites ≡ length sites) × (at + length (records_of edition sites) ≤ room)
Walks edition years sites (Stopped answer) room = Unit

-- what the space test needs: a header of a known edition, within its limits, and a measure that counts it
abbrev pub Begins : Header → (sites : ℕ) → Course → Type 0
Begins header count (Measured sites n) = (edition_known header.edition ≡ true) × (admits header count ≡ true) × (header_length ≤ n)
Begins header count (Placed at) = Unit
Begins header count (Stopped answer) = Unit
