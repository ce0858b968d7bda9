-- The whole course, from the first site measured to the last written, comes to the file, the answer and the buffer of ProjectFile.
use Rattle.std.specs.Prelude.{Result, Ok, Err}
use Rattle.std.specs.Prelude.{◌≡◌, refl, Bool, true, false, cond, List, ◌++◌, ℕ, ◌+◌, ◌<◌, ◌≤◌, length, leb, ltb}
use Rattle.std.proofs.Common.{sym, ◌∙◌, zero-add, arith, ltb-true, leb-true, leb-false}
use Rattle.std.proofs.lemmas.List.Edits.{sets}
use Rattle.std.proofs.Math.Seq.{length-sets}
use Rattle.laws.specs.Lent.{laid_over}
use Rattle.laws.specs.Truth.{not_both}
use Rattle.laws.specs.Stores.{sets_more, sets_laid}
use Rattle.site.specs.declared.values.Site.{Site}
use Rattle.site.specs.Rules.{edition_known}
use Rattle.header.specs.declared.Header.{Header}
use Rattle.header.specs.Header.{header_length, header_bytes, admits}
use Rattle.header.proofs.HeaderLaws.{admits_both}
use Rattle.project_writer.specs.declared.course.FileRefusal.{FileRefusal}
use Rattle.project_writer.specs.declared.course.FileRefusal.TheVariants.{EditionUnknown, OutsideLimits, OutsideRange, TooShort}
use Rattle.project_writer.specs.declared.course.Course.{Course}
use Rattle.project_writer.specs.declared.course.Course.TheVariants.{Measured, Placed, Stopped}
use Rattle.project_writer.specs.ProjectFile.{records_of, file_of, sound_sites, leaves, buffer_after}
use Rattle.project_writer.specs.Course.{walk_course, walk_buffer, begun_course, begun_buffer, course_answer, Walks, Begins}
use Rattle.project_writer.specs.Sound.{none_outside}
use Rattle.project_writer.proofs.Sound.{first_outside}
use Rattle.project_writer.specs.Walks.{walk_stopped, walk_stopped_buffer, walk_sound, walk_outside, walk_measured_buffer}
use Rattle.project_writer.specs.Walks.{walk_placed, walk_placed_buffer}
use Rattle.project_writer.specs.Exactly.{FileTells}
use Rattle.project_writer.proofs.Exactly.{file_length, limits_kept, writable, writable_sound, answer_exactly}
use Rattle.project_writer.specs.Promise.{WritesProject}
use Rattle.project_writer.proofs.Promise.{writes_project}

-- where the sites are measured: at the first outside its range, or after them all with the length of the file
data MeasuredTo (edition years : ℕ) (sites : List Site) : Course → Type 0 where
  at_outside : sound_sites edition years sites < length sites → MeasuredTo edition years sites (Stopped (Err (OutsideRange (sound_sites edition years sites))))
  after_all : sound_sites edition years sites ≡ length sites
      → MeasuredTo edition years sites (Measured (length sites) (header_length + length (records_of edition sites)))

measured_to : (edition years : ℕ) (sites : List Site) → MeasuredTo edition years sites (walk_course edition years sites (Measured 0 header_length))
measured_to edition years sites = by (ltb (sound_sites edition years sites) (length sites)) refl
  where
    by : (b : Bool) → ltb (sound_sites edition years sites) (length sites) ≡ b
        → MeasuredTo edition years sites (walk_course edition years sites (Measured 0 header_length))
    by true q =
        let h = ltb-true (sound_sites edition years sites) (length sites) q in
        rw (walk_outside edition years sites 0 header_length h, zero-add (sound_sites edition years sites)) (at_outside h)
    by false q =
        let all = none_outside edition years sites q in
        rw (walk_sound edition years sites 0 header_length all, zero-add (length sites)) (after_all all)

-- a text stored behind another from the start of a buffer that has space for both
laid_over_lem : (front back before : List ℕ) → length (front ++ back) ≤ length before
    → sets (sets before 0 front) (length front) back ≡ laid_over (front ++ back) before
laid_over_lem front back before fits =
    (rw zero-add at (sets_more before 0 front back)) ∙ sets_laid (front ++ back) before fits

module _ (header : Header) (sites : List Site) (before : List ℕ) where
  told : (afterwards : List ℕ) (answer : Result ℕ FileRefusal) → FileTells header sites (length before) answer
      → afterwards ≡ leaves answer (file_of header sites) before → WritesProject header sites before afterwards answer
  unfolding buffer_after
  told afterwards answer tells left =
      let is = (answer_exactly header sites (length before) answer).1 tells in
      writes_project header sites before afterwards answer (sym is) (rw is left)

  -- where the space is tried: the course has stopped, or the file has its space and the header is written
  data BegunTo : Course → List ℕ → Type 0 where
    stopped_with : (answer : Result ℕ FileRefusal) → FileTells header sites (length before) answer → before ≡ leaves answer (file_of header sites) before
        → BegunTo (Stopped answer) before
    with_space : FileTells header sites (length before) (Ok (length (file_of header sites)))
        → BegunTo (Placed header_length) (sets before 0 (header_bytes header (length sites)))

  walks_begun : {course : Course} {buffer : List ℕ} → BegunTo course buffer → Walks header.edition header.years sites course (length buffer)
  walks_begun (stopped_with answer tells left) = tt
  walks_begun (with_space tells) =
      (writable_sound header sites tells.0, rw (length-sets before 0 (header_bytes header (length sites)), ← file_length header sites) tells.1)

  written : {course : Course} {buffer : List ℕ} → BegunTo course buffer
      → WritesProject header sites before (walk_buffer header.edition header.years sites course buffer)
      (course_answer (walk_course header.edition header.years sites course))
  unfolding file_of
  written (stopped_with answer tells left) =
      rw (walk_stopped header.edition header.years sites answer, walk_stopped_buffer header.edition header.years sites answer before)
      (told before answer tells left)
  written (with_space tells) =
      let front = header_bytes header (length sites) in
      let course_is = walk_placed header.edition header.years sites header_length in
      let buffer_is = walk_placed_buffer header.edition header.years sites header_length (sets before 0 front) in
      rw (course_is, ← file_length header sites, buffer_is, laid_over_lem front (records_of header.edition sites) before tells.1) (told _ _ tells refl)

  -- "3 .., which the project writer tries first"
  pub edition_refused : edition_known header.edition ≡ false → WritesProject header sites before before (Err EditionUnknown)
  edition_refused x = told before (Err EditionUnknown) x refl

  -- "Header limits are tried first", of all that document 02 has for request 1
  pub limits_refused : edition_known header.edition ≡ true → admits header (length sites) ≡ false → WritesProject header sites before before (Err OutsideLimits)
  limits_refused x e = told before (Err OutsideLimits) (x, λ kept. not_both _ (admits_both header (length sites) kept) e) refl

  module _ (x : edition_known header.edition ≡ true) (e : admits header (length sites) ≡ true) where
    begins : {course : Course} → MeasuredTo header.edition header.years sites course → Begins header (length sites) course
    begins (at_outside h) = tt
    begins (after_all all) = (x, e, omega arith)

    begun_to : {course : Course} → MeasuredTo header.edition header.years sites course
        → BegunTo (begun_course course (length before)) (begun_buffer header (length sites) course before)
    begun_to (at_outside h) =
        stopped_with (Err (OutsideRange (sound_sites header.edition header.years sites)))
        (x, limits_kept header sites e, first_outside header.edition header.years sites h) refl
    begun_to (after_all all) = by (leb (header_length + length (records_of header.edition sites)) (length before)) refl
      where
        by : (b : Bool) → leb (header_length + length (records_of header.edition sites)) (length before) ≡ b
            → BegunTo (cond b (Placed header_length) (Stopped (Err TooShort))) (cond b (sets before 0 (header_bytes header (length sites))) before)
        by true q = with_space (writable header sites x e all, rw (file_length header sites) (leb-true _ (length before) q), refl)
        by false q = stopped_with (Err TooShort) (writable header sites x e all, rw (file_length header sites) (leb-false _ (length before) q)) refl

    -- "then each site": they are measured
    pub measuring : Walks header.edition header.years sites (Measured 0 header_length) (length before)
    measuring = (omega (arith, (limits_kept header sites e).1), omega arith)

    module _ (measured : Course) (between : List ℕ)
        (walked : (measured ≡ walk_course header.edition header.years sites (Measured 0 header_length))
        × (between ≡ walk_buffer header.edition header.years sites (Measured 0 header_length) before)) where
      -- "then the space"
      pub beginning : Begins header (length sites) measured
      beginning = rw walked.0 (begins (measured_to header.edition header.years sites))

      module _ (begun : Course) (buffer : List ℕ)
          (tried : (begun ≡ begun_course measured (length between)) × (buffer ≡ begun_buffer header (length sites) measured between)) where
        begun_is : BegunTo begun buffer
        begun_is =
            rw (tried.0, tried.1, walked.1, walk_measured_buffer header.edition header.years sites 0 header_length before, walked.0)
            (begun_to (measured_to header.edition header.years sites))

        -- and the sites are written
        pub writing : Walks header.edition header.years sites begun (length buffer)
        writing = walks_begun begun_is

        pub whole_course : (last : Course) (afterwards : List ℕ) (answer : Result ℕ FileRefusal)
            → (last ≡ walk_course header.edition header.years sites begun)
            × (afterwards ≡ walk_buffer header.edition header.years sites begun buffer) → answer ≡ course_answer last
            → WritesProject header sites before afterwards answer
        whole_course last afterwards answer put is = rw (is, put.0, put.1) (written begun_is)
