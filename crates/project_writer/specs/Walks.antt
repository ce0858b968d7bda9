-- Laws of the walk over the sites: where it ends, and one turn of a loop that walks.
use Rattle.std.specs.Prelude.{Result, Err}
use Rattle.std.specs.Prelude.{◌≡◌, refl, Bool, true, false, cond, List, [], ◌∷◌, ℕ, suc, ◌+◌, ◌<◌, length}
use Rattle.std.proofs.Common.{ap, ◌∙◌, add-zero, length-append}
use native.Mathlib.Omega.{arith}
use Rattle.std.proofs.lemmas.List.Edits.{sets}
use Rattle.std.proofs.Math.Seq.{length-sets}
use Rattle.laws.specs.Stores.{sets_more}
use Rattle.site.specs.declared.values.Site.{Site}
use Rattle.site.specs.Writing.{record_of, sound}
use Rattle.project_writer.specs.declared.course.FileRefusal.{FileRefusal}
use Rattle.project_writer.specs.declared.course.FileRefusal.TheVariants.{OutsideRange}
use Rattle.project_writer.specs.declared.course.Course.{Course}
use Rattle.project_writer.specs.declared.course.Course.TheVariants.{Measured, Placed, Stopped}
use Rattle.project_writer.specs.ProjectFile.{records_of, sound_sites}
use Rattle.project_writer.specs.Course.{step_buffer, walk_course, walk_buffer, Walks}
use Rattle.project_writer.specs.Sound.{sound_first, outside_first, all_sound}

pub records_length : (edition : ℕ) (site : Site) (sites : List Site)
    → length (records_of edition (site ∷ sites)) ≡ length (record_of edition site) + length (records_of edition sites)
unfolding records_of
records_length edition site sites = simp length-append (omega arith)

-- one site more is measured, by the test of its values
abbrev pub measured_by : (edition : ℕ) → Bool → Site → (i n : ℕ) → Course
measured_by edition b site i n = cond b (Measured (i + 1) (n + length (record_of edition site))) (Stopped (Err (OutsideRange i)))

-- WHERE IT ENDS: a walk that has stopped moves nothing
pub walk_stopped : (edition years : ℕ) (sites : List Site) (answer : Result ℕ FileRefusal) → walk_course edition years sites (Stopped answer) ≡ Stopped answer
unfolding walk_course
walk_stopped edition years [] answer = refl
walk_stopped edition years (site ∷ sites) answer = walk_stopped edition years sites answer

pub walk_stopped_buffer : (edition years : ℕ) (sites : List Site) (answer : Result ℕ FileRefusal) (buffer : List ℕ)
    → walk_buffer edition years sites (Stopped answer) buffer ≡ buffer
unfolding walk_buffer
walk_stopped_buffer edition years [] answer buffer = refl
walk_stopped_buffer edition years (site ∷ sites) answer buffer = walk_stopped_buffer edition years sites answer buffer

-- the sites are measured where none is outside its range
pub walk_sound : (edition years : ℕ) (sites : List Site) (i n : ℕ) → sound_sites edition years sites ≡ length sites
    → walk_course edition years sites (Measured i n) ≡ Measured (i + length sites) (n + length (records_of edition sites))
unfolding walk_course records_of
walk_sound edition years [] i n e = rw (add-zero i, add-zero n)
walk_sound edition years (site ∷ sites) i n e =
    let all = all_sound edition years site sites e in
    let count : i + 1 + length sites ≡ i + suc (length sites) = omega arith in
    let total : n + length (record_of edition site) + length (records_of edition sites) ≡ n + length (records_of edition (site ∷ sites)) =
    omega (arith, records_length edition site sites) in
    rw (all.0.is_sound, walk_sound edition years sites (i + 1) (n + length (record_of edition site)) all.1, count, total)

-- and the first that is, by its index, stops the walk
pub walk_outside : (edition years : ℕ) (sites : List Site) (i n : ℕ) → sound_sites edition years sites < length sites
    → walk_course edition years sites (Measured i n) ≡ Stopped (Err (OutsideRange (i + sound_sites edition years sites)))
unfolding walk_course
walk_outside edition years [] i n h = absurd (omega arith)
walk_outside edition years (site ∷ sites) i n h =
    by (sound edition years site) refl (walk_outside edition years sites (i + 1) (n + length (record_of edition site)))
  where
    by : (b : Bool) → sound edition years site ≡ b
        → (sound_sites edition years sites < length sites
        → walk_course edition years sites (measured_by edition true site i n) ≡ Stopped (Err (OutsideRange (i + 1 + sound_sites edition years sites))))
        → walk_course edition years sites (measured_by edition b site i n) ≡ Stopped (Err (OutsideRange (i + sound_sites edition years (site ∷ sites))))
    by true q later =
        let more = sound_first edition years site sites q in
        let index : i + 1 + sound_sites edition years sites ≡ i + sound_sites edition years (site ∷ sites) = omega arith in
        later (omega arith) ∙ ap (λ (k : ℕ). Stopped (Err (OutsideRange k))) index
    by false q later =
        let none = outside_first edition years site sites q in
        let index : i ≡ i + sound_sites edition years (site ∷ sites) = omega arith in
        walk_stopped edition years sites (Err (OutsideRange i)) ∙ ap (λ (k : ℕ). Stopped (Err (OutsideRange k))) index

-- nothing is written meanwhile
pub walk_measured_buffer : (edition years : ℕ) (sites : List Site) (i n : ℕ) (buffer : List ℕ)
    → walk_buffer edition years sites (Measured i n) buffer ≡ buffer
unfolding walk_buffer
walk_measured_buffer edition years [] i n buffer = refl
walk_measured_buffer edition years (site ∷ sites) i n buffer =
    by (sound edition years site) (walk_measured_buffer edition years sites (i + 1) (n + length (record_of edition site)) buffer)
  where
    by : (b : Bool) → walk_buffer edition years sites (measured_by edition true site i n) buffer ≡ buffer
        → walk_buffer edition years sites (measured_by edition b site i n) buffer ≡ buffer
    by true later = later
    by false later = walk_stopped_buffer edition years sites (Err (OutsideRange i)) buffer

-- their records are written, one behind the other
pub walk_placed : (edition years : ℕ) (sites : List Site) (at : ℕ)
    → walk_course edition years sites (Placed at) ≡ Placed (at + length (records_of edition sites))
unfolding walk_course records_of
walk_placed edition years [] at = rw (add-zero at)
walk_placed edition years (site ∷ sites) at =
    walk_placed edition years sites (at + length (record_of edition site)) ∙ ap Placed (omega (arith, records_length edition site sites))

pub walk_placed_buffer : (edition years : ℕ) (sites : List Site) (at : ℕ) (buffer : List ℕ)
    → walk_buffer edition years sites (Placed at) buffer ≡ sets buffer at (records_of edition sites)
unfolding walk_buffer records_of
walk_placed_buffer edition years [] at buffer = refl
walk_placed_buffer edition years (site ∷ sites) at buffer =
    walk_placed_buffer edition years sites (at + length (record_of edition site)) (sets buffer at (record_of edition site)) ∙ sets_more buffer at
    (record_of edition site) (records_of edition sites)

-- the buffer keeps its length
pub step_length : (edition : ℕ) (site : Site) (course : Course) (buffer : List ℕ) → length (step_buffer edition site course buffer) ≡ length buffer
step_length edition site (Measured i n) buffer = refl
step_length edition site (Placed at) buffer = length-sets buffer at (record_of edition site)
step_length edition site (Stopped answer) buffer = refl

-- A LOOP that has some sites left: they take it where the whole walk ends
pub record Walked (edition years : ℕ) (sites : List Site) (start : Course) (before : List ℕ) (left : List Site) (course : Course) (buffer : List ℕ) : Type 0 where
  pub course_is : walk_course edition years left course ≡ walk_course edition years sites start
  pub buffer_is : walk_buffer edition years left course buffer ≡ walk_buffer edition years sites start before
  pub walks : Walks edition years left course (length buffer)

pub walked_none : {edition years : ℕ} {sites : List Site} {start : Course} {before : List ℕ} → Walks edition years sites start (length before)
    → Walked edition years sites start before sites start before
walked_none w = record { course_is = refl; buffer_is = refl; walks = w }
