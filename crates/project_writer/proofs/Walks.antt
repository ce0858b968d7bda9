-- Laws of Walks in specs/.
use Rattle.std.specs.Prelude.{Ok}
use Rattle.std.specs.Prelude.{Result}
use Rattle.site.specs.declared.refusal.Refusal.{Refusal}
use Rattle.std.specs.Prelude.{◌≡◌, refl, Bool, true, false, List, [], ◌∷◌, ◌++◌, ℕ, ◌+◌, ◌≤◌, length, take, drop}
use Rattle.std.proofs.Common.{◌∙◌, append-nil, append_assoc, zero-add, length-drop, drop-drop}
use native.Mathlib.Omega.{arith}
use Rattle.std.proofs.lemmas.List.Edits.{sets-eq}
use Rattle.site.specs.declared.values.Site.{Site}
use Rattle.site.specs.Writing.{record_of, sound, Valid}
use Rattle.site.proofs.Theorems.{record_length}
use Rattle.site.proofs.Written.{length_answered, record_written}
use Rattle.site.specs.Promises.{WritesSite}
use Rattle.project_writer.specs.declared.course.Course.{Course}
use Rattle.project_writer.specs.declared.course.Course.TheVariants.{Measured, Placed, Stopped}
use Rattle.project_writer.specs.ProjectFile.{records_of, sound_sites}
use Rattle.project_writer.specs.Course.{step_course, step_buffer, walk_course, walk_buffer, Walks}
use Rattle.project_writer.specs.Sound.{all_sound}
use Rattle.project_writer.specs.Walks.{Walked, measured_by, records_length, step_length}

-- WHAT IT NEEDS, where a site is written: that it is valid, and space for its record
module _ (edition years : ℕ) (site : Site) (sites : List Site) where
  pub walks_valid : (at room : ℕ) → Walks edition years (site ∷ sites) (Placed at) room
      → Valid edition years site × (at + length (record_of edition site) ≤ room)
  walks_valid at room w = ((all_sound edition years site sites w.0).0, omega (arith, records_length edition site sites))

  -- what its step needs, and the walk from there
  pub walks_first : (course : Course) (room : ℕ) → Walks edition years (site ∷ sites) course room → Walks edition years (site ∷ []) course room
  unfolding records_of sound_sites
  walks_first (Measured i n) room w = (omega arith, w.1)
  walks_first (Placed at) room w = let p = walks_valid at room w in (rw p.0.is_sound, rw (append-nil (record_of edition site)) p.1)
  walks_first (Stopped answer) room w = w

  pub walks_rest : (course : Course) (room : ℕ) → Walks edition years (site ∷ sites) course room
      → Walks edition years sites (step_course edition years site course) room
  walks_rest (Measured i n) room w = by (sound edition years site) refl
    where
      by : (b : Bool) → sound edition years site ≡ b → Walks edition years sites (measured_by edition b site i n) room
      by true q = (omega arith, omega (arith, (record_length edition years site (record { is_sound = q })).at_most))
      by false q = tt
  walks_rest (Placed at) room w = ((all_sound edition years site sites w.0).1, omega (arith, records_length edition site sites))
  walks_rest (Stopped answer) room w = w

-- AS THE SITE WRITER: where a site is written, the step leaves what `write_site` would, called for the part of the buffer from the
-- place reached, and goes on by the length that it would answer
pub as_site_writer : (edition years : ℕ) (site : Site) (at : ℕ) (buffer afterwards : List ℕ) (answer : Result ℕ Refusal)
    → Walks edition years (site ∷ []) (Placed at) (length buffer) → WritesSite edition years site (drop at buffer) afterwards answer
    → (answer ≡ Ok (length (record_of edition site))) × (step_buffer edition site (Placed at) buffer ≡ take at buffer ++ afterwards)
as_site_writer edition years site at buffer afterwards answer w s =
    let p = walks_valid edition years site [] at (length buffer) w in
    let fits : length (record_of edition site) ≤ length (drop at buffer) = omega (arith, p.1, length-drop at buffer) in (
      s.answer_is ∙ length_answered (drop at buffer) p.0 fits,
      rw (
        s.buffer_is,
        record_written (drop at buffer) p.0 fits,
        sets-eq (record_of edition site) buffer at p.1,
        sets-eq (record_of edition site) (drop at buffer) 0 (omega arith),
        drop-drop,
        zero-add,
        append_assoc,
      ) refl,
    )

module _ {edition years : ℕ} {sites : List Site} {start : Course} {before : List ℕ} {left : List Site} {course : Course} {buffer : List ℕ}
    (w : Walked edition years sites start before left course buffer) where
  module _ {site : Site} {later : List Site} (next : left ≡ site ∷ later) where
    pub walked_needs : Walks edition years (site ∷ []) course (length buffer)
    walked_needs = walks_first edition years site later course (length buffer) (rw next at w.walks)

    pub walked_more : (course' : Course) (buffer' : List ℕ)
        → (course' ≡ step_course edition years site course) × (buffer' ≡ step_buffer edition site course buffer)
        → Walked edition years sites start before later course' buffer'
    unfolding walk_course walk_buffer
    walked_more course' buffer' step =
        record {
          course_is = rw step.0 (rw next at w.course_is);
          buffer_is = rw (step.0, step.1) (rw next at w.buffer_is);
          walks =
              rw (step.0, step.1, step_length edition site course buffer)
              (walks_rest edition years site later course (length buffer) (rw next at w.walks));
        }

  pub walked_all : left ≡ [] → (course ≡ walk_course edition years sites start) × (buffer ≡ walk_buffer edition years sites start before)
  unfolding walk_course walk_buffer
  walked_all none = (rw none at w.course_is, rw none at w.buffer_is)
