-- A site is measured where it is valid, and put into the part of the buffer from the place reached.
use native.Mathlib.Omega.{arith}
use mathlib.Core.Path.{◌≡◌, refl, sym, ◌∙◌}
use mathlib.Core.List.{[]}
use lib.ListN.{length, length-drop}
use Rattle.laws.specs.Walk.{part_from}
use Rattle.laws.specs.Stores.{part_stored}
use Rattle.site.specs.Writing.{record_of, Valid}
use Rattle.site.specs.Theorems.{measured_outside}
use Rattle.site.proofs.Theorems.{record_length, measured_length}
use Rattle.project_writer.proofs.Walks.{walks_valid}
use Rattle.project_writer.proofs.course.step.Goals.{In-Some}
use Rattle.project_writer.proofs.course.step.Goals as goal

-- what a length that is measured tells of the site
measured : (c : In-Some) → Valid c.args.edition c.args.years c.args.site × (c.in-Some.more ≡ length (record_of c.args.edition c.args.site))
measured c = measured_length _ _ _ _ (sym c.measure_site-measure.ensures.answer_is ∙ c.in-Some.is)

pub overflow_add-result : goal.overflow_add-result
overflow_add-result c = omega (arith, rw c.in-Measured.is at c.requires)

pub overflow_add-result-in-Some : goal.overflow_add-result-in-Some
overflow_add-result-in-Some c =
    let m = measured c in
    omega (arith, rw c.in-Measured.is at c.requires, (record_length _ _ _ m.0).at_most)

pub put_record-n-requires : goal.put_record-n-requires
put_record-n-requires c =
    let p = walks_valid _ _ _ [] _ _ (rw c.in-Placed.is at c.requires) in
    (p.0, simp (part_from, length-drop) (omega arith))

pub overflow_add-result-in-Placed : goal.overflow_add-result-in-Placed
overflow_add-result-in-Placed c =
    let p = walks_valid _ _ _ [] _ _ (rw c.in-Placed.is at c.requires) in
    omega (arith, p, c.put_record-n.ensures)

pub returns-in-None : goal.returns-in-None
returns-in-None c =
    let outside = measured_outside _ _ _ (sym c.measure_site-measure.ensures.answer_is ∙ c.in-None.is) in
    rw (c.in-Measured.is, outside) (refl, refl)

pub returns-in-Some : goal.returns-in-Some
returns-in-Some c =
    let m = measured c in
    rw (c.in-Measured.is, m.0.is_sound, m.1) (refl, refl)

pub returns-in-Placed : goal.returns-in-Placed
returns-in-Placed c =
    let a = c.args in
    let p = walks_valid _ _ _ [] _ _ (rw c.in-Placed.is at c.requires) in
    rw (c.in-Placed.is, c.put_record-n.ensures.0)
    (refl, part_stored _ _ _ (record_of a.edition a.site) p.1 c.put_record-n.ensures.1)
