-- The edition tells 3, the years 4, the measure 8, the space 10, and else the record is put.
use Rattle.std.specs.Prelude.{None, Some}
use Rattle.std.proofs.Common.{◌≡◌, arith, sym, ◌∙◌}
use Rattle.std.proofs.lemmas.Result.{err_from_is_err_and}
use Rattle.site.specs.declared.refusal.Refusal.TheVariants.{OutsideRange}
use Rattle.site.proofs.Project.{project_known}
use Rattle.site.proofs.Theorems.{measured_length}
use Rattle.site.specs.Theorems.{measured_outside}
use Rattle.site_writer.proofs.WriteWhole.{project_told, outside, room_refused, all_written}
use Rattle.site_writer.proofs.write_site.Goals as goal

-- edition and years are tried in one call,
-- which tells the first of the two that is wrong
pub returns-in_err-check_project : goal.returns-in_err-check_project
returns-in_err-check_project c =
    let p = err_from_is_err_and c.from_residual.result c.from_residual.ensures.1 in
    rw (p.1, p.2) (project_told _ _ _ _ (sym c.check_project.ensures ∙ c.in_err-check_project.was))

pub returns-in_err-n : goal.returns-in_err-n
returns-in_err-n c =
    let none : c.measure_site.result ≡ None = grind arith in
    let p = err_from_is_err_and c.from_residual-in_err-n.result c.from_residual-in_err-n.ensures.1 in
    let refused : c.in_err-n.field-0.0 ≡ OutsideRange = grind arith in
    let known = project_known _ _ (sym c.check_project.ensures ∙ c.in_ok-check_project.was) in
    rw (p.1, p.2, refused)
    (outside _ _ _ _ known.0 known.1 (measured_outside _ _ _ (sym c.measure_site.ensures.answer_is ∙ none)))

pub returns-then-buffer-n : goal.returns-then-buffer-n
returns-then-buffer-n c =
    let some : c.measure_site.result ≡ Some c.in_ok-n.n = grind arith in
    let m = measured_length _ _ _ _ (sym c.measure_site.ensures.answer_is ∙ some) in
    room_refused _ _ _ _ m.0 (omega (arith, m.1))

pub put_record-requires : goal.put_record-requires
put_record-requires c =
    let some : c.measure_site.result ≡ Some c.in_ok-n.n = grind arith in
    let m = measured_length _ _ _ _ (sym c.measure_site.ensures.answer_is ∙ some) in
    (m.0, omega (arith, m.1))

pub returns : goal.returns
returns c =
    let some : c.measure_site.result ≡ Some c.in_ok-n.n = grind arith in
    let m = measured_length _ _ _ _ (sym c.measure_site.ensures.answer_is ∙ some) in
    rw (c.put_record.ensures.0, c.put_record.ensures.1) (all_written _ _ _ _ m.0 (omega (arith, m.1)))
