-- The edition, the limits, then the whole course.
use mathlib.Core.Path.{sym, ◌∙◌}
use Rattle.header.specs.Header.{header_of}
use Rattle.project_writer.proofs.WholeCourse.{edition_refused, limits_refused, measuring, beginning, writing, whole_course}
use Rattle.project_writer.proofs.write_project.Goals as goal

pub returns-then-not-is_edition_known : goal.returns-then-not-is_edition_known
returns-then-not-is_edition_known c = edition_refused _ _ _ (sym c.is_edition_known.ensures ∙ c.if-not-is_edition_known.true)

pub returns-then-not-does_admit : goal.returns-then-not-does_admit
returns-then-not-does_admit c = limits_refused _ _ _ (sym c.is_edition_known.ensures ∙ c.if-not-is_edition_known.false) (sym c.does_admit.ensures ∙ c.if-not-does_admit.true)

pub walk-measured-requires : goal.walk-measured-requires
walk-measured-requires c =
    let args = c.args in
    measuring (header_of args.edition args.years args.segments args.crossings) args.sites.now args.buffer.now (sym c.is_edition_known.ensures ∙ c.if-not-is_edition_known.false) (sym c.does_admit.ensures ∙ c.if-not-does_admit.false)

pub begin_writing-begun-requires : goal.begin_writing-begun-requires
begin_writing-begun-requires c = beginning _ _ _ (sym c.is_edition_known.ensures ∙ c.if-not-is_edition_known.false) (sym c.does_admit.ensures ∙ c.if-not-does_admit.false) _ _ c.walk-measured.ensures

pub walk-requires : goal.walk-requires
walk-requires c = writing _ _ _ (sym c.is_edition_known.ensures ∙ c.if-not-is_edition_known.false) (sym c.does_admit.ensures ∙ c.if-not-does_admit.false) _ _ c.walk-measured.ensures _ _ c.begin_writing-begun.ensures

pub returns : goal.returns
returns c =
    whole_course _ _ _ (sym c.is_edition_known.ensures ∙ c.if-not-is_edition_known.false) (sym c.does_admit.ensures ∙ c.if-not-does_admit.false) _ _ c.walk-measured.ensures _ _ c.begin_writing-begun.ensures _ _ _ c.walk.ensures c.answer_of.ensures
