-- The edition, the limits, then the whole course.
use mathlib.Core.Path.{◌≡◌, sym, ◌∙◌}
use mathlib.Core.Bool.{true}
use lib.ListN.{length}
use Rattle.site.specs.Rules.{edition_known}
use Rattle.header.specs.Header.{admits}
use Rattle.project_writer.proofs.WholeCourse.{edition_refused, limits_refused, measuring, beginning, writing, whole_course}
use Rattle.unit.specs.FileNumbers.{sites_given}
use Rattle.unit.specs.Given.{given_count}
use Rattle.unit.proofs.writing.write_numbers.Goals as goal

-- the count is that of the sites, and the header admits it
pub returns-then-not-is_edition_known : goal.returns-then-not-is_edition_known
returns-then-not-is_edition_known c = edition_refused _ _ _ (sym c.is_edition_known.ensures ∙ c.if-not-is_edition_known.true)

pub returns-then-not-does_admit : goal.returns-then-not-does_admit
returns-then-not-does_admit c =
    let count = c.count_sites-sites.ensures ∙ sym (given_count _) in
    limits_refused _ _ _ (sym c.is_edition_known.ensures ∙ c.if-not-is_edition_known.false) (sym (rw count at c.does_admit.ensures) ∙ c.if-not-does_admit.true)

pub walk_numbers-measured-requires : goal.walk_numbers-measured-requires
walk_numbers-measured-requires c =
    let count = c.count_sites-sites.ensures ∙ sym (given_count _) in
    measuring c.args.header (sites_given c.args.numbers.now) c.args.buffer.now (sym c.is_edition_known.ensures ∙ c.if-not-is_edition_known.false) (sym (rw count at c.does_admit.ensures) ∙ c.if-not-does_admit.false)

pub begin_writing-begun-requires : goal.begin_writing-begun-requires
begin_writing-begun-requires c =
    let count = c.count_sites-sites.ensures ∙ sym (given_count _) in
    rw count (beginning _ _ _ (sym c.is_edition_known.ensures ∙ c.if-not-is_edition_known.false) (sym (rw count at c.does_admit.ensures) ∙ c.if-not-does_admit.false) _ _ (c.walk_numbers-measured.ensures.value, c.walk_numbers-measured.ensures.buffer_after))

pub walk_numbers-requires : goal.walk_numbers-requires
walk_numbers-requires c =
    let count = c.count_sites-sites.ensures ∙ sym (given_count _) in
    writing _ _ _ (sym c.is_edition_known.ensures ∙ c.if-not-is_edition_known.false) (sym (rw count at c.does_admit.ensures) ∙ c.if-not-does_admit.false) _ _ (c.walk_numbers-measured.ensures.value, c.walk_numbers-measured.ensures.buffer_after) _ _ (rw count at c.begin_writing-begun.ensures)

pub returns : goal.returns
returns c =
    let count = c.count_sites-sites.ensures ∙ sym (given_count _) in
    whole_course _ _ _ (sym c.is_edition_known.ensures ∙ c.if-not-is_edition_known.false) (sym (rw count at c.does_admit.ensures) ∙ c.if-not-does_admit.false) _ _ (c.walk_numbers-measured.ensures.value, c.walk_numbers-measured.ensures.buffer_after) _ _ (rw count at c.begin_writing-begun.ensures) _ _ _ (c.walk_numbers.ensures.value, c.walk_numbers.ensures.buffer_after)
    c.answer_of.ensures
