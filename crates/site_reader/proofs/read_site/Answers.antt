-- Edition and years are within their limits, kind and map are there, then the fields are read by their rules.
use borrow.Author.Tests.{lt-ltb, le-ltb}
use mathlib.Core.Path.{ap, sym, ◌∙◌}
use Rattle.std.proofs.lemmas.Result.{err_from_is_err_and}
use Rattle.site.specs.Kinds.{kind_known}
use Rattle.site.specs.Record.{yearly_bit, field_map, refusal_of, read_site}
use Rattle.site.proofs.Project.{project_known, project_refused}
use Rattle.site.proofs.Promises.{reads_site}
use Rattle.site_reader.proofs.read_site.Goals as goal

-- edition and years are tried in one call;
-- what it refuses is what the record is refused for,
-- and below it both are known
pub returns-in_err-check_project : goal.returns-in_err-check_project
unfolding read_site refusal_of
returns-in_err-check_project c =
    let p = err_from_is_err_and c.from_residual.result c.from_residual.ensures.1 in
    reads_site _ _ _ _ (rw (p.1, p.2) (project_refused _ _ _ _ (sym c.check_project.ensures ∙ c.in_err-check_project.was)))

pub returns-then-part-lt3 : goal.returns-then-part-lt3
unfolding read_site refusal_of
returns-then-part-lt3 c =
    let known = project_known _ _ (sym c.check_project.ensures ∙ c.in_ok-check_project.was) in
    reads_site _ _ _ _
    (simp (known.0, known.1, lt-ltb _ _ c.if-part-lt3.true))

pub returns-in_err-kind : goal.returns-in_err-kind
unfolding read_site refusal_of
returns-in_err-kind c =
    let known = project_known _ _ (sym c.check_project.ensures ∙ c.in_ok-check_project.was) in
    let p = err_from_is_err_and c.from_residual-in_err-kind.result c.from_residual-in_err-kind.ensures.1 in
    let unknown = c.in_err-kind.ensures in
    reads_site _ _ _ _
    (rw (p.1, p.2, unknown.0) (simp (
      known.0,
      known.1,
      le-ltb _ _ c.if-part-lt3.false,
      lt-ltb _ _ unknown.1,
    )))

pub read_record-requires : goal.read_record-requires
read_record-requires c =
    let known = project_known _ _ (sym c.check_project.ensures ∙ c.in_ok-check_project.was) in (
      known.1,
      c.yearly_bit.ensures.1,
      record {
        kind_is = sym (c.in_ok-kind.ensures);
        map_is = sym (c.field_map.ensures ∙ ap field_map c.word_at-whole.ensures);
        bit_is = sym (c.yearly_bit.ensures.0 ∙ ap yearly_bit c.word_at-whole.ensures);
      },
    )

pub returns : goal.returns
unfolding read_site refusal_of
returns c =
    let known = project_known _ _ (sym c.check_project.ensures ∙ c.in_ok-check_project.was) in
    reads_site _ _ _ _
    (simp (
      known.0,
      known.1,
      le-ltb _ _ c.if-part-lt3.false,
      le-ltb _ _ (rw c.in_ok-kind.ensures at (kind_known c.in_ok-kind.kind)),
    )
    c.read_record.ensures)
