-- Each test that fails is told by its own answer; where all hold, the line is made and it stands.
use mathlib.Core.Path.{sym, ◌∙◌}
use Rattle.header.proofs.HeaderLaws.{limits_of}
use Rattle.model.specs.Coefficients.{coefficients_of}
use Rattle.line.proofs.LineLaws.{edition_line}
use Rattle.line.specs.AnswerLaws.{edition_unknown, header_outside, site_outside, all_inside}
use Rattle.line.proofs.line_of.Goals as goal

pub returns-then-not-is_edition_known : goal.returns-then-not-is_edition_known
returns-then-not-is_edition_known c =
    let header = c.args.header in
    let told = edition_unknown (coefficients_of header.edition) header c.args.site (sym c.is_edition_known.ensures ∙ c.if-not-is_edition_known.true) in
    record { value = told.0; number = told.1.0; stands = told.1.1 }

pub returns-then-not-is_in_limits : goal.returns-then-not-is_in_limits
returns-then-not-is_in_limits c =
    let header = c.args.header in
    let edition = sym c.is_edition_known.ensures ∙ c.if-not-is_edition_known.false in
    let told = header_outside (coefficients_of header.edition) header c.args.site edition (sym c.is_in_limits.ensures ∙ c.if-not-is_in_limits.true) in
    record { value = told.0; number = told.1.0; stands = told.1.1 }

pub returns-then-not-is_sound : goal.returns-then-not-is_sound
returns-then-not-is_sound c =
    let header = c.args.header in
    let known = sym c.is_edition_known.ensures ∙ c.if-not-is_edition_known.false in
    let limits = sym c.is_in_limits.ensures ∙ c.if-not-is_in_limits.false in
    let told = site_outside (coefficients_of header.edition) header c.args.site known limits (sym c.is_sound.ensures ∙ c.if-not-is_sound.true) in
    record { value = told.0; number = told.1.0; stands = told.1.1 }

pub line_with-requires : goal.line_with-requires
line_with-requires c = (
  limits_of _ (sym c.is_in_limits.ensures ∙ c.if-not-is_in_limits.false),
  record { is_sound = sym c.is_sound.ensures ∙ c.if-not-is_sound.false },
)

pub returns : goal.returns
returns c =
    let header = c.args.header in
    let known = sym c.is_edition_known.ensures ∙ c.if-not-is_edition_known.false in
    let within = sym c.is_in_limits.ensures ∙ c.if-not-is_in_limits.false in
    let valid = sym c.is_sound.ensures ∙ c.if-not-is_sound.false in
    let stands = edition_line header.edition header (limits_of _ within) c.args.site (record { is_sound = valid }) in
    let told = all_inside (coefficients_of header.edition) header c.args.site known within valid stands in
    rw c.line_with.ensures (record { value = told.0; number = told.1.0; stands = told.1.1 })
