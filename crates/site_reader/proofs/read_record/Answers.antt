-- Each test is one of the definition's, in its order.
use Rattle.std.proofs.Common.{sym, ◌∙◌, arith}
use Rattle.std.specs.Prelude.{refl}
use Rattle.std.proofs.lemmas.Result.{err_from_is_err_and}
use Rattle.site.specs.Kinds.{kind_known}
use Rattle.site_reader.proofs.AnswerSteps.{told_value, told_refusal, passed_on}
use borrow.Author.Tests.{lt-ltb, le-ltb}
use Rattle.site_reader.proofs.RecordSteps.{rules_are, map_tells, one_year_tells, space_tells, two_words, length_told, present_told}
use Rattle.site_reader.proofs.read_record.Goals as goal

pub returns-in_err-check_map : goal.returns-in_err-check_map
returns-in_err-check_map c =
    let a = c.args in
    let parts = c.requires.2 in
    let refused = told_refusal _ _ (sym c.check_map.ensures ∙ c.in_err-check_map.was) in
    let told = map_tells a.edition a.years a.part.now _ _ _ _ parts (rules_are a.edition parts c.rules_read-rules.ensures) _ refl refused.0 in
    let p = err_from_is_err_and c.from_residual.result c.from_residual.ensures.1 in
    rw (p.1, p.2) (passed_on _ _ _ _ (sym c.check_map.ensures ∙ c.in_err-check_map.was) told)

pub returns-then-is_yearly_in_one : goal.returns-then-is_yearly_in_one
returns-then-is_yearly_in_one c =
    let a = c.args in
    let parts = c.requires.2 in
    let right = told_value _ _ (sym c.check_map.ensures ∙ c.in_ok-check_map.was) in
    let one = sym c.is_yearly_in_one.ensures ∙ c.if-is_yearly_in_one.true in
    simp (one_year_tells a.edition a.years a.part.now _ _ _ _ parts (rules_are a.edition parts c.rules_read-rules.ensures) _ refl right.0 one)

pub returns-then-part-count_words : goal.returns-then-part-count_words
returns-then-part-count_words c =
    let a = c.args in
    let parts = c.requires.2 in
    let right = told_value _ _ (sym c.check_map.ensures ∙ c.in_ok-check_map.was) in
    let are = rules_are a.edition parts c.rules_read-rules.ensures in
    let several = sym c.is_yearly_in_one.ensures ∙ c.if-is_yearly_in_one.false in
    let told = space_tells a.edition a.years a.part.now _ _ _ _ parts are _ refl right.0 several in
    let long = length_told a.edition a.years a.part.now _ _ _ _ parts are in
    let short = rw (c.count_words.ensures.0, c.minor_later-minor.ensures.0, c.later_in-later.ensures.0, c.from.ensures, ← long) at c.if-part-count_words.true in
    simp (told, lt-ltb _ _ short)

pub read_present-requires-clause-later_in_bounds : goal.read_present-requires-clause-later_in_bounds
read_present-requires-clause-later_in_bounds c =
    let a = c.args in
    let parts = c.requires.2 in
    let right = told_value _ _ (sym c.check_map.ensures ∙ c.in_ok-check_map.was) in
    let two = two_words a.edition a.years a.part.now _ _ _ _ parts (rules_are a.edition parts c.rules_read-rules.ensures) _ refl (kind_known a.kind) right.0 in
    let minor = rw c.from.ensures at c.minor_later-minor.ensures.0 in
    let left = c.if-part-count_words.false in
    (omega (arith, minor, c.count_words.ensures.0, two, left), omega (arith, minor, c.count_words.ensures.0, left))

pub returns : goal.returns
returns c =
    let a = c.args in
    let parts = c.requires.2 in
    let right = told_value _ _ (sym c.check_map.ensures ∙ c.in_ok-check_map.was) in
    let are = rules_are a.edition parts c.rules_read-rules.ensures in
    let several = sym c.is_yearly_in_one.ensures ∙ c.if-is_yearly_in_one.false in
    let told = space_tells a.edition a.years a.part.now _ _ _ _ parts are _ refl right.0 several in
    let long = length_told a.edition a.years a.part.now _ _ _ _ parts are in
    let enough = rw (c.count_words.ensures.0, c.minor_later-minor.ensures.0, c.later_in-later.ensures.0, c.from.ensures, ← long) at c.if-part-count_words.false in
    let present = present_told a.edition a.years a.part.now _ _ _ _ parts are in
    simp (told, le-ltb _ _ enough)
    (c.read_present.ensures ∙ rw c.later_in-later.ensures.0 present)
