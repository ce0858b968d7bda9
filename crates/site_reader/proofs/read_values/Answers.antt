-- A field at its place among the later values is that of the fields without them; the fields are read one by one.
use Rattle.std.specs.Prelude.{◌≡◌, refl, ◌*◌, length, get_or}
use Rattle.std.proofs.Common.{◌∙◌, arith, sym, rules}
use Rattle.std.proofs.lemmas.Result.{err_from_is_err_and}
use Rattle.std.proofs.Math.ListN.{length-set}
use Rattle.site.specs.Rules.{slot_count}
use Rattle.site.specs.declared.rules.Rule.TheVariants.{Foreign}
use Rattle.site.proofs.ReadSteps.{words_step, words_turn, words_done, number_hit, number_miss, number_end, values_start, values_more, values_end}
use Rattle.site_reader.proofs.AnswerSteps.{told_value, told_refusal, passed_on}
use Rattle.site_reader.proofs.LaterSteps.{number_there, value_there, bytes_more}
use Rattle.site_reader.proofs.read_values.Goals as goal

pub loop-i-init : goal.loop-i-init
loop-i-init c = (omega arith, omega arith, refl, refl, values_start _ _ _ _ (search rules) refl)

-- there is room for the next field
pub read_field-requires : goal.read_field-requires
read_field-requires c =
    let step = words_step c.args.rules c.loop-i.i c.loop-i.rest (search rules) Foreign c.loop-i-test.true in
    omega (arith, c.place_of-place.ensures.1, c.loop-i.invariant.1, c.requires.minor_in_bounds.1)

pub returns-in_err-slots : goal.returns-in_err-slots
returns-in_err-slots c =
    let loop = c.loop-i in
    let a = c.args in
    let refused = told_refusal _ _ (sym c.read_field.ensures ∙ c.in_err-slots.was) in
    let number = number_there a.later a.minor a.s.now c.requires.minor_in_bounds.0 loop.count _ c.place_of-place.ensures.0 (get_or a.rules loop.i Foreign) loop.rest in
    let hit = number_hit _ _ _ (search rules) _ (2 * loop.count) _ loop.invariant.2 Foreign _ c.loop-i-test.true number refused.0 in
    let p = err_from_is_err_and c.from_residual.result c.from_residual.ensures.1 in
    rw (p.1, p.2) (passed_on _ _ _ _ (sym c.read_field.ensures ∙ c.in_err-slots.was) (sym hit))

pub loop-i-preserved : goal.loop-i-preserved
loop-i-preserved c =
    let count = c.field_words.ensures.0 in
    let rest = c.rest_of-rest.ensures in
    let loop = c.loop-i in
    let a = c.args in
    let long : length c.args.rules ≡ slot_count = search rules in
    let more = c.loop-i-test.true in
    let at = c.place_of-place.ensures.0 in
    let answered = told_value _ _ (sym c.read_field.ensures ∙ c.in_ok-slots.was) in
    let told = number_there a.later a.minor a.s.now c.requires.minor_in_bounds.0 loop.count _ at (get_or a.rules loop.i Foreign) loop.rest in
    let held = sym answered.1 ∙ value_there a.later a.minor a.s.now c.requires.minor_in_bounds.0 loop.count _ at (get_or a.rules loop.i Foreign) loop.rest in
    let further = bytes_more loop.count c.field_words.result in (
      omega (arith, c.field_words.ensures.1),
      words_turn _ _ _ long _ _ _ loop.count _ more count rest loop.invariant.1,
      rw (← further) (number_miss _ _ _ long _ (2 * loop.count) _ loop.invariant.2 _ _ _ _ more told answered.0 count rest),
      simp length-set loop.invariant.3,
      rw (← further) (values_more _ _ _ long _ (2 * loop.count) _ _ loop.invariant.4 _ _ _ _ more held count rest),
    )

pub returns : goal.returns
returns c =
    let loop = c.loop-i in
    let long : length c.args.rules ≡ slot_count = search rules in
    let done = c.loop-i-test.false in
    simp (
      ← words_done _ _ _ long loop.count _ done loop.invariant.1,
      ← number_end _ _ _ long _ (2 * loop.count) _ loop.invariant.2 done,
      ← values_end _ _ _ long _ (2 * loop.count) _ _ loop.invariant.4 done,
      ← c.from.ensures,
      ← c.site_of.ensures,
    )
