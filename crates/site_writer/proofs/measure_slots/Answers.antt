use Rattle.std.specs.Prelude.{Some}
use Rattle.std.proofs.Common.{ap, sym, ◌∙◌, refl, length, length-append, arith}
use Rattle.std.proofs.lemmas.Iterator.{empty_from_Zip}
use Rattle.site.specs.Writing.{all_fit, bytes_of}
use Rattle.site_writer.proofs.WriteSteps.{fit_next, bytes_next}
use Rattle.site_writer.proofs.measure_slots.Goals as goal

pub returns-then-not-does_fit : goal.returns-then-not-does_fit
returns-then-not-does_fit c =
    let now = c.in-Some.ensures.steps in
    let outside = sym c.does_fit.ensures ∙ c.if-not-does_fit.true in
    let all = rw outside at (sym (fit_next now.0 now.1) ∙ c.loop-rule.invariant.2) in
    rw (← all) refl

pub loop-rule-preserved : goal.loop-rule-preserved
loop-rule-preserved c =
    let now = c.in-Some.ensures.steps in
    let fit = sym c.does_fit.ensures ∙ c.if-not-does_fit.false in
    let long = simp length-append at (ap length (bytes_next now.0 now.1)) in (
      omega (arith, ap length now.0, ap length now.1, c.loop-rule.invariant.0),
      omega (arith, ap length now.0, c.loop-rule.invariant.1, c.field_length-n.ensures.1),
      rw fit at (sym (fit_next now.0 now.1) ∙ c.loop-rule.invariant.2),
      omega (arith, long, c.loop-rule.invariant.3, c.field_length-n.ensures.0),
    )

pub returns : goal.returns
unfolding all_fit bytes_of
returns c =
    let spent = empty_from_Zip _ c.next.new.self _ c.in-None.is c.next.ensures.steps c.loop-rule.invariant.0 in
    let all = rw spent.0 at c.loop-rule.invariant.2 in
    rw (← all) (ap Some (omega (arith, rw spent.0 at c.loop-rule.invariant.3)))
