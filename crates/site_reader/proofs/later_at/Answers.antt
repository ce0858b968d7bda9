-- One more year is read; where i ends all are.
use Rattle.std.specs.Prelude.{◌≡◌, List, ℕ}
use Rattle.std.proofs.Common.{ap, ◌∙◌, arith, add-one}
use Rattle.site.specs.Rules.{later_years}
use Rattle.site.specs.Yearly.{later_from_slots}
use Rattle.site.specs.Record.{later_read}
use Rattle.site_reader.proofs.LaterSteps.{number_at_lem, read_start, read_more}
use Rattle.site_reader.proofs.later_at.Goals as goal

same : {i later : ℕ} (s : List ℕ) → i ≡ later → later_read later_years i s ≡ later_read later_years later s
same s e = rw e

pub loop-i-init : goal.loop-i-init
loop-i-init c = read_start _

pub loop-i-preserved : goal.loop-i-preserved
loop-i-preserved c =
    let value = c.word_at.ensures ∙ number_at_lem c.args.s.now c.args.at c.loop-i.i in
    rw (c.loop-i.invariant, value, add-one) (read_more later_years c.loop-i.i _ (omega (arith, c.requires.0)))

pub returns : goal.returns
returns c =
    let e : c.loop-i.i ≡ c.args.later = omega arith in
    c.later_of.ensures ∙ ap later_from_slots (c.loop-i.invariant ∙ same _ e)
