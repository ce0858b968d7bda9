-- A bit of the curve that stands tells of all, and past the last entry there is none.
use Rattle.std.proofs.Common.{ap, ◌∙◌, rules}
use Rattle.site.specs.declared.rules.Rule.{Rule}
use Rattle.site.specs.Record.{rest_of}
use Rattle.site.proofs.ReadSteps.{any_hit, any_miss, any_end}
use Rattle.site_reader.proofs.is_curved.Goals as goal

pub returns-then-curve_bit_stands : goal.returns-then-curve_bit_stands
returns-then-curve_bit_stands c =
    let stands = c.curve_bit_stands.ensures in
    any_hit _ _ _ _ _ _ _ (search rules) c.loop-entry.invariant _ _ c.loop-entry-test.true stands c.if-curve_bit_stands.true

pub loop-entry-preserved : goal.loop-entry-preserved
loop-entry-preserved c =
    let rest = c.rest_of-rest.ensures ∙ ap (λ (x : Rule). rest_of x c.loop-entry.rest) c.rule_of.ensures in
    let miss = any_miss _ _ _ _ _ _ _ (search rules) c.loop-entry.invariant _ _ _ c.loop-entry-test.true in
    miss c.curve_bit_stands.ensures c.if-curve_bit_stands.false rest

pub returns : goal.returns
returns c = any_end _ _ _ _ _ _ _ (search rules) c.loop-entry.invariant c.loop-entry-test.false
