-- A bit that the kind lacks tells of all; past the last rule no field is left, and what is left of the map tells.
use Rattle.std.specs.Prelude.{◌||◌}
use Rattle.std.proofs.Common.{◌∙◌, sym, arith, ap, rules}
use borrow.Author.Tests.{lt-ltb, le-ltb}
use Rattle.site.proofs.ReadSteps.{any_hit, any_miss, any_end, kept_more, kept_end}
use Rattle.site_reader.proofs.check_map.Goals as goal

pub returns-then-lacked_bit_stands : goal.returns-then-lacked_bit_stands
returns-then-lacked_bit_stands c =
    let hit = any_hit _ _ _ _ _ _ _ (search rules) c.loop-rule.invariant.0 _ _ c.loop-rule-test.true c.lacked_bit_stands.ensures c.if-lacked_bit_stands.true in
    rw (← hit)

pub loop-rule-preserved : goal.loop-rule-preserved
loop-rule-preserved c =
    let more = c.loop-rule-test.true in
    let inv = c.loop-rule.invariant in (
      any_miss _ _ _ _ _ _ _ (search rules) inv.0 _ _ _ more c.lacked_bit_stands.ensures c.if-lacked_bit_stands.false c.rest_of-rest.ensures,
      kept_more _ _ _ _ _ (search rules) _ inv.1 _ _ _ more (ap (λ b. c.loop-rule.missing || b) c.needed_bit_absent-missing.ensures) c.rest_of-rest.ensures,
    )

pub returns-then-rest-gt0 : goal.returns-then-rest-gt0
returns-then-rest-gt0 c =
    let whole = any_end _ _ _ _ _ _ _ (search rules) c.loop-rule.invariant.0 c.loop-rule-test.false in
    rw (sym whole ∙ lt-ltb 0 c.loop-rule.rest (omega arith))

-- nothing is left of the map, and the bits before the end tell
pub returns-then-missing : goal.returns-then-missing
returns-then-missing c =
    let inv = c.loop-rule.invariant in
    let whole = any_end _ _ _ _ _ _ _ (search rules) inv.0 c.loop-rule-test.false in
    let none = le-ltb 0 c.loop-rule.rest (omega arith) in
    let missing = kept_end _ _ _ _ _ (search rules) _ inv.1 c.loop-rule-test.false in
    rw (sym whole ∙ none, sym missing ∙ c.if-missing.true)

pub returns : goal.returns
returns c =
    let inv = c.loop-rule.invariant in
    let whole = any_end _ _ _ _ _ _ _ (search rules) inv.0 c.loop-rule-test.false in
    let none = le-ltb 0 c.loop-rule.rest (omega arith) in
    let missing = kept_end _ _ _ _ _ (search rules) _ inv.1 c.loop-rule-test.false in
    rw (sym whole ∙ none, sym missing ∙ c.if-missing.false)
