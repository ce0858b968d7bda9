-- The next rule's words are counted; past the last there is none.
use Rattle.std.proofs.Common.{arith, rules}
use Rattle.site.proofs.ReadSteps.{words_turn, words_done}
use Rattle.site.proofs.words.count_words.Goals as goal

pub loop-rule-preserved : goal.loop-rule-preserved
loop-rule-preserved c =
    let count = c.field_words-count.ensures.0 in
    (omega arith, words_turn _ _ _ (search rules) _ _ _ _ _ c.loop-rule-test.true count c.rest_of-rest.ensures c.loop-rule.invariant.1)

pub returns : goal.returns
returns c = (words_done _ _ _ (search rules) _ _ c.loop-rule-test.false c.loop-rule.invariant.1, omega arith)
