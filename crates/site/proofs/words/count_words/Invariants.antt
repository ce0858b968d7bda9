-- The count so far and the words of the rules from here on are the whole.
use Rattle.std.specs.Prelude.{◌≡◌, ◌+◌, ◌≤◌, drop}
use Rattle.site.specs.Record.{words}
use Rattle.site.proofs.words.count_words.Given as goal

abbrev pub invariant-loop-rule : goal.invariant-loop-rule
invariant-loop-rule l = (l.count ≤ l.rule-index) × (l.count + words (drop l.rule-index l.fn.rules) l.rest ≡ words l.fn.rules l.fn.map)
