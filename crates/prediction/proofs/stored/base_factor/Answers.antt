use mathlib.Core.Path.{◌∙◌}
use native.Mathlib.Omega.{arith}
use Rattle.exponential.specs.StoredBracketLaws.{entry_is}
use Rattle.prediction.proofs.stored.base_factor.Goals as goal

pub returns : goal.returns
returns c = c.stored_bracket.ensures ∙ entry_is c.stored_bases-ends.ensures c.args.kind (omega arith)
