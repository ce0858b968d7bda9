use native.Mathlib.Nat.{mod_def}
use Rattle.remainder.specs.Split.{first_factor, second_factor, split_rest}
use Rattle.remainder.proofs.split.Goals as goal

pub returns-clause-value : goal.returns-clause-value
unfolding first_factor second_factor split_rest
returns-clause-value c = rw (mod_def c.args.a c.up-n.result, c.up-n.ensures.value)
