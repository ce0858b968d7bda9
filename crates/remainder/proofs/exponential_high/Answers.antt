use Rattle.remainder.specs.Remainder.{exponential_high}
use Rattle.remainder.proofs.exponential_high.Goals as goal

pub returns : goal.returns
unfolding exponential_high
returns c = cc
