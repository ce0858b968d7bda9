use Rattle.std.proofs.Common.{refl}
use Rattle.remainder.specs.Remainder.{exponential_low}
use Rattle.remainder.proofs.exponential_low.Goals as goal

pub returns : goal.returns
unfolding exponential_low
returns c = refl
