use Rattle.std.proofs.Common.{refl}
use Rattle.laws.specs.Quotient.{quotient_up}
use Rattle.remainder.proofs.up.Goals as goal

pub returns-clause-value : goal.returns-clause-value
unfolding quotient_up
returns-clause-value c = refl
