use Rattle.remainder.specs.Remainder.{with_cube}
use Rattle.remainder.proofs.with_cube.Goals as goal

pub returns : goal.returns
unfolding with_cube
returns c = cc
