-- A site is measured just where it is sound.
use Rattle.std.proofs.Common.{arith}
use Rattle.std.proofs.lemmas.Grind.{common_steps}
use Rattle.site.specs.Writing.{measure_of}
use Rattle.site_writer.proofs.is_sound.Goals as goal

pub returns : goal.returns
unfolding measure_of
returns c = grind (arith, common_steps)
