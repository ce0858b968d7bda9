use mathlib.Core.Path.{refl}
use Rattle.estimate.specs.Fraction.{◌÷◌, fraction}
use Rattle.model.specs.Crossings.{sight}
use Rattle.factors.proofs.crossings.sight.Goals as goal

pub returns : goal.returns
unfolding sight ◌÷◌ fraction
returns c = refl
