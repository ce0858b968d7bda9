use mathlib.Core.Path.{refl}
use Rattle.estimate.specs.Fraction.{fraction, ◌÷◌}
use Rattle.factors.proofs.coefficients.dispersion_by_kind.Goals as goal

pub returns : goal.returns
unfolding ◌÷◌ fraction
returns c = refl
