use mathlib.Core.Path.{refl}
use Rattle.estimate.specs.Fraction.{whole, fraction}
use Rattle.model.specs.Coefficients.{edition_two}
use Rattle.model.specs.Editions.{first_edition, second_edition}
use Rattle.factors.proofs.alignment.steep_grade.Goals as goal

pub returns-then-edition-le1 : goal.returns-then-edition-le1
returns-then-edition-le1 c = rw (first_edition _ c.if-edition-le1.true) c.power_above_six.ensures

pub returns : goal.returns
unfolding edition_two whole fraction
returns c = rw (second_edition _ c.if-edition-le1.false) refl
