use mathlib.Core.Path.{refl}
use Rattle.model.specs.Coefficients.{edition_one, edition_two}
use Rattle.model.specs.Editions.{first_edition, second_edition}
use Rattle.factors.proofs.coefficients.coefficients_of.Goals as goal

pub returns-then-edition-le1 : goal.returns-then-edition-le1
unfolding edition_one
returns-then-edition-le1 c = rw (first_edition _ c.if-edition-le1.true) (record { share_is = refl; constant_is = refl; fewest_is = refl })

pub returns : goal.returns
unfolding edition_two
returns c = rw (second_edition _ c.if-edition-le1.false) (record { share_is = refl; constant_is = refl; fewest_is = refl })
