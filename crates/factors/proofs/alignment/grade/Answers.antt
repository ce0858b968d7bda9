use Rattle.model.specs.Editions.{first_edition, second_edition}
use Rattle.factors.proofs.alignment.grade.Goals as goal

pub returns-then-edition-le1 : goal.returns-then-edition-le1
returns-then-edition-le1 c = rw (first_edition _ c.if-edition-le1.true) c.power_to_six.ensures

pub returns : goal.returns
returns c = rw (second_edition _ c.if-edition-le1.false) c.grade_class.ensures
