use borrow.Author.Tests.{eq-eqb, ne_eqb}
use mathlib.Core.Path.{sym}
use Rattle.bracket.specs.Ratio.{coded_quotient}
use Rattle.model.specs.Coefficients.{edition_one, edition_two}
use Rattle.model.specs.Editions.{first_edition, second_edition}
use Rattle.factors.proofs.coefficients.overdispersion.Goals as goal

pub returns-then-edition-le1 : goal.returns-then-edition-le1
unfolding edition_one
returns-then-edition-le1 c = rw (first_edition _ c.if-edition-le1.true) c.dispersion_by_kind.ensures

pub returns-then-kind-eq0 : goal.returns-then-kind-eq0
unfolding edition_two
returns-then-kind-eq0 c =
    let kind_is = c.if-kind-eq0.true in
    rw (second_edition _ c.if-edition-le1.false, eq-eqb _ 0 kind_is) (sym (coded_quotient 236 _ (c.requires.1 kind_is)))

pub returns : goal.returns
unfolding edition_two
returns c = rw (second_edition _ c.if-edition-le1.false, ne_eqb _ 0 c.if-kind-eq0.false) c.dispersion_by_kind-2.ensures
