-- Each table has the brackets of its exponents: one computed test.
use Rattle.exponential.specs.StoredBrackets.{holds_stored}
use Rattle.exponential.specs.StoredBracketLaws.{stored_by_test}
use Rattle.model.specs.Coefficients.{edition_one, edition_two}
use Rattle.model.specs.Editions.{first_edition, second_edition}
use Rattle.model.specs.Parts.{base_exponent}
use Rattle.prediction.proofs.stored.stored_bases.Goals as goal

pub returns-then-edition-le1 : goal.returns-then-edition-le1
unfolding holds_stored edition_one
returns-then-edition-le1 c = rw (first_edition _ c.if-edition-le1.true) (stored_by_test 4 (base_exponent edition_one) _ tt)

pub returns : goal.returns
unfolding holds_stored edition_two
returns c = rw (second_edition _ c.if-edition-le1.false) (stored_by_test 4 (base_exponent edition_two) _ tt)
