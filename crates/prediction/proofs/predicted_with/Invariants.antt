-- The sum so far and the terms that are left make the site's pair.
use Rattle.model.specs.Coefficients.{coefficients_of}
use Rattle.prediction.proofs.Carrying.{Summed}
use Rattle.prediction.proofs.predicted_with.Given as goal

abbrev pub invariant-loop-year : goal.invariant-loop-year
invariant-loop-year l = Summed (coefficients_of l.header.edition) l.header l.site l.year l.sum
