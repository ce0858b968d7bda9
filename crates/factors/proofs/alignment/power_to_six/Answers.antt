-- The first factor of a grade is a power of 127 / 125.
use Rattle.model.specs.Coefficients.{edition_one}
use Rattle.factors.proofs.alignment.power_to_six.Goals as goal

-- the percent counts up to 6:
-- what is above 6 percent is the second factor's,
-- since the whole would not fit
pub returns : goal.returns
unfolding edition_one
returns c = rw c.min.ensures at c.grade_power.ensures
