use borrow.Author.Tests.{lt-ltb, le-ltb, le-leb, lt-leb}
use Rattle.estimate.specs.Fraction.{◌÷◌, whole, fraction}
use Rattle.model.specs.Alignment.{superelevation}
use Rattle.factors.proofs.alignment.superelevation.Goals as goal

pub returns-then-deficiency-lt10 : goal.returns-then-deficiency-lt10
unfolding superelevation whole fraction
returns-then-deficiency-lt10 c = simp (lt-ltb _ _ c.if-deficiency-lt10.true)

pub returns-then-deficiency-le20 : goal.returns-then-deficiency-le20
unfolding superelevation ◌÷◌ fraction
returns-then-deficiency-le20 c = simp (le-ltb _ _ c.if-deficiency-lt10.false, le-leb _ _ c.if-deficiency-le20.true)

pub returns : goal.returns
unfolding superelevation ◌÷◌ fraction
returns c = simp (le-ltb _ _ c.if-deficiency-lt10.false, lt-leb _ _ c.if-deficiency-le20.false)
