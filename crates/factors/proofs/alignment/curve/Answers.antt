use native.Mathlib.Omega.{arith}
use borrow.Author.Tests.{lt-ltb, le-ltb}
use mathlib.Core.Path.{sym}
use native.Mathlib.Nat.{mul-le-mul}
use Rattle.estimate.specs.Fraction.{whole, fraction}
use Rattle.model.specs.Alignment.{curve}
use Rattle.bracket.specs.Ratio.{coded_quotient}
use Rattle.factors.proofs.alignment.curve.Goals as goal

pub overflow_mul-spiral-2 : goal.overflow_mul-spiral-2
overflow_mul-spiral-2 c = omega (arith, mul-le-mul c.requires.4 c.requires.3)

pub returns-then-spiral-gt8020000 : goal.returns-then-spiral-gt8020000
unfolding curve whole fraction
returns-then-spiral-gt8020000 c = simp (lt-ltb _ _ c.if-spiral-gt8020000.true)

pub overflow_mul-straight-2 : goal.overflow_mul-straight-2
overflow_mul-straight-2 c = omega (arith, mul-le-mul c.requires.1 c.requires.3)

pub overflow_add-result : goal.overflow_add-result
overflow_add-result c = omega (arith, mul-le-mul c.requires.1 c.requires.3)

pub returns : goal.returns
unfolding curve
returns c = simp (le-ltb _ _ c.if-spiral-gt8020000.false) (sym (coded_quotient _ _ (omega (arith, mul-le-mul c.requires.0 c.requires.2))))
