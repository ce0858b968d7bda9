use native.Mathlib.Omega.{arith}
use borrow.Author.Tests.{eq-eqb, ne_eqb, le-leb, lt-leb}
use mathlib.Core.Path.{sym}
use native.Mathlib.Nat.{mul-le-mul}
use Rattle.estimate.specs.Fraction.{whole, fraction}
use Rattle.model.specs.Access.{two_way_lane}
use Rattle.bracket.specs.Ratio.{coded_quotient}
use Rattle.factors.proofs.access.two_way_lane.Goals as goal

pub overflow_mul-density-then-driveways-ge5 : goal.overflow_mul-density-then-driveways-ge5
overflow_mul-density-then-driveways-ge5 c = omega (arith, mul-le-mul c.requires c.requires)

pub overflow_mul-density-then-driveways-ge5-2 : goal.overflow_mul-density-then-driveways-ge5-2
overflow_mul-density-then-driveways-ge5-2 c = omega (arith, mul-le-mul c.requires c.requires)

pub overflow_add-density : goal.overflow_add-density
overflow_add-density c = omega (arith, mul-le-mul c.requires c.requires)

pub overflow_mul-result : goal.overflow_mul-result
overflow_mul-result c = omega (arith, mul-le-mul c.requires c.requires)

pub overflow_add-result : goal.overflow_add-result
overflow_add-result c = omega (arith, mul-le-mul c.requires c.requires)

pub overflow_mul-result-then-driveways-ge5 : goal.overflow_mul-result-then-driveways-ge5
overflow_mul-result-then-driveways-ge5 c = omega (arith, mul-le-mul c.requires c.requires)

pub overflow_add-result-then-driveways-ge5 : goal.overflow_add-result-then-driveways-ge5
overflow_add-result-then-driveways-ge5 c = omega (arith, mul-le-mul c.requires c.requires)

pub returns-then-driveways-ge5 : goal.returns-then-driveways-ge5
unfolding two_way_lane
returns-then-driveways-ge5 c = simp (eq-eqb _ _ c.if-present-eq1.true, le-leb _ _ c.if-driveways-ge5.true) (sym (coded_quotient _ _ (omega arith)))

pub returns-else-driveways-ge5 : goal.returns-else-driveways-ge5
unfolding two_way_lane whole fraction
returns-else-driveways-ge5 c = simp (eq-eqb _ _ c.if-present-eq1.true, lt-leb _ _ c.if-driveways-ge5.false)

pub returns-else-present-eq1 : goal.returns-else-present-eq1
unfolding two_way_lane whole fraction
returns-else-present-eq1 c = simp (ne_eqb _ _ c.if-present-eq1.false)
