-- Each turn makes one term more of the definition's sums.
use Rattle.std.proofs.Common.{arith, ◌≡◌, ◌-◌}
use Rattle.exponential.proofs.taylor.Laws.{none, first, turn, fit, done}
use Rattle.exponential.proofs.taylor.taylor.Goals as goal

pub returns-then-f-eq0 : goal.returns-then-f-eq0
returns-then-f-eq0 c = none c.if-f-eq0.true

pub loop-k-init : goal.loop-k-init
loop-k-init c = first c.requires

pub overflow_mul-low_term : goal.overflow_mul-low_term
overflow_mul-low_term c = omega (arith, fit c.loop-k.invariant)

pub overflow_mul-high_term : goal.overflow_mul-high_term
overflow_mul-high_term c = omega (arith, fit c.loop-k.invariant)

pub overflow_add-high_term : goal.overflow_add-high_term
overflow_add-high_term c = omega (arith, fit c.loop-k.invariant)

pub overflow_add-low : goal.overflow_add-low
overflow_add-low c = omega (arith, fit (turn c.loop-k.invariant c.loop-k.auto.k c.loop-k-test.true))

pub overflow_add-high : goal.overflow_add-high
overflow_add-high c = omega (arith, fit (turn c.loop-k.invariant c.loop-k.auto.k c.loop-k-test.true))

pub loop-k-preserved : goal.loop-k-preserved
loop-k-preserved c = turn c.loop-k.invariant c.loop-k.auto.k c.loop-k-test.true

pub overflow_mul-tail : goal.overflow_mul-tail
overflow_mul-tail c = omega (arith, fit c.loop-k.invariant)

pub overflow_add-tail : goal.overflow_add-tail
overflow_add-tail c = omega (arith, fit c.loop-k.invariant)

pub overflow_add-result : goal.overflow_add-result
overflow_add-result c = omega (arith, fit c.loop-k.invariant)

pub returns : goal.returns
returns c = let e : c.loop-k.k - 1 ≡ 16 = omega arith in done (rw e at c.loop-k.invariant)
