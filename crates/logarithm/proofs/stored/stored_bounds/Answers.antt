use Rattle.std.specs.Prelude.{ℕ, ◌≡◌}
use Rattle.std.proofs.Common.{arith}
use Rattle.logarithm.specs.Stored.{stored_low, stored_high, stored_bounds, stored_high_one, stored_low_small, stored_high_small}
use Rattle.logarithm.proofs.stored.stored_bounds.Goals as goal

both : {low high : ℕ} (k : ℕ) → low ≡ stored_low k → high ≡ stored_high k → record { low = low; high = high } ≡ stored_bounds k
both k l h = rw (l, h)

high_one : {k : ℕ} → k ≡ 1 → 0 ≡ stored_high k
high_one e = rw (e, stored_high_one)

pub overflow_add-result : goal.overflow_add-result
overflow_add-result c =
    let k = c.args.k in
    omega (arith, c.args.logarithms.now.stored.low k c.requires.0 c.requires.1, stored_low_small k c.requires.0 (omega arith))

pub returns-then-k-eq1-clause-value : goal.returns-then-k-eq1-clause-value
returns-then-k-eq1-clause-value c =
    both c.args.k (c.args.logarithms.now.stored.low c.args.k c.requires.0 c.requires.1) (high_one c.if-k-eq1.true)

pub returns-then-k-eq1-clause-small : goal.returns-then-k-eq1-clause-small
returns-then-k-eq1-clause-small c =
    let k = c.args.k in
    (omega (arith, c.args.logarithms.now.stored.low k c.requires.0 c.requires.1, stored_low_small k c.requires.0 (omega arith)), omega arith)

pub returns-else-k-eq1-clause-small : goal.returns-else-k-eq1-clause-small
returns-else-k-eq1-clause-small c =
    let k = c.args.k in
    let t = c.args.logarithms.now.stored in (
      omega (arith, t.low k c.requires.0 c.requires.1, stored_low_small k c.requires.0 (omega arith)),
      omega (arith, t.high k (omega arith) c.requires.1, stored_high_small k c.requires.0 (omega arith)),
    )
