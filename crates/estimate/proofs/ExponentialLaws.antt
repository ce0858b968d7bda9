-- Laws of ExponentialLaws in specs/.
use Rattle.std.specs.Prelude.{ℕ, suc, ◌+◌, ◌*◌, ◌≤◌}
use Rattle.std.proofs.Common.{mul-le-mul_left, mul-le-mul_right, arith}
use Rattle.std.proofs.Math.Decide.{dec_le}
use Rattle.estimate.specs.Fraction.{Fraction, ◌≤ᶠ◌, whole, ◌*ᶠ◌}
use Rattle.estimate.specs.FractionLaws.{≤ᶠ-trans, falls_by_steps}
use Rattle.estimate.specs.Exponential.{term_num, term_den, sum_num, partial_sum, sum_with_tail}
use Rattle.estimate.specs.ExponentialLaws.{partial_sums_grow, sum-≤-with_tail}

with_tail_falls : (m : ℕ) (x : Fraction) → 2 * x.num ≤ suc (suc m) * x.den → sum_with_tail (suc m) x ≤ᶠ sum_with_tail m x
unfolding sum_with_tail sum_num term_den term_num
with_tail_falls m x h = omega (arith, mul-le-mul_left (term_num x.num (suc m) * term_den x.den (suc m)) h)

-- where 2x is at most k + 2, each further sum with its tail is no more than the k-th,
pub sums_with_tail_fall : (x : Fraction) (k : ℕ) → whole 2 *ᶠ x ≤ᶠ whole (k + 2) → (m : ℕ) → k ≤ m → sum_with_tail m x ≤ᶠ sum_with_tail k x
unfolding whole ◌*ᶠ◌
sums_with_tail_fall x k b m h =
    falls_by_steps (λ i. sum_with_tail i x) k (λ i ki. with_tail_falls i x (omega (arith, b.cross, mul-le-mul_right x.den ki))) m h

-- so that the k-th bounds every partial sum
pub tail_bounds_every_sum : (x : Fraction) (k : ℕ) → whole 2 *ᶠ x ≤ᶠ whole (k + 2) → (m : ℕ) → partial_sum m x ≤ᶠ sum_with_tail k x
tail_bounds_every_sum x k b m = by_cases (dec_le m k)
  where
    by_cases : Dec (m ≤ k) → partial_sum m x ≤ᶠ sum_with_tail k x
    by_cases (yes h) = ≤ᶠ-trans (partial_sums_grow x m k h) (sum-≤-with_tail k x)
    by_cases (no h) = ≤ᶠ-trans (sum-≤-with_tail m x) (sums_with_tail_fall x k b m (omega arith))
