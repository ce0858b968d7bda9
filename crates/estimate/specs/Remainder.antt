-- The remainder factor (N+r)/N: with z = r/(2N+r) it is (1+z)/(1-z), and its logarithm is between 2z and 2z + z^3.
use Rattle.std.specs.Prelude.{ℕ, zero, suc, ◌+◌, ◌*◌, ◌≤◌, ◌<◌}
use Rattle.std.proofs.Common.{mul-le-mul_left, mul-le-mul_right, mul-pos, arith}
use Rattle.estimate.specs.Fraction.{Fraction, fraction}
use Rattle.estimate.specs.Exponential.{term_num, term_den, sum_num, factorial, partial_sum}
use Rattle.estimate.specs.ExponentialBounds.{AtLeastExp}

-- (N+r)/N
unfoldable pub ratio : (N r : ℕ) → 0 < N → Fraction
unfolding fraction
ratio N r h = fraction (N + r) N h

-- 2z = 2r/(2N+r)
unfoldable pub twice_z : (N r : ℕ) → 0 < N → Fraction
unfolding fraction
twice_z N r h = fraction (2 * r) (2 * N + r) (omega arith)

-- 2z + z^3 = r(2(2N+r)^2 + r^2)/(2N+r)^3
unfoldable pub twice_zAnd_cube : (N r : ℕ) → 0 < N → Fraction
unfolding fraction
twice_zAnd_cube N r h =
    let D = 2 * N + r in
    let p : 0 < D = omega arith in
    fraction (r * (2 * (D * D) + r * r)) (D * (D * D)) (mul-pos p (mul-pos p p))

-- EVERY SUM AT 2z IS AT MOST THE RATIO

two_powers-≤-factorial : (r k : ℕ) → term_num (2 * r) k ≤ term_num r k * factorial (suc k)
unfolding term_num factorial
two_powers-≤-factorial r zero = omega arith
two_powers-≤-factorial r (suc k) =
    let two : 2 ≤ suc (suc k) = omega arith in
    omega (arith, mul-le-mul_right (2 * r) (two_powers-≤-factorial r k), mul-le-mul_left (term_num r k * factorial (suc k) * r) two)

-- S_k(2z) + 2z^(k+1)/(1-z) ≤ (1+z)/(1-z), times what makes it whole
sum_and_rest : (N r k : ℕ) → sum_num (2 * r) (2 * N + r) k * N + term_num r k * r * factorial k ≤ (N + r) * term_den (2 * N + r) k
unfolding sum_num term_num term_den factorial
sum_and_rest N r zero = omega arith
sum_and_rest N r (suc k) =
    omega (arith, mul-le-mul_right ((2 * N + r) * suc k) (sum_and_rest N r k), mul-le-mul_right (2 * r * N) (two_powers-≤-factorial r k))

pub ratio_at_least : (N r : ℕ) (h : 0 < N) → AtLeastExp (ratio N r h) (twice_z N r h)
unfolding partial_sum twice_z ratio
ratio_at_least N r h = record { bounds = λ k. omega (arith, sum_and_rest N r k) }
