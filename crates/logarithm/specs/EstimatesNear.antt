-- The two estimates of a logarithm at depth 12 are near each other: what the over-estimate of e^x exceeds its under-estimate by
-- is less than what 10^-12 more of x adds.
use Rattle.std.specs.Prelude.{ℕ, zero, suc, ◌+◌, ◌*◌, ◌^◌, ◌≤◌}
use Rattle.std.proofs.Common.{le_trans, mul-le-mul_left, mul-le-mul_right, arith}
use Rattle.std.proofs.Math.Nat.{not-suc-le_self}
use Rattle.std.proofs.Math.Dec.{lit≤}
use Rattle.estimate.specs.Fraction.{Fraction, ◌≤ᶠ◌, fraction, whole, decimal}
use Rattle.estimate.specs.FractionLaws.{≤ᶠ-trans, ≤ᶠ-of-not-<ᶠ, <ᶠ-≤ᶠ}
use Rattle.estimate.specs.Exponential.{term_num, term_den, sum_num, partial_sum, sum_with_tail, exp_under, exp_over}
use Rattle.estimate.specs.ExponentialLaws.{term_mono}
use Rattle.estimate.specs.Logarithm.{ln_largest, ln_smallest, ln_under, ln_smallest_is}
use Rattle.estimate.proofs.Logarithm.{ln_largest_is}
use Rattle.estimate.proofs.LogarithmLaws.{ln_under-≤-ten}

-- 1/D more of x = n/D adds 1/D at least to each sum from the second on
one_more : (D S S' den c T T' : ℕ) → D * S + den ≤ D * S' → T ≤ T' → D * (S * c + T) + den * c ≤ D * (S' * c + T')
one_more D S S' den c T T' h k = omega (arith, mul-le-mul_right c h, mul-le-mul_left D k)

sum_step : (n D m : ℕ) → D * sum_num n D (suc m) + term_den D (suc m) ≤ D * sum_num (suc n) D (suc m)
unfolding sum_num term_den term_num
sum_step n D zero = omega arith
sum_step n D (suc m) =
    let more : n ≤ suc n = omega arith in
    one_more D (sum_num n D (suc m)) (sum_num (suc n) D (suc m)) (term_den D (suc m)) (D * suc (suc m)) (term_num n (suc (suc m))) (term_num (suc n) (suc (suc m)))
    (sum_step n D m) (term_mono more (suc (suc m)))

-- S and S' are the sums at n/D and (n+1)/D, T the next term's numerator
past_the_tail : (S S' T den D c : ℕ) → D * S + den ≤ D * S' → 2 * T ≤ den * c → (S * (D * c) + 2 * T) * den ≤ S' * (den * (D * c))
past_the_tail S S' T den D c h k = omega (arith, mul-le-mul_right (c * den) h, mul-le-mul_right den k)

with_tail-≤-next : (n D m : ℕ) → 2 * term_num n (suc (suc m)) ≤ term_den D (suc m) * suc (suc m)
    → (sum_num n D (suc m) * (D * suc (suc m)) + 2 * term_num n (suc (suc m))) * term_den D (suc m) ≤ sum_num (suc n) D (suc m) * term_den D (suc (suc m))
unfolding term_den
with_tail-≤-next n D m k =
    past_the_tail (sum_num n D (suc m)) (sum_num (suc n) D (suc m)) (term_num n (suc (suc m))) (term_den D (suc m)) D (suc (suc m)) (sum_step n D m) k

-- up to x = 11 twice the 53rd term is that small
tail_small : {n : ℕ} → n ≤ 11 * 10 ^ 12 → 2 * term_num n 53 ≤ term_den (10 ^ 12) 52 * 53
tail_small h = le_trans (mul-le-mul_left 2 (term_mono h 53)) (unfold term_num term_den in lit≤ tt)

over-≤-next_under : (n : ℕ) → n ≤ 11 * 10 ^ 12 → exp_over 12 (decimal 12 n) ≤ᶠ exp_under 12 (decimal 12 (suc n))
unfolding exp_over exp_under sum_with_tail partial_sum decimal fraction
over-≤-next_under n h = record { cross = with_tail-≤-next n (10 ^ 12) 51 (tail_small h) }

pub ln_estimates_near : {A : Fraction} → whole 1 ≤ᶠ A → A ≤ᶠ whole 20000 → ln_smallest 12 A ≤ ln_largest 12 A + 2
ln_estimates_near {A} one to =
    let t = ln_largest 12 A in
    let small : t ≤ 10 * 10 ^ 12 = let b = ln_under-≤-ten one to 12 in unfold ln_under decimal whole fraction in omega (arith, b.cross) in
    let below : A ≤ᶠ exp_over 12 (decimal 12 (suc t)) = ≤ᶠ-of-not-<ᶠ (λ l. not-suc-le_self t ((ln_largest_is 12 A one).most (suc t) (<ᶠ-≤ᶠ l))) in
    omega (arith, (ln_smallest_is 12 A).least (suc (suc t)) (≤ᶠ-trans below (over-≤-next_under (suc t) (omega arith))))
