-- The sums at the scale are at most and at least e^f, close to each other, and of a known size.
use Rattle.std.specs.Prelude.{ℕ, zero, suc, ◌+◌, ◌*◌, ◌≤◌, ◌<◌}
use Rattle.std.proofs.Common.{le_trans, mul-le-mul, mul-le-mul_right, le_of_mul-le-mul_right, lt_of_mul-lt-mul_right, le_of_suc-le-suc, lit<}
use native.Mathlib.Omega.{arith}
use Rattle.estimate.specs.Fraction.{fraction, ◌≤ᶠ◌, whole, ◌*ᶠ◌, ten_thousandths}
use Rattle.estimate.specs.Exponential.{term_num, term_den, sum_num, partial_sum, sum_with_tail, term_den_positive, factorial}
use Rattle.estimate.specs.ExponentialBounds.{AtMostExp, AtLeastExp, at_most_by_sum}
use Rattle.estimate.proofs.ExponentialOver.{at_least_by_tail}
use Rattle.wide.specs.Rounding.{floor_le, floor_lt, ceiling_ge, ceiling_lt}
use Rattle.exponential.specs.Scale.{scale, scaled}
use Rattle.exponential.specs.Taylor.{term_low, term_high, sum_low, sum_high, taylor_low, taylor_high}

-- THE TERMS AND THE SUMS STAND
next_positive : (k : ℕ) → 0 < 10000 * suc k
next_positive k = omega arith

term_low-≤ : (f k : ℕ) → term_low f k * term_den 10000 k ≤ term_num f k * scale
unfolding term_low term_num term_den
term_low-≤ f zero = omega arith
term_low-≤ f (suc k) = omega (arith, mul-le-mul_right f (term_low-≤ f k), mul-le-mul_right (term_den 10000 k) (floor_le (term_low f k) f (10000 * suc k)))

term_high-≥ : (f k : ℕ) → term_num f k * scale ≤ term_high f k * term_den 10000 k
unfolding term_high term_num term_den
term_high-≥ f zero = omega arith
term_high-≥ f (suc k) =
    omega (arith, mul-le-mul_right f (term_high-≥ f k), mul-le-mul_right (term_den 10000 k) (ceiling_ge (term_high f k) f (10000 * suc k) (next_positive k)))

sum_low-≤ : (f k : ℕ) → sum_low f k * term_den 10000 k ≤ sum_num f 10000 k * scale
unfolding sum_low sum_num term_den
sum_low-≤ f zero = omega arith
sum_low-≤ f (suc k) = omega (arith, mul-le-mul_right (10000 * suc k) (sum_low-≤ f k), term_low-≤ f (suc k))

sum_high_next : (c f k : ℕ) → sum_num f 10000 k * scale ≤ sum_high f k * term_den 10000 k →
    (sum_num f 10000 k * (10000 * suc k) + c * term_num f (suc k)) * scale ≤ (sum_high f k + c * term_high f (suc k)) * term_den 10000 (suc k)
unfolding term_den
sum_high_next c f k h = omega (arith, mul-le-mul_right (10000 * suc k) h, mul-le-mul_right c (term_high-≥ f (suc k)))

sum_high-≥ : (f k : ℕ) → sum_num f 10000 k * scale ≤ sum_high f k * term_den 10000 k
unfolding sum_high sum_num
sum_high-≥ f zero = unfold term_den in omega arith
sum_high-≥ f (suc k) = omega (arith, sum_high_next 1 f k (sum_high-≥ f k))

sum_with_tail-≤ : (f m : ℕ) → sum_with_tail m (ten_thousandths f) ≤ᶠ scaled (sum_high f m + 2 * term_high f (suc m))
unfolding sum_with_tail ten_thousandths scaled fraction
sum_with_tail-≤ f m = record { cross = sum_high_next 2 f m (sum_high-≥ f m) }

pub taylor_at_most : (f : ℕ) → AtMostExp (scaled (taylor_low f)) (ten_thousandths f)
unfolding taylor_low partial_sum ten_thousandths scaled fraction
taylor_at_most f = at_most_by_sum 16 (record { cross = sum_low-≤ f 16 })

pub taylor_at_least : (f : ℕ) → f ≤ 10000 → AtLeastExp (scaled (taylor_high f)) (ten_thousandths f)
unfolding taylor_high
taylor_at_least f h = at_least_by_tail 16 (unfold ten_thousandths fraction whole ◌*ᶠ◌ in record { cross = omega arith }) (sum_with_tail-≤ f 16)

-- THEIR SIZE: a factor is at most 1
no_larger : (R t t' f d : ℕ) → f ≤ d → t ≤ R → t' * d < t * f + d → t' ≤ R
no_larger R t t' f d l h k = le_of_suc-le-suc (lt_of_mul-lt-mul_right d {m = t'} {n = suc R} (omega (arith, mul-le-mul h l)))

term_high_small : (f : ℕ) → f ≤ 10000 → (k : ℕ) → term_high f k ≤ scale
unfolding term_high
term_high_small f h zero = omega arith
term_high_small f h (suc k) =
    no_larger scale (term_high f k) _ f (10000 * suc k) (omega arith) (term_high_small f h k) (ceiling_lt (term_high f k) f (10000 * suc k) (next_positive k))

term_low-≤-high : (f k : ℕ) → term_low f k ≤ term_high f k
term_low-≤-high f k = le_of_mul-le-mul_right {k = term_den 10000 k} (le_trans (term_low-≤ f k) (term_high-≥ f k)) (term_den_positive 10000 k (lit< tt))

-- what stands after k terms, each of them at most 1
pub record Sized (f k : ℕ) : Type 0 where
  pub low_term : term_low f k ≤ scale
  pub high_term : term_high f k ≤ scale
  pub low_sum : sum_low f k ≤ suc k * scale
  pub high_sum : sum_high f k ≤ suc k * scale
  pub least : scale ≤ sum_low f k

pub terms_sized : (f : ℕ) → f ≤ 10000 → (k : ℕ) → Sized f k
unfolding sum_low sum_high
terms_sized f h zero = record {
  low_term = le_trans (term_low-≤-high f zero) (term_high_small f h zero);
  high_term = term_high_small f h zero;
  low_sum = omega arith;
  high_sum = omega arith;
  least = omega arith;
}
terms_sized f h (suc k) =
    let before = terms_sized f h k in
    let high = term_high_small f h (suc k) in
    let low = le_trans (term_low-≤-high f (suc k)) high in
    record {
      low_term = low;
      high_term = high;
      low_sum = omega (arith, before.low_sum);
      high_sum = omega (arith, before.high_sum);
      least = omega (arith, before.least);
    }

-- THEY ARE CLOSE: two terms at most 2 apart, and the 17th below 1
near_next : (tl th tl' th' f d : ℕ) → th * f ≤ tl * f + d → tl * f < tl' * d + d → th' * d < th * f + d → th' ≤ tl' + 2
near_next tl th tl' th' f d h a b = le_of_suc-le-suc (lt_of_mul-lt-mul_right d {m = th'} {n = suc (tl' + 2)} (omega arith))

spread : (f : ℕ) → f ≤ 10000 → (k : ℕ) → term_high f k ≤ term_low f k + 2 → term_high f k * f ≤ term_low f k * f + 10000 * suc k
unfolding term_low term_high
spread f h zero n = omega arith
spread f h (suc k) n = omega (arith, mul-le-mul_right f n)

term_near : (f : ℕ) → f ≤ 10000 → (k : ℕ) → term_high f k ≤ term_low f k + 2
unfolding term_low term_high
term_near f h zero = omega arith
term_near f h (suc k) =
    near_next (term_low f k) (term_high f k) _ _ f (10000 * suc k) (spread f h k (term_near f h k))
    (floor_lt (term_low f k) f (10000 * suc k) (next_positive k)) (ceiling_lt (term_high f k) f (10000 * suc k) (next_positive k))

sum_near : (f : ℕ) → f ≤ 10000 → (k : ℕ) → sum_high f k ≤ sum_low f k + 2 * k
unfolding sum_low sum_high
sum_near f h zero = omega arith
sum_near f h (suc k) = omega (arith, sum_near f h k, term_near f h (suc k))

falls : (R F t t' f c : ℕ) → f ≤ 10000 → t * F ≤ R → t' * (10000 * c) ≤ t * f → t' * (F * c) ≤ R
falls R F t t' f c l h k = le_of_mul-le-mul_right {k = 10000} (omega (arith, mul-le-mul_right F k, mul-le-mul_right (t * F) l)) (lit< tt)

term_low_falls : (f : ℕ) → f ≤ 10000 → (k : ℕ) → term_low f k * factorial k ≤ scale
unfolding term_low factorial
term_low_falls f h zero = omega arith
term_low_falls f h (suc k) = falls scale (factorial k) (term_low f k) _ f (suc k) h (term_low_falls f h k) (floor_le (term_low f k) f (10000 * suc k))

pub taylor_near : (f : ℕ) → f ≤ 10000 → taylor_high f ≤ taylor_low f + 36
unfolding taylor_low taylor_high
taylor_near f h =
    let none : term_low f 17 * 355687428096000 ≤ scale = unfold factorial in term_low_falls f h 17 in
    omega (arith, sum_near f h 16, term_near f h 17)

pub taylor_least : (f : ℕ) → f ≤ 10000 → scale ≤ taylor_low f
unfolding taylor_low
taylor_least f h = (terms_sized f h 16).least

pub taylor_most : (f : ℕ) → f ≤ 10000 → taylor_low f ≤ 17 * scale
unfolding taylor_low
taylor_most f h = (terms_sized f h 16).low_sum
