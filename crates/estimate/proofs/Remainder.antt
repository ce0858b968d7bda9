-- Laws of Remainder in specs/.
use Rattle.std.specs.Prelude.{ℕ, suc, ◌+◌, ◌*◌, ◌^◌, ◌≤◌, ◌<◌, ◌≡◌, refl}
use Rattle.std.proofs.Common.{ap, mul-le-mul_left, mul-le-mul_right, arith}
use Rattle.estimate.specs.Fraction.{fraction, whole, ◌*ᶠ◌, ◌^ᶠ◌}
use Rattle.estimate.specs.Exponential.{term_num, term_den, sum_num, partial_sum, sum_with_tail}
use Rattle.estimate.specs.ExponentialBounds.{AtMostExp, at_most_by_sum, exp_powers_in_order}
use Rattle.estimate.proofs.ExponentialOver.{at_least_by_tail}
use Rattle.estimate.specs.Remainder.{ratio, ratio_at_least, twice_z, twice_zAnd_cube}

-- THE RATIO IS AT MOST S_3 AT 2z + z^3

-- with D = F + r: the right side is 12 D^6 + 2 r^2 D^4 - 2 r^3 D^3 - 8 r^4 D^2 - r^5 D - 3 r^6
sixth_powers : (D F r : ℕ) → D ≡ F + r → 3 * r ≤ D →
    12 * (D * (D * D) * (D * (D * D))) ≤ F * ((2 * (D * D) + r * r) * (6 * (D * D * D) + 6 * (r * (D * D)) + 4 * (r * r * D) + 3 * (r * r * r)))
sixth_powers D F r e h =
    omega (
      arith,
      ap (λ z. z * ((2 * (D * D) + r * r) * (6 * (D * D * D) + 6 * (r * (D * D)) + 4 * (r * r * D) + 3 * (r * r * r)))) e,
      mul-le-mul_left (r * r * (D * D * D)) h,
      mul-le-mul_left (r * r * r * (D * D)) h,
      mul-le-mul_left (r * r * r * r * D) h,
      mul-le-mul_left (r * r * r * r * r) h,
    )

-- with E = D^3 and w = r(2D^2 + r^2)
cubes : (D r : ℕ) → let E = D * (D * D) in let w = r * (2 * (D * D) + r * r) in
    E * (6 * (D * D * D) + 6 * (r * (D * D)) + 4 * (r * r * D) + 3 * (r * r * r)) ≤ 6 * (E * E) + 3 * (E * w) + w * w
cubes D r = omega arith

-- from there to the sum, whose numerator is 6 E^3 + 6 E^2 w + 3 E w^2 + w^3
third_sum : (N r E v C w K : ℕ) → w ≡ r * v → K ≡ 6 * (E * E) + 3 * (E * w) + w * w → 12 * (E * E) ≤ 2 * N * (v * C) → E * C ≤ K →
    (N + r) * term_den E 3 ≤ sum_num w E 3 * N
unfolding sum_num term_num term_den
third_sum N r E v C w K e f h k =
    omega (arith, mul-le-mul_left (r * E) h, mul-le-mul_left (2 * N * (r * v)) k, ap (λ z. z * (N * K)) e, ap (λ z. N * (w * z)) f)

pub ratio_at_most : (N r : ℕ) (h : 0 < N) → r ≤ N → AtMostExp (ratio N r h) (twice_zAnd_cube N r h)
unfolding partial_sum twice_zAnd_cube ratio
ratio_at_most N r h l =
    let D = 2 * N + r in
    record {
      terms = 3;
      reached = record {
        cross = third_sum N r _ (2 * (D * D) + r * r) (6 * (D * D * D) + 6 * (r * (D * D)) + 4 * (r * r * D) + 3 * (r * r * r))
            _ _ refl refl (sixth_powers D (2 * N) r refl (omega arith)) (cubes D r);
      };
    }

-- POWERS OF THE RATIO

-- q x/R ≤ p u/d and its mirror, through a y/R between
through_low : (u d y R x p q : ℕ) → y * d ≤ u * R → x * q ≤ y * p → q * x * d ≤ p * u * R
through_low u d y R x p q a b = omega (arith, mul-le-mul_right d b, mul-le-mul_right p a)

through_high : (u d y R x p q : ℕ) → u * R ≤ y * d → y * p ≤ x * q → p * u * R ≤ q * x * d
through_high u d y R x p q a b = omega (arith, mul-le-mul_right d b, mul-le-mul_right p a)

-- in whole numbers over a scale R, with k + 1 terms: y/R is a bound of the logarithm, x/R of its p/q-th part, w/R of the power
module _ (N r R p q k y x w : ℕ) (hN : 0 < N) (hR : 0 < R) where
  pub ratio_power_low_whole : y * (2 * N + r) ≤ 2 * r * R → x * q ≤ y * p → w * term_den R k ≤ sum_num x R k * R → w ^ q * N ^ p ≤ (N + r) ^ p * R ^ q
  unfolding fraction twice_z ◌^ᶠ◌ ◌*ᶠ◌ whole ratio partial_sum
  ratio_power_low_whole a b c =
      (exp_powers_in_order {v = fraction w R hR} {x = fraction x R hR} p q (at_most_by_sum k (record { cross = c })) (ratio_at_least N r hN)
      (omega (arith, through_low (2 * r) (2 * N + r) y R x p q a b))).cross

  pub ratio_power_high_whole : r ≤ N → 2 * x ≤ (k + 2) * R →
      r * (2 * ((2 * N + r) * (2 * N + r)) + r * r) * R ≤ y * ((2 * N + r) * ((2 * N + r) * (2 * N + r))) →
      y * p ≤ x * q → (sum_num x R k * (R * suc k) + 2 * term_num x (suc k)) * R ≤ w * term_den R (suc k) →
      (N + r) ^ p * R ^ q ≤ w ^ q * N ^ p
  unfolding fraction twice_zAnd_cube ◌^ᶠ◌ ◌*ᶠ◌ whole ratio sum_with_tail
  ratio_power_high_whole g l a b c =
      let D = 2 * N + r in
      (exp_powers_in_order {w = fraction w R hR} {y = fraction x R hR} q p (ratio_at_most N r hN g) (at_least_by_tail k (omega arith) (record { cross = c }))
      (omega (arith, through_high (r * (2 * (D * D) + r * r)) (D * (D * D)) y R x p q a b))).cross
