-- A bracket of the estimates at one depth, rounded outward to whole numbers over a scale: it stands at every depth, and is little
-- wider than they are apart.
use Rattle.std.specs.Prelude.{ℕ, ◌+◌, ◌*◌, ◌≤◌, ◌<◌}
use Rattle.std.proofs.Common.{mul-le-mul_left, mul-pos, lt_of_mul-lt-mul_right, arith}
use Rattle.estimate.specs.Fraction.{Fraction, fraction, ◌≤ᶠ◌}
use Rattle.estimate.specs.FractionLaws.{≤ᶠ-trans}
use Rattle.wide.specs.Scaling.{floor, ceiling}
use Rattle.wide.specs.Rounding.{floor_le, floor_lt, ceiling_ge, ceiling_lt}
use Rattle.bracket.specs.Bracket.{Stands}
use Rattle.bracket.specs.declared.Bracket.{Bracket}

-- the under-estimate at depth d rounded down, and the over-estimate rounded up
unfoldable pub rounded_outward : (scale d : ℕ) (under over : ℕ → Fraction) → Bracket
rounded_outward scale d under over = record {
  low_num = floor scale (under d).num (under d).den;
  low_den = scale;
  high_num = ceiling scale (over d).num (over d).den;
  high_den = scale;
}

module _ (scale : ℕ) (positive : 0 < scale) where
  pub rounded_down-≤ : (x : Fraction) → fraction (floor scale x.num x.den) scale positive ≤ᶠ x
  unfolding fraction
  rounded_down-≤ x = record { cross = omega (arith, floor_le scale x.num x.den) }

  pub rounded_up-≥ : (x : Fraction) → x ≤ᶠ fraction (ceiling scale x.num x.den) scale positive
  unfolding fraction
  rounded_up-≥ x = record { cross = omega (arith, ceiling_ge scale x.num x.den x.pos) }

  -- every under-estimate is at most every over-estimate: one depth then serves for all
  pub rounded_outward_stands : (d : ℕ) (under over : ℕ → Fraction) → ((i j : ℕ) → under i ≤ᶠ over j) → Stands (rounded_outward scale d under over) under over
  unfolding rounded_outward
  rounded_outward_stands d under over below = record {
    low_den = positive;
    high_den = positive;
    low_right = record { at = λ i _. ≤ᶠ-trans (rounded_down-≤ (under d)) (below d i) };
    high_right = record { at = λ i _. ≤ᶠ-trans (below i d) (rounded_up-≥ (over d)) };
    in_order = ≤ᶠ-trans (rounded_down-≤ (under d)) (≤ᶠ-trans (below d d) (rounded_up-≥ (over d)));
  }

-- over is at most under and a K-th of it
pub record Near (K : ℕ) (under over : Fraction) : Type 0 where
  pub cross : K * (over.num * under.den) ≤ (K + 1) * (under.num * over.den)

-- in plain numbers: p/q is the under-estimate, r/s the over-estimate, a and b what they are rounded to
apart : (S p q r s a b K : ℕ) → 0 < q → 0 < s → K * (r * q) ≤ (K + 1) * (p * s) → S * p < a * q + q → b * s < S * r + s
    → K * b < (K + 1) * a + 2 * K + 1
apart S p q r s a b K hq hs near low high =
    lt_of_mul-lt-mul_right (q * s) {m = K * b} {n = (K + 1) * a + 2 * K + 1}
    (omega (arith, mul-le-mul_left (K * q) high, mul-le-mul_left S near, mul-le-mul_left ((K + 1) * s) low, mul-pos hq hs))

-- their ends are a K-th of the low and two units apart
pub rounded_outward_near : (scale d K : ℕ) (under over : ℕ → Fraction) → Near K (under d) (over d)
    → let b = rounded_outward scale d under over in K * b.high_num < (K + 1) * b.low_num + 2 * K + 1
unfolding rounded_outward
rounded_outward_near scale d K under over near =
    let u = under d in
    let o = over d in
    apart scale _ _ _ _ _ _ K u.pos o.pos near.cross (floor_lt scale u.num u.den u.pos) (ceiling_lt scale o.num o.den o.pos)
