-- Laws of ExponentialMost in specs/.
use Rattle.std.specs.Prelude.{ℕ, ◌*◌, ◌≤◌, ◌<◌, T}
use Rattle.std.proofs.Math.Nat.{mul-le-mul_right}
use native.Mathlib.Omega.{arith}
use Rattle.std.proofs.Math.Dec.{leb→le}
use Rattle.estimate.specs.Fraction.{fraction, whole, ◌*ᶠ◌, ten_thousandths}
use Rattle.estimate.proofs.ExponentialOver.{at_least_by_tail}
use Rattle.estimate.specs.ExponentialBounds.{exp_bounds_in_order}
use Rattle.bracket.specs.Bracket.{exponential_width}
use Rattle.bracket.specs.WidthLaws.{high_below, exponential_width_large}
use Rattle.exponential.specs.Scale.{scaled}
use Rattle.exponential.specs.Exponential.{exp_bracket}
use Rattle.exponential.specs.ExponentialEnds.{exp_low_at_most}
use Rattle.exponential.proofs.ExponentialLaws.{exp_promised}
use Rattle.exponential.specs.ExponentialMost.{sum_at_most}

-- e^x for an x up to 1 is at most w / D, where the sum at a larger X is at most v / D and v is below w
module _ (x X v w D : ℕ) (within : x ≤ X) (short : X ≤ 10000) (hD : 0 < D) (below : v < w) (few : w ≤ exponential_width)
    (sum : T (sum_at_most X v D)) where
  pub exp_below : (exp_bracket x).high_num * D ≤ w * (exp_bracket x).high_den
  unfolding exp_bracket fraction ten_thousandths scaled whole ◌*ᶠ◌ sum_at_most
  exp_below =
      let p = exp_promised x (omega arith) in
      let least = at_least_by_tail {w = fraction v D hD} {x = ten_thousandths X} 7 (record { cross = omega arith }) (record { cross = leb→le _ _ sum }) in
      let b = exp_bounds_in_order (exp_low_at_most x) least (record { cross = mul-le-mul_right 10000 within }) in
      high_below exponential_width (exp_bracket x) v w D exponential_width_large p.stands.low_den p.width below few b.cross
