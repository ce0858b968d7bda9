-- The driveway part's slope and the values that fall with traffic are not cut off at 0. Of the other subtractions of the factors those
-- of the traffic above 400, a lane's column, a curve and a hazard rating are made behind a test that keeps them from it, 1,000 less the
-- share is not cut off where an edition is `Bounded` (FactorBounds), and the percent above six of a grade are meant to be 0 up to six
-- (`grade_is`).
use Rattle.std.specs.Prelude.{ℕ, zero, suc, ◌-◌, ◌*◌, ◌≤◌, Bool, true, List, [], ◌∷◌, get_or, T, leb}
use Rattle.std.proofs.Common.{mul-le-mul_left, le_trans, arith, leb→le}
use Rattle.estimate.specs.Fraction.{Fraction, whole, fraction, ◌≤ᶠ◌}
use Rattle.estimate.specs.FractionLaws.{whole_mono}
use Rattle.estimate.specs.Logarithm.{ln_under, ln_over}
use Rattle.laws.specs.Table.{both, both_left, both_right}
use Rattle.estimate.proofs.LogarithmLaws.{ln_over-≤-ten, ln_under-≤-ten}
use Rattle.model.specs.Widths.{Column, none, lane_columns, shoulder_columns}

-- "c = 0.05 − 0.005 ln A": both estimates of ln A are at most 10 at every depth, so 50 − 5 ln A thousandths is exact. At
-- A = 20,000 and depth 1 it is 0
at_most_ten : {ln : Fraction} → ln ≤ᶠ whole 10 → 5 * ln.num ≤ 50 * ln.den
unfolding whole fraction
at_most_ten h = omega (arith, h.cross)

module _ (A : ℕ) (to : A ≤ 20000) (d : ℕ) where
  pub slope_exact_at_over : 5 * (ln_over d (whole A)).num ≤ 50 * (ln_over d (whole A)).den
  slope_exact_at_over = at_most_ten (ln_over-≤-ten (whole_mono to) d)

  pub slope_exact_at_under : 1 ≤ A → 5 * (ln_under d (whole A)).num ≤ 50 * (ln_under d (whole A)).den
  slope_exact_at_under from = at_most_ten (ln_under-≤-ten (whole_mono from) (whole_mono to) d)

-- a column's value does not fall below 0 from A = 400 to 2,000
abbrev holds : Column → Bool
holds c = leb (c.takes * 1600) c.light

abbrev all_hold : List Column → Bool
all_hold [] = true
all_hold (c ∷ cs) = both (holds c) (all_hold cs)

column_holds : (cs : List Column) → T (all_hold cs) → (i : ℕ) → (get_or cs i none).takes * 1600 ≤ (get_or cs i none).light
column_holds [] t i = omega arith
column_holds (c ∷ cs) t zero = leb→le _ _ (both_left (holds c) (all_hold cs) t)
column_holds (c ∷ cs) t (suc i) = column_holds cs (both_right (holds c) (all_hold cs) t) i

within : (takes light traffic : ℕ) → takes * 1600 ≤ light → traffic ≤ 2000 → takes * (traffic - 400) ≤ light
within takes light traffic h to = le_trans (mul-le-mul_left takes (omega arith)) h

module _ (i traffic : ℕ) (to : traffic ≤ 2000) where
  pub lane_exact : (get_or lane_columns i none).takes * (traffic - 400) ≤ (get_or lane_columns i none).light
  lane_exact = within _ _ traffic (column_holds lane_columns tt i) to

  pub shoulder_exact : (get_or shoulder_columns i none).takes * (traffic - 400) ≤ (get_or shoulder_columns i none).light
  shoulder_exact = within _ _ traffic (column_holds shoulder_columns tt i) to
