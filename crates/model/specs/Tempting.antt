-- "Tempting: using 1.50 at A = 2,000; reading history 0 as no history; taking 5 driveways as a floor; rounding expected low to
-- nearest": the definitions do none of these.
use Rattle.std.specs.Prelude.{Some}
use Rattle.std.specs.Prelude.{◌≡◌, refl}
use Rattle.std.proofs.Common.{lit<}
use Rattle.estimate.specs.Fraction.{fraction, ◌÷◌, ◌<ᶠ◌, ◌=ᶠ◌, whole, millionths}
use Rattle.model.specs.Coefficients.{edition_one}
use Rattle.model.specs.Widths.{lane, lane_value, shoulder, shoulder_value, type_value}
use Rattle.model.specs.Access.{driveway_part}
use Rattle.model.specs.Expected.{weighed, with_history, expected_low}

pub record Tempting : Type 0 where
  pub lane_at_2000 : lane edition_one 9 2000 <ᶠ lane edition_one 9 2001
  -- a history of none lowers 2 crashes at a signal to 2 / 1.22
  pub history_zero : with_history (11 ÷ 100) (Some 0) (whole 2) =ᶠ 200 ÷ 122
  -- no driveway at ln A = 5 is 0.2 / 0.325, below 1
  pub no_driveway : driveway_part edition_one 0 (whole 5) =ᶠ 200 ÷ 325
  -- 2,540,983.6 is rounded down
  pub rounded_down : expected_low (11 ÷ 100) 5 2000000 ≡ 2540983
  -- an 8-foot shoulder falls with traffic: 0.98 - 0.00006875 * 600 at 1,000
  pub eight_feet : shoulder edition_one 8 0 1000 =ᶠ 9785625 ÷ 10000000

pub tempting : Tempting
unfolding lane lane_value shoulder shoulder_value type_value edition_one driveway_part weighed expected_low millionths ◌÷◌ fraction whole
tempting = record {
  lane_at_2000 = record { cross = lit< tt };
  history_zero = record { cross = refl };
  no_driveway = record { cross = refl };
  rounded_down = refl;
  eight_feet = record { cross = refl };
}
