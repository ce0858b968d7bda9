-- FIGURES OF EDITION 2, worked by hand from document 02, request 6.
use Rattle.std.specs.Prelude.{ℕ, ◌≡◌, refl}
use Rattle.estimate.specs.Fraction.{Fraction, fraction, ◌÷◌, ◌=ᶠ◌, whole, ◌+ᶠ◌, ◌*ᶠ◌}
use Rattle.model.specs.Coefficients.{edition_two}
use Rattle.model.specs.Widths.{lane, lane_value, shoulder, shoulder_value, type_value}
use Rattle.model.specs.Access.{driveway_part}

-- both factors of a grade
abbrev graded : ℕ → Fraction
graded percent = edition_two.grade percent *ᶠ edition_two.steep_grade percent

pub record ManualFigures : Type 0 where
  -- lane 9 at 2,001 is 1 + 0.574 * 0.5; turf, 8 feet, 2,001 is 1 + 0.574 (0.87 * 1.11 - 1)
  pub lane_2001 : lane edition_two 9 2001 =ᶠ 1287 ÷ 1000
  pub turf : shoulder edition_two 8 3 2001 =ᶠ 9803118 ÷ 10000000
  -- the last percent of each grade and the first of the next
  pub grade_3 : graded 3 =ᶠ whole 1
  pub grade_4 : graded 4 =ᶠ 110 ÷ 100
  pub grade_6 : graded 6 =ᶠ 110 ÷ 100
  pub grade_7 : graded 7 =ᶠ 116 ÷ 100
  -- fewer than 5 driveways give 1 at any traffic; 10 at ln A = 5 give 0.572 / 0.447
  pub four_driveways : (ln : Fraction) → driveway_part edition_two 4 ln ≡ whole 1
  pub ten_driveways : driveway_part edition_two 10 (whole 5) =ᶠ 572 ÷ 447
  -- k of a quarter of a mile, and of a signal, on which no length bears
  pub quarter_mile : edition_two.overdispersion 0 250 =ᶠ 944 ÷ 1000
  pub signal : edition_two.overdispersion 3 250 =ᶠ 11 ÷ 100
  -- a crash on the one counts 1.944 times, at the other once
  pub crash_on_quarter_mile : edition_two.crash_count 0 250 =ᶠ 1944 ÷ 1000
  pub crash_at_signal : edition_two.crash_count 3 250 =ᶠ whole 1

pub manual_figures : ManualFigures
unfolding lane lane_value shoulder shoulder_value type_value driveway_part edition_two ◌÷◌ fraction whole ◌+ᶠ◌ ◌*ᶠ◌
manual_figures = record {
  lane_2001 = record { cross = refl };
  turf = record { cross = refl };
  grade_3 = record { cross = refl };
  grade_4 = record { cross = refl };
  grade_6 = record { cross = refl };
  grade_7 = record { cross = refl };
  four_driveways = λ ln. refl;
  ten_driveways = record { cross = refl };
  quarter_mile = record { cross = refl };
  signal = record { cross = refl };
  crash_on_quarter_mile = record { cross = refl };
  crash_at_signal = record { cross = refl };
}
