-- "Table of twelve, settled by proof as a whole."
use Rattle.std.specs.Prelude.{ℕ, ◌≡◌, refl}
use Rattle.estimate.specs.Fraction.{Fraction, fraction, ◌÷◌, ◌=ᶠ◌, whole, millionths, ◌^ᶠ◌}
use Rattle.estimate.specs.Power.{ThirtyTwoToSixTenths}
use Rattle.estimate.proofs.Power.{thirty_two_to_six_tenths}
use Rattle.estimate.specs.Logarithm.{LnOne}
use Rattle.estimate.proofs.Logarithm.{ln_one}
use Rattle.model.specs.Coefficients.{edition_one}
use Rattle.model.specs.Widths.{lane, lane_value, shoulder, shoulder_value, type_value}
use Rattle.model.specs.Alignment.{curve, superelevation}
use Rattle.model.specs.Access.{two_way_lane}
use Rattle.model.specs.Expected.{weighed, expected_low, expected_high}

-- k of a signal, 0.11
abbrev signal : Fraction
signal = edition_one.overdispersion 3 0

pub record KnownFigures : Type 0 where
  -- "lane 9 at A 399 is 1.0175; at 2,000, 1.17486; at 2,001, 1.175"
  pub lane_399 : lane edition_one 9 399 =ᶠ 10175 ÷ 10000
  pub lane_2000 : lane edition_one 9 2000 =ᶠ 117486 ÷ 100000
  pub lane_2001 : lane edition_one 9 2001 =ᶠ 1175 ÷ 1000
  -- "Turf, 8 feet, 2,001: 0.987995"
  pub turf : shoulder edition_one 8 3 2001 =ᶠ 987995 ÷ 1000000
  -- "Curve Lc 100, R 1,000: 1176/775; Lc 1, R 30,000, two spirals: 1"
  pub curve_sharp : curve 100 1000 0 =ᶠ 1176 ÷ 775
  pub curve_flat : curve 1 30000 2 =ᶠ whole 1
  -- "D 20: 1.06; D 21: 1.063"
  pub deficiency_20 : superelevation 20 =ᶠ 106 ÷ 100
  pub deficiency_21 : superelevation 21 =ᶠ 1063 ÷ 1000
  -- "Two-way lane at DD 10: 27711/29720"
  pub two_way : two_way_lane 1 10 =ᶠ 27711 ÷ 29720
  -- "Signal, predicted pair 2,000,000 twice, O 5: 2,540,983 and 2,540,984"
  pub expected_low : expected_low signal 5 2000000 ≡ 2540983
  pub expected_high : expected_high signal 5 2000000 ≡ 2540984
  -- "32^0.60 at depth 1: 8.0 and 8.1"
  pub power : ThirtyTwoToSixTenths
  -- "ln 1: 0 and 0", at every depth
  pub logarithm : (d : ℕ) → LnOne d

pub known_figures : KnownFigures
unfolding lane lane_value shoulder shoulder_value type_value curve superelevation two_way_lane edition_one
    expected_low expected_high weighed millionths ◌÷◌ fraction whole ◌^ᶠ◌
known_figures = record {
  lane_399 = record { cross = refl };
  lane_2000 = record { cross = refl };
  lane_2001 = record { cross = refl };
  turf = record { cross = refl };
  curve_sharp = record { cross = refl };
  curve_flat = record { cross = refl };
  deficiency_20 = record { cross = refl };
  deficiency_21 = record { cross = refl };
  two_way = record { cross = refl };
  expected_low = refl;
  expected_high = refl;
  power = thirty_two_to_six_tenths;
  logarithm = ln_one;
}
