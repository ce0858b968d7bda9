-- What an edition of the model sets. What is the same in every edition stands with its factor, and a field's default in the
-- site's rules.
use Rattle.std.specs.Prelude.{ℕ, ◌-◌, min, cond, List, [], ◌∷◌, get_or, leb, eqb}
use Rattle.estimate.specs.Fraction.{Fraction, ◌÷◌, whole, ◌+ᶠ◌, ◌^ᶠ◌}

pub record Coefficients : Type 0 where
  -- x of the base factor e^(-x), in ten-thousandths, by kind
  pub base_exponent : ℕ → ℕ
  -- the share of a segment's crashes that lane and shoulder bear on, in thousandths
  pub related_share : ℕ
  -- overdispersion k, by kind and the length in thousandths of a mile
  pub overdispersion : (kind length : ℕ) → Fraction
  -- what an observed crash counts for in the expected width, by kind and the length
  pub crash_count : (kind length : ℕ) → Fraction
  -- the factor of a grade in percent, and the one that a steep grade has beside it
  pub grade : ℕ → Fraction
  pub steep_grade : ℕ → Fraction
  -- the constant of the driveway part, in thousandths, and the driveways per mile below which the part is 1
  pub driveway_constant : ℕ
  pub fewest_driveways : ℕ
  -- turn-lane factors in thousandths, by kind and count of lanes
  pub left_turn : (kind lanes : ℕ) → ℕ
  pub right_turn : (kind lanes : ℕ) → ℕ

-- one number for each kind: segment, 3ST, 4ST, 4SG
abbrev pub by_kind : (segment three_leg_stop four_leg_stop four_leg_signal : ℕ) → ℕ → ℕ
by_kind segment three_leg_stop four_leg_stop four_leg_signal kind = get_or (segment ∷ three_leg_stop ∷ four_leg_stop ∷ four_leg_signal ∷ []) kind 0

-- a table of turn-lane factors in thousandths, by none, one and two lanes: none is 1, a segment has no lanes and a 3ST at most one
abbrev pub turn_table : (three_leg_one four_leg_one four_leg_two signal_one signal_two : ℕ) → List (List ℕ)
turn_table three_leg_one four_leg_one four_leg_two signal_one signal_two =
    [] ∷ (1000 ∷ three_leg_one ∷ []) ∷ (1000 ∷ four_leg_one ∷ four_leg_two ∷ []) ∷ (1000 ∷ signal_one ∷ signal_two ∷ []) ∷ []

abbrev pub at_lanes : List (List ℕ) → (kind lanes : ℕ) → ℕ
at_lanes table kind lanes = get_or (get_or table kind []) lanes 1000

-- "Left-turn lanes one, two: 3ST 0.78; 4ST 0.76, 0.58; 4SG 0.82, 0.67"
abbrev pub left_turn_one : List (List ℕ)
left_turn_one = turn_table 780 760 580 820 670

-- "Right-turn: 3ST 0.95; 4ST 0.95, 0.90; 4SG 0.975, 0.95"
abbrev pub right_turn_one : List (List ℕ)
right_turn_one = turn_table 950 950 900 975 950

-- document 02, request 6: "Left-turn lanes: 3ST 0.56; 4ST 0.72, 0.52; 4SG 0.82, 0.67"
abbrev pub left_turn_two : List (List ℕ)
left_turn_two = turn_table 560 720 520 820 670

-- "Right-turn: 0.86; 0.86, 0.74; 0.96, 0.92"
abbrev pub right_turn_two : List (List ℕ)
right_turn_two = turn_table 860 860 740 960 920

-- "k is 0.31 segment, 0.54 3ST, 0.24 4ST, 0.11 4SG"
abbrev pub dispersion_by_kind : ℕ → Fraction
dispersion_by_kind kind = by_kind 31 54 24 11 kind ÷ 100

-- request 6: "A segment's k is 236 divided by its length in thousandths of a mile"
abbrev pub dispersion_by_length : ℕ → Fraction
dispersion_by_length length = 236 ÷ length

-- edition 1
unfoldable pub edition_one : Coefficients
edition_one = record {
  -- "e^(−0.4865)", "e^(−10.9)", "−9.34", "−5.73"
  base_exponent = by_kind 4865 109000 93400 57300;
  -- "the factor is 1 + 0.35(r − 1)"
  related_share = 350;
  overdispersion = λ kind length. dispersion_by_kind kind;
  -- each crash once
  crash_count = λ kind length. whole 1;
  -- "Grade: 1.016 to the power G": of up to six percent, and of what is above six, so that each fits 64 bits (`grade_is`)
  grade = λ percent. (127 ÷ 125) ^ᶠ min percent 6;
  steep_grade = λ percent. (127 ÷ 125) ^ᶠ (percent - 6);
  -- "(0.2 + c·DD)/(0.2 + 5c)", at any number of driveways
  driveway_constant = 200;
  fewest_driveways = 0;
  left_turn = at_lanes left_turn_one;
  right_turn = at_lanes right_turn_one;
}

-- edition 2, document 02, request 6: "Chapter 10 of the Highway Safety Manual, first edition"
unfoldable pub edition_two : Coefficients
edition_two = record {
  -- "base exponents −0.312, −9.86, −8.56 and −5.13"
  base_exponent = by_kind 3120 98600 85600 51300;
  -- "0.574 in place of 0.35 in the lane and shoulder factors only"
  related_share = 574;
  overdispersion = λ kind length. cond (eqb kind 0) (dispersion_by_length length) (dispersion_by_kind kind);
  -- "an observed crash on a segment counts 1 + k times"
  crash_count = λ kind length. cond (eqb kind 0) (whole 1 +ᶠ dispersion_by_length length) (whole 1);
  -- "Grade gives 1 up to 3 percent, 1.10 up to 6, and 1.16 above", in hundredths
  grade = λ percent. cond (leb percent 3) 100 (cond (leb percent 6) 110 116) ÷ 100;
  steep_grade = λ percent. whole 1;
  -- "0.322 in place of 0.2 in the driveway part, with fewer than 5 driveways giving 1"
  driveway_constant = 322;
  fewest_driveways = 5;
  left_turn = at_lanes left_turn_two;
  right_turn = at_lanes right_turn_two;
}

-- the coefficients of an edition: "Edition byte 2 selects it; edition 1 keeps document 01 as amended"; 3 refuses the others
unfoldable pub coefficients_of : (edition : ℕ) → Coefficients
coefficients_of edition = cond (leb edition 1) edition_one edition_two
