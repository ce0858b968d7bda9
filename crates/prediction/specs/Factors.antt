-- The readings of a factor beside its estimates: its bracket, its share of the width, and a bound of it.
use Rattle.std.specs.Prelude.{ℕ, ◌*◌, ◌/◌, ◌^◌, List, map}
use Rattle.estimate.specs.Fraction.{Fraction, ◌÷◌, whole}
use Rattle.bracket.specs.declared.Bracket.{Bracket}
use Rattle.bracket.specs.Bracket.{power_width, exponential_width, logarithm_width}
use Rattle.bracket.specs.Ratio.{exactly}
use Rattle.bracket.specs.Pieces.{Piece}
use Rattle.exponential.specs.Exponential.{exp_bracket}
use Rattle.exponential.specs.StoredBrackets.{stored_bracket, stored_width, stored_high}
use Rattle.power.specs.Power.{power_bracket}
use Rattle.driveways.specs.Driveways.{driveways_of, driveways_most}
use Rattle.model.specs.Coefficients.{Coefficients, by_kind}
use Rattle.model.specs.Crossings.{major_exponent, minor_exponent, skew_exponent}
use Rattle.model.specs.Parts.{Factor, Exact, Base, Hazard, Driveways, MajorTraffic, MinorTraffic, Skew, exact_value, part_of, base_exponent, hazard_exponent}
use Rattle.model.specs.FactorBounds.{cap_of}

-- THE BRACKET of a factor
abbrev pub bracket_of : Coefficients → Factor → Bracket
bracket_of k (Exact factor) = exactly (exact_value k factor)
bracket_of k (Base kind) = stored_bracket (base_exponent k kind)
bracket_of k (Hazard rating) = stored_bracket (hazard_exponent rating)
bracket_of k (Driveways count traffic) = driveways_of k.driveway_constant k.fewest_driveways count traffic
bracket_of k (MajorTraffic kind traffic) = power_bracket traffic (major_exponent kind) 100
bracket_of k (MinorTraffic kind traffic) = power_bracket traffic (minor_exponent kind) 100
bracket_of k (Skew kind degrees) = exp_bracket (skew_exponent kind * degrees)

abbrev pub brackets_of : Coefficients → List Factor → List Bracket
brackets_of k factors = map (bracket_of k) factors

-- ITS SHARE OF THE WIDTH, in parts of the high, of which each stated width takes a whole number
abbrev pub parts : ℕ
parts = 10 ^ 12

-- r times a stated width of 1 / width
abbrev pub width_share : (r width : ℕ) → ℕ
width_share r width = parts / width * r

abbrev pub share_of : Factor → ℕ
share_of (Exact factor) = 0
share_of (Base kind) = width_share 1 stored_width
share_of (Hazard rating) = width_share 1 stored_width
share_of (Driveways count traffic) = width_share 2 logarithm_width
share_of (MajorTraffic kind traffic) = width_share 1 power_width
share_of (MinorTraffic kind traffic) = width_share 1 power_width
share_of (Skew kind degrees) = width_share 1 exponential_width

-- A BOUND of it: e^0.2672 is a little below the first, and the skew's e^0.324 below the second
abbrev pub hazard_most : Fraction
hazard_most = 1308 ÷ 1000

abbrev pub skew_most : Fraction
skew_most = 1384 ÷ 1000

-- the powers of traffic by kind: 20,000^0.79 is below 2,500, and so on
abbrev pub major_most : ℕ → ℕ
major_most = by_kind 1 2501 382 382

abbrev pub minor_most : ℕ → ℕ
minor_most = by_kind 1 130 422 9

abbrev pub most_of : Coefficients → Factor → Fraction
most_of k (Exact factor) = cap_of k factor
most_of k (Base kind) = stored_high (base_exponent k kind)
most_of k (Hazard rating) = hazard_most
most_of k (Driveways count traffic) = driveways_most k.driveway_constant
most_of k (MajorTraffic kind traffic) = whole (major_most kind)
most_of k (MinorTraffic kind traffic) = whole (minor_most kind)
most_of k (Skew kind degrees) = skew_most

-- ALL FOUR of a factor, and of a list
abbrev pub piece_of : Coefficients → Factor → Piece
piece_of k factor = record {
  under = (part_of k factor).under;
  over = (part_of k factor).over;
  bracket = bracket_of k factor;
  share = share_of factor;
  most = most_of k factor;
}

abbrev pub pieces_of : Coefficients → List Factor → List Piece
pieces_of k factors = map (piece_of k) factors
