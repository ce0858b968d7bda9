-- A site's prediction as a list of factors, and the parts that they stand for, each with its under- and over-estimate at depth d.
use Rattle.std.specs.Prelude.{ℕ, ◌-◌, ◌*◌, cond, List, [], ◌∷◌, ◌++◌, map, leb, eqb}
use Rattle.estimate.specs.Fraction.{Fraction, ◌÷◌, whole, lesser, greater}
use Rattle.estimate.specs.Power.{power_under, power_over}
use Rattle.estimate.specs.SignedExponent.{SignedExponent, Plus, Minus, signed_exp_under, signed_exp_over}
use Rattle.estimate.specs.Logarithm.{ln_under, ln_over}
use Rattle.site.specs.declared.values.Site.{Site}
use Rattle.site.specs.declared.numbers.Segment.{Segment}
use Rattle.site.specs.declared.numbers.Crossing.{Crossing}
use Rattle.site.specs.Numbers.{number, segment_of, crossing_of}
use Rattle.model.specs.Coefficients.{Coefficients}
use Rattle.model.specs.Widths.{lane, shoulder}
use Rattle.model.specs.Alignment.{curve, superelevation}
use Rattle.model.specs.Access.{two_way_lane, passing, driveway_part}
use Rattle.model.specs.Crossings.{left_turn, right_turn, sight, major_exponent, minor_exponent, skew_exponent}

-- "A value that is no fraction has an under-estimate and an over-estimate"
pub record Part : Type 0 where
  pub under : ℕ → Fraction
  pub over : ℕ → Fraction

-- an exact factor is its own estimate
abbrev pub exact : Fraction → Part
exact x = record { under = λ d. x; over = λ d. x }

-- A^(p/100)
abbrev pub power : (traffic hundredths : ℕ) → Part
power traffic hundredths = record { under = λ d. power_under d traffic hundredths 100; over = λ d. power_over d traffic hundredths 100 }

-- e^x and e^(-x), x in ten-thousandths
abbrev pub exponential : SignedExponent → Part
exponential x = record { under = λ d. signed_exp_under d x; over = λ d. signed_exp_over d x }

-- a base factor's exponent is below 0
abbrev pub base_exponent : Coefficients → (kind : ℕ) → SignedExponent
base_exponent k kind = Minus (k.base_exponent kind)

-- "e^(0.0668(RHR − 3))": a rating below 3 has a negative exponent
abbrev pub hazard_exponent : (rating : ℕ) → SignedExponent
hazard_exponent rating = cond (leb 3 rating) (Plus (668 * (rating - 3))) (Minus (668 * (3 - rating)))

-- "the driveway part takes the lesser of its two values at ln's estimates. Over takes .. the greater of the two"
abbrev pub driveways : Coefficients → (count traffic : ℕ) → Part
driveways k count traffic = record {
  under = λ d. lesser (driveway_part k count (ln_under d (whole traffic))) (driveway_part k count (ln_over d (whole traffic)));
  over = λ d. greater (driveway_part k count (ln_under d (whole traffic))) (driveway_part k count (ln_over d (whole traffic)));
}

-- AN EXACT FACTOR by its name and the numbers that it is made of, and its value
pub data ExactFactor : Type 0 where
  Lane : (feet traffic : ℕ) → ExactFactor
  Shoulder : (feet surface traffic : ℕ) → ExactFactor
  Grade : (percent : ℕ) → ExactFactor
  SteepGrade : (percent : ℕ) → ExactFactor
  TwoWayLane : (present driveways : ℕ) → ExactFactor
  Passing : (kind : ℕ) → ExactFactor
  Curve : (length radius spirals : ℕ) → ExactFactor
  Superelevation : (deficiency : ℕ) → ExactFactor
  LeftTurn : (kind lanes : ℕ) → ExactFactor
  RightTurn : (kind lanes : ℕ) → ExactFactor
  Sight : (quadrants : ℕ) → ExactFactor

abbrev pub exact_value : Coefficients → ExactFactor → Fraction
exact_value k (Lane feet traffic) = lane k feet traffic
exact_value k (Shoulder feet surface traffic) = shoulder k feet surface traffic
exact_value k (Grade percent) = k.grade percent
exact_value k (SteepGrade percent) = k.steep_grade percent
exact_value k (TwoWayLane present count) = two_way_lane present count
exact_value k (Passing kind) = passing kind
exact_value k (Curve length radius spirals) = curve length radius spirals
exact_value k (Superelevation deficiency) = superelevation deficiency
exact_value k (LeftTurn kind lanes) = left_turn k kind lanes
exact_value k (RightTurn kind lanes) = right_turn k kind lanes
exact_value k (Sight quadrants) = sight quadrants

-- A FACTOR of any sort, and its estimates
pub data Factor : Type 0 where
  Exact : ExactFactor → Factor
  Base : (kind : ℕ) → Factor
  Hazard : (rating : ℕ) → Factor
  Driveways : (count traffic : ℕ) → Factor
  MajorTraffic : (kind traffic : ℕ) → Factor
  MinorTraffic : (kind traffic : ℕ) → Factor
  Skew : (kind degrees : ℕ) → Factor

abbrev pub part_of : Coefficients → Factor → Part
part_of k (Exact factor) = exact (exact_value k factor)
part_of k (Base kind) = exponential (base_exponent k kind)
part_of k (Hazard rating) = exponential (hazard_exponent rating)
part_of k (Driveways count traffic) = driveways k count traffic
part_of k (MajorTraffic kind traffic) = power traffic (major_exponent kind)
part_of k (MinorTraffic kind traffic) = power traffic (minor_exponent kind)
part_of k (Skew kind degrees) = exponential (Plus (skew_exponent kind * degrees))

-- "e^(−0.4865) × the factors × e^(0.0668(RHR − 3)) × (0.2 + c·DD)/(0.2 + 5c)" of every road; its two factors of a grade are
-- document 01's power of 1.016 (`grade_is`)
unfoldable pub straight_factors : Segment → List Factor
straight_factors v =
    Base 0
    ∷ Exact (Lane v.lane_width v.traffic)
    ∷ Exact (Shoulder v.shoulder_width v.shoulder_type v.traffic)
    ∷ Exact (Grade v.grade)
    ∷ Exact (SteepGrade v.grade)
    ∷ Exact (TwoWayLane v.two_way_lane v.driveways)
    ∷ Exact (Passing v.passing)
    ∷ Hazard v.hazard_rating
    ∷ Driveways v.driveways v.traffic
    ∷ []

unfoldable pub curve_factors : Segment → List Factor
curve_factors v = Exact (Curve v.curve_length v.radius v.spiral_ends) ∷ Exact (Superelevation v.deficiency) ∷ []

-- a straight road has neither of a curve's factors
unfoldable pub segment_factors : Segment → List Factor
segment_factors v = straight_factors v ++ cond v.curved (curve_factors v) []

-- "e^(−10.9) × A^0.79 × B^0.49 × factors × e^(0.0040 skew)", the base factor last
unfoldable pub crossing_factors : Crossing → List Factor
crossing_factors v =
    MajorTraffic v.kind v.traffic
    ∷ MinorTraffic v.kind v.minor
    ∷ Exact (LeftTurn v.kind v.left_lanes)
    ∷ Exact (RightTurn v.kind v.right_lanes)
    ∷ Exact (Sight v.limited_sight)
    ∷ Skew v.kind v.skew
    ∷ Base v.kind
    ∷ []

-- The years that one traffic stands for, with the major and the minor traffic of a day
pub record Term : Type 0 where
  pub years : ℕ
  pub traffic : ℕ
  pub minor : ℕ

-- the term of three numbers
abbrev pub term_at : (years traffic minor : ℕ) → Term
term_at years traffic minor = record { years = years; traffic = traffic; minor = minor }

-- "segment: Y × calibration × A × L in miles × 0.000365 × .." the factors, at the traffic of a term
abbrev pub segment_start : (calibration : ℕ) → Site → Term → Fraction
segment_start calibration site term = (term.years * calibration * term.traffic * number site.length * 365) ÷ 1000000000000

unfoldable pub segment_parts : Coefficients → (calibration : ℕ) → Site → Term → List Part
segment_parts k calibration site term =
    exact (segment_start calibration site term) ∷ map (part_of k) (segment_factors (segment_of term.traffic site))

-- "3ST: Y × calibration × .." the factors; "4ST: the same with ..; 4SG: .., no skew"
abbrev pub crossing_start : (calibration : ℕ) → Term → Fraction
crossing_start calibration term = (term.years * calibration) ÷ 1000

unfoldable pub crossing_parts : Coefficients → (calibration : ℕ) → Site → Term → List Part
crossing_parts k calibration site term =
    exact (crossing_start calibration term) ∷ map (part_of k) (crossing_factors (crossing_of term.traffic term.minor site))

abbrev pub parts_of : Coefficients → (segments crossings : ℕ) → Site → Term → List Part
parts_of k segments crossings site term = cond (eqb site.kind 0) (segment_parts k segments site term) (crossing_parts k crossings site term)
