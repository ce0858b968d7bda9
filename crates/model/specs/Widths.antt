-- Lane and shoulder: values by column that change with the traffic, and the factor of the related crashes.
use Rattle.std.specs.Prelude.{ℕ, ◌+◌, ◌-◌, ◌*◌, ◌/◌, cond, List, [], ◌∷◌, get_or, ltb, leb}
use Rattle.estimate.specs.Fraction.{Fraction, ◌÷◌}
use Rattle.model.specs.Coefficients.{Coefficients}

-- width values are in hundred-millionths
abbrev pub width_unit : ℕ
width_unit = 100000000

-- a column of a width table: the value below A = 400, what each vehicle above 400 adds to it or takes from it, and the value
-- above 2,000
pub record Column : Type 0 where
  pub light : ℕ
  pub adds : ℕ
  pub takes : ℕ
  pub heavy : ℕ

abbrev pub column : (light adds takes heavy : ℕ) → Column
column light adds takes heavy = record { light = light; adds = adds; takes = takes; heavy = heavy }

-- "below A = 400 .. From 400 to 2,000 add .. times (A − 400). Above 2,000 .."
abbrev pub at_traffic : Column → ℕ → ℕ
at_traffic c traffic =
    cond (ltb traffic 400) c.light
    (cond (leb traffic 2000) ((c.light + c.adds * (traffic - 400)) - c.takes * (traffic - 400))
    c.heavy)

-- "Lane (9 or less, 10, 11, 12 or more feet): 1.05, 1.02, 1.01, 1.00 .. add 0.000281, 0.000175, 0.000025, 0 .. 1.50, 1.30, 1.05, 1.00"
abbrev pub lane_columns : List Column
lane_columns =
    column 105000000 28100 0 150000000
    ∷ column 102000000 17500 0 130000000
    ∷ column 101000000 2500 0 105000000
    ∷ column 100000000 0 0 100000000
    ∷ []

-- "Shoulder (0, 2, 4, 6, 8 or more feet): 1.10, 1.07, 1.02, 1.00, 0.98. .. add 0.00025, 0.000143, 0.00008125, 0, −0.00006875 ..
-- 1.50, 1.30, 1.15, 1.00, 0.87"
abbrev pub shoulder_columns : List Column
shoulder_columns =
    column 110000000 25000 0 150000000
    ∷ column 107000000 14300 0 130000000
    ∷ column 102000000 8125 0 115000000
    ∷ column 100000000 0 0 100000000
    ∷ column 98000000 0 6875 87000000
    ∷ []

-- "Type multiplier at the same five widths: paved all 1.00; gravel 1.00, 1.01, 1.01, 1.02, 1.02; composite 1.00, 1.02, 1.03,
-- 1.04, 1.06; turf 1.00, 1.03, 1.05, 1.08, 1.11", in hundredths
abbrev pub type_multipliers : List (List ℕ)
type_multipliers =
    (100 ∷ 100 ∷ 100 ∷ 100 ∷ 100 ∷ [])
    ∷ (100 ∷ 101 ∷ 101 ∷ 102 ∷ 102 ∷ [])
    ∷ (100 ∷ 102 ∷ 103 ∷ 104 ∷ 106 ∷ [])
    ∷ (100 ∷ 103 ∷ 105 ∷ 108 ∷ 111 ∷ [])
    ∷ []

-- past the last column
abbrev pub none : Column
none = column 0 0 0 0

-- the lane's column: 9 feet or less is the first, 12 or more the last
abbrev pub lane_column : ℕ → ℕ
lane_column feet = cond (leb feet 9) 0 (cond (leb feet 12) (feet - 9) 3)

-- the two columns that a shoulder stands between, which are one where it has a column of its own; from 8 feet on the last: "Nine
-- feet stays in the last column"
abbrev pub column_below : ℕ → ℕ
column_below feet = cond (leb 8 feet) 4 (feet / 2)

abbrev pub column_above : ℕ → ℕ
column_above feet = column_below (feet + 1)

-- document 02, request 2: "a width of 1, 3, 5 or 7 feet takes the mean of its two neighbours": twice the mean, so that nothing is
-- rounded
abbrev pub twice_mean : (ℕ → ℕ) → ℕ → ℕ
twice_mean value feet = value (column_below feet) + value (column_above feet)

-- r of the lane
unfoldable pub lane_value : (feet traffic : ℕ) → ℕ
lane_value feet traffic = at_traffic (get_or lane_columns (lane_column feet) none) traffic

-- what a column has for a width, and for a type in hundredths
abbrev pub width_at : (traffic column : ℕ) → ℕ
width_at traffic column = at_traffic (get_or shoulder_columns column none) traffic

abbrev pub type_at : (surface column : ℕ) → ℕ
type_at surface column = get_or (get_or type_multipliers surface []) column 0

-- "for the width value and for the type value, before the two are multiplied": each twice
unfoldable pub shoulder_value : (feet traffic : ℕ) → ℕ
shoulder_value feet traffic = twice_mean (width_at traffic) feet

unfoldable pub type_value : (surface feet : ℕ) → ℕ
type_value surface feet = twice_mean (type_at surface) feet

-- the unit of these two multiplied
abbrev pub shoulder_unit : ℕ
shoulder_unit = (2 * width_unit) * (2 * 100)

-- "1 + 0.35(r − 1)", which is 0.65 + 0.35 r for any r: of a share in thousandths and r / unit
abbrev pub of_related : (share r unit : ℕ) → Fraction
of_related share r unit = ((1000 - share) * unit + share * r) ÷ (1000 * unit)

unfoldable pub lane : Coefficients → (feet traffic : ℕ) → Fraction
lane k feet traffic = of_related k.related_share (lane_value feet traffic) width_unit

-- "The factor is 1 + 0.35(width value times type value − 1)"
unfoldable pub shoulder : Coefficients → (feet surface traffic : ℕ) → Fraction
shoulder k feet surface traffic = of_related k.related_share (shoulder_value feet traffic * type_value surface feet) shoulder_unit
