-- A site's predicted pair in millionths: a start that is exact in units of 1 / 200,000 of a millionth, carried through the
-- site's brackets, and rounded outward.
use Rattle.std.specs.Prelude.{Option, None, Some}
use Rattle.std.specs.Prelude.{ℕ, ◌+◌, ◌*◌, cond, List, [], ◌∷◌, eqb}
use Rattle.wide.specs.Scaling.{floor, ceiling}
use Rattle.bracket.specs.Carry.{carried}
use Rattle.site.specs.declared.values.Site.{Site}
use Rattle.model.specs.Coefficients.{Coefficients}
use Rattle.site.specs.declared.numbers.Segment.{Segment}
use Rattle.site.specs.declared.numbers.Crossing.{Crossing}
use Rattle.site.specs.Rules.{most_years}
use Rattle.site.specs.Numbers.{segment_of, crossing_of}
use Rattle.model.specs.Parts.{Factor, Term, segment_factors, crossing_factors}
use Rattle.header.specs.declared.Header.{Header}
use Rattle.model.specs.Predicted.{terms_of}
use Rattle.prediction.specs.Factors.{brackets_of}
use Rattle.bracket.specs.declared.Bounds.{Bounds}

-- units to a millionth
abbrev pub unit : ℕ
unit = 200000

-- Y × calibration × A × L × 0.000365, and Y × calibration, in units
abbrev pub segment_units : (years calibration : ℕ) → Segment → ℕ
segment_units years calibration v = years * calibration * v.traffic * v.length * 73

abbrev pub crossing_units : (years calibration : ℕ) → ℕ
crossing_units years calibration = years * calibration * 200000000

-- rounded outward to millionths; every valid site is carried (`predicted_stands`)
abbrev pub outward : Option (ℕ × ℕ) → Bounds
outward (Some (low, high)) = record { low = floor low 1 unit; high = ceiling high 1 unit }
outward None = record { low = 0; high = 0 }

-- a start carried through the brackets of factors
abbrev pub pair_of : Coefficients → (start : ℕ) → List Factor → Bounds
pair_of k start factors = outward (carried start start (brackets_of k factors))

-- the pair of one term
unfoldable pub segment_pair : Coefficients → (years calibration : ℕ) → Segment → Bounds
segment_pair k years calibration v = pair_of k (segment_units years calibration v) (segment_factors v)

unfoldable pub crossing_pair : Coefficients → (years calibration : ℕ) → Crossing → Bounds
crossing_pair k years calibration v = pair_of k (crossing_units years calibration) (crossing_factors v)

unfoldable pub term_pair : Coefficients → Header → Site → Term → Bounds
term_pair k header site term =
    cond (eqb site.kind 0)
    (segment_pair k term.years header.segments (segment_of term.traffic site))
    (crossing_pair k term.years header.crossings (crossing_of term.traffic term.minor site))

abbrev pub plus : Bounds → Bounds → Bounds
plus x y = record { low = x.low + y.low; high = x.high + y.high }

unfoldable pub sum_pair : Coefficients → Header → Site → List Term → Bounds
sum_pair k header site [] = record { low = 0; high = 0 }
sum_pair k header site (term ∷ terms) = plus (term_pair k header site term) (sum_pair k header site terms)

-- THE PREDICTED PAIR of a site
unfoldable pub predicted_pair : Coefficients → Header → Site → Bounds
predicted_pair k header site = sum_pair k header site (terms_of header site)

-- no number of a term's pair is above a hundred million crashes (`terms_stand`), and a site has at most one for each year
abbrev pub most_term : ℕ
most_term = 100000000000000

abbrev pub most_predicted : ℕ
most_predicted = most_years * most_term
