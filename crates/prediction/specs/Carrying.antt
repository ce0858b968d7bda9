-- What the code takes from the factors: the place of each exponent, a start's products, the list of factors that it went through,
-- and the sum over a site's terms.
use Rattle.std.specs.Prelude.{Option, Some}
use Rattle.std.specs.Prelude.{ℕ, ◌*◌, ◌≤◌, ◌<◌, ◌≡◌, refl, true, false, List}
use Rattle.std.proofs.Common.{◌∙◌, mul-le-mul, lit<}
use borrow.Author.Tests.{eq-eqb, ne_eqb}
use Rattle.bracket.specs.declared.Bracket.{Bracket}
use Rattle.bracket.specs.Carry.{carried, carried_on, one_by_one}
use Rattle.bracket.specs.CarryLaws.{one_by_one_lem, carried_append}
use Rattle.power.specs.Exponents.{exponent_at}
use Rattle.power.specs.Power.{power_bracket}
use Rattle.site.specs.declared.values.Site.{Site}
use Rattle.site.specs.declared.numbers.Segment.{Segment}
use Rattle.site.specs.declared.numbers.Crossing.{Crossing}
use Rattle.site.specs.Rules.{most_years}
use Rattle.site.specs.Numbers.{segment_of, crossing_of, by_crossing}
use Rattle.model.specs.Coefficients.{Coefficients, by_kind}
use Rattle.model.specs.Crossings.{major_exponent, minor_exponent}
use Rattle.model.specs.Parts.{Factor, Term, straight_factors, curve_factors, segment_factors, crossing_factors}
use Rattle.header.specs.declared.Header.{Header}
use Rattle.header.specs.Header.{most_calibration}
use Rattle.prediction.specs.Factors.{brackets_of}
use Rattle.prediction.specs.Pair.{segment_units, crossing_units, pair_of, segment_pair, crossing_pair, term_pair}

-- by kind, the places of the exponents of major and minor traffic among the powers' five; a segment has none
abbrev pub major_place : ℕ → ℕ
major_place = by_kind 5 0 2 2

abbrev pub minor_place : ℕ → ℕ
minor_place = by_kind 5 1 3 4

pub record Placed (place exponent : ℕ) : Type 0 where
  pub below : place < 5
  pub is : exponent_at place ≡ exponent

pub major_placed : (kind : ℕ) → 1 ≤ kind → kind ≤ 3 → Placed (major_place kind) (major_exponent kind)
major_placed =
    by_crossing (λ kind. Placed (major_place kind) (major_exponent kind))
    (record { below = lit< tt; is = refl })
    (record { below = lit< tt; is = refl })
    (record { below = lit< tt; is = refl })

pub minor_placed : (kind : ℕ) → 1 ≤ kind → kind ≤ 3 → Placed (minor_place kind) (minor_exponent kind)
minor_placed =
    by_crossing (λ kind. Placed (minor_place kind) (minor_exponent kind))
    (record { below = lit< tt; is = refl })
    (record { below = lit< tt; is = refl })
    (record { below = lit< tt; is = refl })

-- the power at a place is that of its exponent
pub placed_power : (A : ℕ) {place exponent at : ℕ} {r : Bracket} → Placed place exponent → at ≡ place → r ≡ power_bracket A (exponent_at at) 100
    → r ≡ power_bracket A exponent 100
placed_power A p i e = rw (i, p.is) at e

-- each product on the way to a segment's start fits
pub record StartRoom (years calibration traffic length : ℕ) : Type 0 where
  pub first : years * calibration ≤ 99990
  pub second : years * calibration * traffic ≤ 1999800000
  pub third : years * calibration * traffic * length ≤ 39996000000000

pub start_room : {years calibration traffic length : ℕ} → years ≤ most_years → calibration ≤ most_calibration → traffic ≤ 20000 → length ≤ 20000
    → StartRoom years calibration traffic length
start_room y c a l = record { first = mul-le-mul y c; second = mul-le-mul (mul-le-mul y c) a; third = mul-le-mul (mul-le-mul (mul-le-mul y c) a) l }

-- ONE FACTOR AFTER ANOTHER is the list of them
pub through_all : (k : Coefficients) (a : Option (ℕ × ℕ)) (factors : List Factor) {r : Option (ℕ × ℕ)} → r ≡ one_by_one a (brackets_of k factors)
    → r ≡ carried_on a (brackets_of k factors)
through_all k a factors e = e ∙ one_by_one_lem (brackets_of k factors) a

-- a straight road's factors are all, and a curve's two come after them
module _ (k : Coefficients) (v : Segment) (start : ℕ) where
  pub straight_carried : v.curved ≡ false
      → carried start start (brackets_of k (straight_factors v)) ≡ carried start start (brackets_of k (segment_factors v))
  unfolding segment_factors straight_factors
  straight_carried e = rw e

  pub curve_carried : v.curved ≡ true
      → carried_on (carried start start (brackets_of k (straight_factors v))) (brackets_of k (curve_factors v))
      ≡ carried start start (brackets_of k (segment_factors v))
  unfolding segment_factors straight_factors curve_factors
  curve_carried e =
      rw e (carried_append (brackets_of k (straight_factors v)) (brackets_of k (curve_factors v)) (Some (start, start)))

-- THE PAIR of a term is that of its kind's numbers
module _ (k : Coefficients) (header : Header) (site : Site) (term : Term) where
  pub segment_pair_lem : {v : Segment} → v ≡ segment_of term.traffic site → site.kind ≡ 0
      → pair_of k (segment_units term.years header.segments v) (segment_factors v) ≡ term_pair k header site term
  unfolding term_pair segment_pair
  segment_pair_lem i e = rw (i, eq-eqb site.kind 0 e)

  pub crossing_pair_lem : {v : Crossing} → v ≡ crossing_of term.traffic term.minor site → (site.kind ≡ 0 → ⊥)
      → pair_of k (crossing_units term.years header.crossings) (crossing_factors v) ≡ term_pair k header site term
  unfolding term_pair crossing_pair
  crossing_pair_lem i f = rw (i, ne_eqb site.kind 0 f)
