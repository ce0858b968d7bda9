-- Each factor of a valid site keeps its promise: it stands to its part's estimates, has its share of the width, and its bound.
use Rattle.std.specs.Prelude.{ℕ, zero, suc, ◌+◌, ◌-◌, ◌*◌, ◌/◌, ◌^◌, ◌≤◌, ◌<◌, ◌≡◌, refl, Bool, true, false, cond, List, [], ◌∷◌, ◌++◌, T, leb}
use Rattle.std.proofs.Common.{arith, lit<, lit≤}
use Rattle.laws.specs.Table.{all_below, all_below_lem}
use Rattle.estimate.specs.Fraction.{Fraction, fraction, ◌÷◌, whole}
use Rattle.estimate.specs.SignedExponent.{SignedExponent, Plus, Minus, size}
use Rattle.bracket.specs.declared.Bracket.{Bracket}
use Rattle.bracket.specs.Bracket.{RelativeWidth, exponential_width, power_width, logarithm_width}
use Rattle.bracket.specs.Ratio.{exactly, exactly_stands}
use Rattle.bracket.specs.WidthLaws.{in_parts}
use Rattle.bracket.specs.Pieces.{Piece, Kept, AllKept, exactly_narrow, bounds, has_room, grown, absolute_most}
use Rattle.exponential.specs.Exponential.{exp_bracket}
use Rattle.exponential.proofs.ExponentialLaws.{exp_promised}
use Rattle.exponential.specs.ExponentialMost.{sum_at_most}
use Rattle.exponential.proofs.ExponentialMost.{exp_below}
use Rattle.exponential.specs.StoredBrackets.{stored_bracket, stored_limit, stored_width, stored_at_most}
use Rattle.exponential.proofs.StoredBracketLaws.{stored_promised}
use Rattle.exponential.specs.StoredBracketLaws.{stored_high_bounds, stored_bounded}
use Rattle.power.specs.Power.{power_bracket}
use Rattle.power.proofs.PowerMost.{hundredths_standing, hundredths_below}
use Rattle.driveways.specs.DrivewayLaws.{driveways_stand, driveways_width, driveways_most_lem}
use Rattle.site.specs.declared.numbers.Segment.{Segment}
use Rattle.site.specs.declared.numbers.Crossing.{Crossing}
use Rattle.site.specs.Rules.{most_years}
use Rattle.site.specs.Tested.{by_kind}
use Rattle.site.specs.Numbers.{TrafficSizes, CurveSizes, SegmentSizes, CrossingSizes, by_crossing}
use Rattle.header.specs.Header.{most_calibration}
use Rattle.model.specs.Coefficients.{Coefficients}
use Rattle.model.specs.Crossings.{major_exponent, minor_exponent, skew_exponent}
use Rattle.model.specs.Parts.{power, exponential, base_exponent, hazard_exponent}
use Rattle.model.specs.Parts.{ExactFactor, Factor, Exact, Base, Hazard, Driveways, MajorTraffic, MinorTraffic, Skew}
use Rattle.model.specs.Parts.{straight_factors, curve_factors, segment_factors, crossing_factors}
use Rattle.model.specs.FactorBounds.{ExactSized, Bounded}
use Rattle.model.proofs.FactorBounds.{capped}
use Rattle.prediction.specs.Factors.{parts, width_share, hazard_most, skew_most, major_most, minor_most, piece_of, pieces_of}
use Rattle.prediction.specs.Pair.{unit}

-- A STATED WIDTH IN PARTS: each takes a whole number of them
in_shares : {r : ℕ} {b : Bracket} (width : ℕ) → parts / width * width ≡ parts → RelativeWidth width r b → RelativeWidth parts (width_share r width) b
in_shares width whole w = rw whole at (in_parts (parts / width) w)

power_shares : parts / power_width * power_width ≡ parts
unfolding power_width
power_shares = refl

exponential_shares : parts / exponential_width * exponential_width ≡ parts
unfolding exponential_width
exponential_shares = refl

logarithm_shares : parts / logarithm_width * logarithm_width ≡ parts
unfolding logarithm_width
logarithm_shares = refl

stored_shares : parts / stored_width * stored_width ≡ parts
unfolding stored_width
stored_shares = refl

-- STORED FACTORS: e^x for x of either sign up to 11
abbrev stored_piece : SignedExponent → Fraction → Piece
stored_piece x most = record {
  under = (exponential x).under;
  over = (exponential x).over;
  bracket = stored_bracket x;
  share = width_share 1 stored_width;
  most = most;
}

stored_kept : (x : SignedExponent) (most : Fraction) → size x ≤ stored_limit
    → (stored_bracket x).high_num * most.den ≤ most.num * (stored_bracket x).high_den
    → Kept parts (stored_piece x most)
stored_kept x most within bounded =
    let p = stored_promised x within in
    record { stands = p.stands; narrow = in_shares stored_width stored_shares p.width; bounded = bounded }

hazard_within : (rating : ℕ) → rating ≤ 7 → size (hazard_exponent rating) ≤ stored_limit
hazard_within rating to = by (leb 3 rating)
  where
    by : (b : Bool) → size (cond b (Plus (668 * (rating - 3))) (Minus (668 * (3 - rating)))) ≤ stored_limit
    by true = omega arith
    by false = omega arith

-- one test over the ratings
hazards_small : T (all_below (λ i. stored_at_most hazard_most (hazard_exponent (suc i))) 7)
unfolding all_below stored_at_most ◌÷◌
hazards_small = tt

hazard_small : (rating : ℕ) → 1 ≤ rating → rating ≤ 7 → T (stored_at_most hazard_most (hazard_exponent rating))
hazard_small zero from to = absurd (omega arith)
hazard_small (suc i) from to = all_below_lem (λ i. stored_at_most hazard_most (hazard_exponent (suc i))) 7 hazards_small i to

-- POWERS OF TRAFFIC, by kind: the five exponents are stored ones
abbrev power_piece : (traffic hundredths most : ℕ) → Piece
power_piece traffic hundredths most = record {
  under = (power traffic hundredths).under;
  over = (power traffic hundredths).over;
  bracket = power_bracket traffic hundredths 100;
  share = width_share 1 power_width;
  most = whole most;
}

-- 20,000^p is at most c^100
power_kept : (A p c : ℕ) → TrafficSizes A → p ≤ 100 → c < power_width → 20000 ^ p ≤ c ^ 100 → Kept parts (power_piece A p (c + 1))
unfolding whole fraction
power_kept A p c sizes part few h =
    let s = hundredths_standing A p sizes.least sizes.most part in
    record {
      stands = s.stands;
      narrow = in_shares power_width power_shares s.narrow;
      bounded = hundredths_below A p sizes.least sizes.most part c few h;
    }

module _ (kind A : ℕ) (from : 1 ≤ kind) (to : kind ≤ 3) (sizes : TrafficSizes A) where
  major_kept : Kept parts (power_piece A (major_exponent kind) (major_most kind))
  unfolding power_width
  major_kept =
      by_crossing (λ kind. Kept parts (power_piece A (major_exponent kind) (major_most kind)))
      (power_kept A 79 2500 sizes (lit≤ tt) (lit< tt) (lit≤ tt))
      (power_kept A 60 381 sizes (lit≤ tt) (lit< tt) (lit≤ tt))
      (power_kept A 60 381 sizes (lit≤ tt) (lit< tt) (lit≤ tt))
      kind from to

  minor_kept : Kept parts (power_piece A (minor_exponent kind) (minor_most kind))
  unfolding power_width
  minor_kept =
      by_crossing (λ kind. Kept parts (power_piece A (minor_exponent kind) (minor_most kind)))
      (power_kept A 49 129 sizes (lit≤ tt) (lit< tt) (lit≤ tt))
      (power_kept A 61 421 sizes (lit≤ tt) (lit< tt) (lit≤ tt))
      (power_kept A 20 8 sizes (lit≤ tt) (lit< tt) (lit≤ tt))
      kind from to

-- e^0.324 is below 1.383
pub skew_most_lem : (kind degrees : ℕ) → kind ≤ 3 → degrees ≤ 60 → skew_exponent kind * degrees ≤ 3240
skew_most_lem kind degrees l h = by_kind (λ kind. skew_exponent kind * degrees ≤ 3240) (omega arith) (omega arith) (omega arith) (omega arith) kind l

module _ (k : Coefficients) (kind degrees : ℕ) (l : kind ≤ 3) (h : degrees ≤ 60) where
  abbrev angle : ℕ
  angle = skew_exponent kind * degrees

  skew_below : (exp_bracket angle).high_num * skew_most.den ≤ skew_most.num * (exp_bracket angle).high_den
  unfolding exponential_width ◌÷◌ fraction sum_at_most
  skew_below = exp_below angle 3240 1383 1384 1000 (skew_most_lem kind degrees l h) (lit≤ tt) (lit< tt) (lit< tt) (lit≤ tt) tt

  skew_kept : Kept parts (piece_of k (Skew kind degrees))
  skew_kept =
      let p = exp_promised angle (omega (arith, skew_most_lem kind degrees l h)) in
      record { stands = p.stands; narrow = in_shares exponential_width exponential_shares p.width; bounded = skew_below }

-- THE ROOM of a start that goes through factors: every step fits 64 bits, the end is small, and the roundings add up to less than
-- two millionths
abbrev pub carried_most : ℕ
carried_most = 18000000000000000000

pub record Roomy (most : ℕ) (pieces : List Piece) : Type 0 where
  pub fits : T (has_room most (bounds pieces))
  pub small : grown most (bounds pieces) ≤ carried_most
  pub steps : absolute_most 0 (bounds pieces) ≤ 2 * unit

-- the largest start of a segment is 10 years, 9.999, 20,000 vehicles and 20 miles
abbrev pub segment_most : ℕ
segment_most = most_years * most_calibration * 20000 * 20000 * 73

abbrev pub crossing_most : ℕ
crossing_most = most_years * most_calibration * 200000000

-- WHAT AN EDITION MUST KEEP for its sites to be carried
pub record Rated (k : Coefficients) : Type 0 where
  pub bounded : Bounded k
  pub constant_least : 200 ≤ k.driveway_constant
  pub constant_most : k.driveway_constant ≤ 1000
  pub base_within : (kind : ℕ) → kind ≤ 3 → k.base_exponent kind ≤ stored_limit
  pub segment_room : (v : Segment) → Roomy segment_most (pieces_of k (segment_factors v))
  pub crossing_room : (v : Crossing) → 1 ≤ v.kind → v.kind ≤ 3 → Roomy crossing_most (pieces_of k (crossing_factors v))

-- EACH FACTOR whose numbers are within their ranges
abbrev pub FactorSized : Factor → Type 0
FactorSized (Exact factor) = ExactSized factor
FactorSized (Base kind) = kind ≤ 3
FactorSized (Hazard rating) = (1 ≤ rating) × (rating ≤ 7)
FactorSized (Driveways count traffic) = (count ≤ 50) × TrafficSizes traffic
FactorSized (MajorTraffic kind traffic) = (1 ≤ kind) × (kind ≤ 3) × TrafficSizes traffic
FactorSized (MinorTraffic kind traffic) = (1 ≤ kind) × (kind ≤ 3) × TrafficSizes traffic
FactorSized (Skew kind degrees) = (kind ≤ 3) × (degrees ≤ 60)

module _ (k : Coefficients) (rated : Rated k) where
  exact_kept : (factor : ExactFactor) → ExactSized factor → Kept parts (piece_of k (Exact factor))
  exact_kept factor s = record {
    stands = exactly_stands _;
    narrow = exactly_narrow parts _;
    bounded = unfold exactly in (capped k rated.bounded factor s).at_most.cross;
  }

  driveways_kept : (count traffic : ℕ) → count ≤ 50 → TrafficSizes traffic → Kept parts (piece_of k (Driveways count traffic))
  driveways_kept count traffic few sizes =
      let from = sizes.least in
      let to = sizes.most in
      let positive : 0 < k.driveway_constant = omega (arith, rated.constant_least) in
      record {
        stands = driveways_stand k count traffic from to positive;
        narrow = in_shares logarithm_width logarithm_shares (driveways_width k count traffic from to rated.constant_least few);
        bounded = driveways_most_lem k count traffic from to positive few;
      }

  factor_kept : (factor : Factor) → FactorSized factor → Kept parts (piece_of k factor)
  factor_kept (Exact factor) s = exact_kept factor s
  factor_kept (Base kind) s = stored_kept (base_exponent k kind) _ (rated.base_within kind s) (stored_high_bounds (base_exponent k kind))
  factor_kept (Hazard rating) s =
      let small = hazard_small rating s.0 s.1 in
      stored_kept (hazard_exponent rating) hazard_most (hazard_within rating s.1) (stored_bounded hazard_most (hazard_exponent rating) small)
  factor_kept (Driveways count traffic) s = driveways_kept count traffic s.0 s.1
  factor_kept (MajorTraffic kind traffic) s = major_kept kind traffic s.0 s.1 s.2
  factor_kept (MinorTraffic kind traffic) s = minor_kept kind traffic s.0 s.1 s.2
  factor_kept (Skew kind degrees) s = skew_kept k kind degrees s.0 s.1

-- ANY LIST OF FACTORS
abbrev pub AllSized : List Factor → Type 0
AllSized [] = Unit
AllSized (factor ∷ factors) = FactorSized factor × AllSized factors

pub all_kept : (k : Coefficients) → Rated k → (factors : List Factor) → AllSized factors → AllKept parts (pieces_of k factors)
all_kept k rated [] s = tt
all_kept k rated (factor ∷ factors) s = (factor_kept k rated factor s.0, all_kept k rated factors s.1)

sized_append : (xs ys : List Factor) → AllSized xs → AllSized ys → AllSized (xs ++ ys)
sized_append [] ys s t = t
sized_append (x ∷ xs) ys s t = (s.0, sized_append xs ys s.1 t)

-- A SITE'S, one fact after another
infixr 40 ◌∷ˢ◌
◌∷ˢ◌ : {A B : Type 0} → A → B → A × B
s ∷ˢ ss = (s, ss)

straight_sized : (v : Segment) → SegmentSizes v → AllSized (straight_factors v)
unfolding straight_factors
straight_sized v s =
    lit≤ tt ∷ˢ tt ∷ˢ s.type_most ∷ˢ s.grade_most ∷ˢ s.grade_most ∷ˢ tt ∷ˢ tt
    ∷ˢ (s.rating_least, s.rating_most) ∷ˢ (s.driveways_most_lem, s.traffic) ∷ˢ tt

curve_sized : (v : Segment) → CurveSizes v → AllSized (curve_factors v)
unfolding curve_factors
curve_sized v c = (c.length_least, c.radius_least) ∷ˢ c.deficiency_most ∷ˢ tt

pub segment_sized : (v : Segment) → SegmentSizes v → AllSized (segment_factors v)
unfolding segment_factors
segment_sized v s = sized_append (straight_factors v) _ (straight_sized v s) (bent v.curved refl)
  where
    bent : (curved : Bool) → v.curved ≡ curved → AllSized (cond curved (curve_factors v) [])
    bent true e = curve_sized v (s.bend e)
    bent false e = tt

pub crossing_sized : (v : Crossing) → CrossingSizes v → AllSized (crossing_factors v)
unfolding crossing_factors
crossing_sized v s =
    let from = s.kind_least in
    let to = s.kind_most in
    (from, to, s.traffic) ∷ˢ (from, to, s.minor) ∷ˢ tt ∷ˢ tt ∷ˢ s.sight_most ∷ˢ (to, s.skew_most_lem) ∷ˢ to ∷ˢ tt
