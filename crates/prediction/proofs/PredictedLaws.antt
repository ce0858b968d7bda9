-- Laws of PredictedLaws in specs/.
use Rattle.std.specs.Prelude.{ℕ, suc, ◌*◌, ◌≤◌, ◌≡◌, Bool, cond, length}
use Rattle.std.proofs.Math.Path.{refl}
use Rattle.std.proofs.Math.Bool.{true, false}
use mathlib.Core.List.{List, [], ◌∷◌, ◌++◌, map, map-map}
use Rattle.std.specs.Prelude.{Some}
use Rattle.std.proofs.Common.{mul-le-mul, mul-le-mul_right, pos_of_ne-zero, arith, lit<, lit≤, eqb-true}
use Rattle.std.proofs.Math.Dec.{eqb}
use Rattle.std.proofs.lemmas.Bool.{eqb-false}
use Rattle.estimate.specs.Fraction.{Fraction, fraction, ◌÷◌, whole, millionths, ◌+ᶠ◌}
use Rattle.estimate.specs.FractionLaws.{≤ᶠ-trans, =ᶠ-≤ᶠ, =ᶠ-≥ᶠ, +ᶠ-mono}
use Rattle.wide.specs.Rounding.{ceiling-≤}
use Rattle.bracket.specs.Bracket.{power_width, exponential_width, logarithm_width}
use Rattle.bracket.specs.WidthLaws.{narrow_in}
use Rattle.bracket.specs.Carry.{carried, relative_part}
use Rattle.bracket.specs.Pieces.{unders, overs, shares, product}
use Rattle.bracket.proofs.Pieces.{carried_ends}
use Rattle.exponential.specs.StoredBrackets.{stored_width}
use Rattle.site.specs.declared.values.Site.{Site}
use Rattle.site.specs.declared.numbers.Segment.{Segment}
use Rattle.site.specs.declared.numbers.Crossing.{Crossing}
use Rattle.site.specs.Rules.{most_years}
use Rattle.site.specs.Writing.{Valid}
use Rattle.site.specs.Numbers.{segment_of, crossing_of, segment_sizes, crossing_sizes}
use Rattle.model.specs.Coefficients.{Coefficients}
use Rattle.model.specs.Parts.{Part, Factor, Term, exact, part_of, parts_of, straight_factors, curve_factors, segment_factors, crossing_factors}
use Rattle.model.specs.Parts.{segment_start, segment_parts, crossing_start, crossing_parts}
use Rattle.header.specs.declared.Header.{Header}
use Rattle.header.specs.Header.{most_calibration}
use Rattle.header.specs.HeaderLaws.{HeaderWithin}
use Rattle.model.specs.Predicted.{terms_of, product_under, product_over, sum_under, sum_over, predicted_under, predicted_over}
use Rattle.model.specs.StatedWidths.{width_parts, predicted_each, sites_counted}
use Rattle.model.proofs.TermLaws.{sites_counted_lem, by_count}
use Rattle.prediction.specs.Factors.{parts, brackets_of, pieces_of}
use Rattle.prediction.specs.Pair.{unit, segment_units, crossing_units, pair_of, segment_pair, crossing_pair}
use Rattle.prediction.specs.Pair.{term_pair, plus, sum_pair, predicted_pair, most_term, most_predicted}
use Rattle.prediction.specs.Kept.{Rated, Roomy, AllSized, segment_most, crossing_most, all_kept, segment_sized, crossing_sized}
use Rattle.prediction.specs.Terms.{TermSizes, AllTerms, terms_sized}
use Rattle.bracket.specs.declared.Bounds.{Bounds}
use Rattle.prediction.specs.PredictedLaws.{PairStands, millionths_add}

-- THE LISTS of a factor's readings, of any factors
module _ (k : Coefficients) where
  unders_are : (d : ℕ) (factors : List Factor) → product_under d (map (part_of k) factors) ≡ product (unders d (pieces_of k factors))
  unfolding product_under product
  unders_are d [] = refl
  unders_are d (factor ∷ factors) = rw (unders_are d factors) refl

  overs_are : (d : ℕ) (factors : List Factor) → product_over d (map (part_of k) factors) ≡ product (overs d (pieces_of k factors))
  unfolding product_over product
  overs_are d [] = refl
  overs_are d (factor ∷ factors) = rw (overs_are d factors) refl

-- A START carried through factors: `units` of it are exactly `start`
module _ (k : Coefficients) (rated : Rated k) (start : Fraction) (units most : ℕ) (exactly_start : units * start.den ≡ start.num * (unit * 1000000))
    (few : units ≤ most) (factors : List Factor) (sized : AllSized factors) (roomy : Roomy most (pieces_of k factors))
    (shares_fit : width_parts * relative_part 0 (shares (pieces_of k factors)) ≤ parts) where
  abbrev start_parts : List Part
  start_parts = exact start ∷ map (part_of k) factors

  carried_stands : PairStands 1 (λ d. product_under d start_parts) (λ d. product_over d start_parts) (pair_of k units factors)
  unfolding product_under product_over millionths ◌÷◌ fraction
  carried_stands =
      let kept = all_kept k rated factors sized in
      let e = carried_ends parts 1000000 unit start (pieces_of k factors) units most (lit< tt) kept few roomy.fits exactly_start in
      let is : carried units units (brackets_of k factors) ≡ Some (e.low_end, e.high_end) = rw map-map at e.is in
      rw is (record {
        low_right = record { at = λ d l. rw (overs_are k d factors) (record { cross = e.low_right d l }) };
        high_right = record { at = λ d l. rw (unders_are k d factors) (record { cross = e.high_right d l }) };
        in_order = e.in_order;
        narrow = narrow_in parts width_parts predicted_each _ _ _ (lit< tt) shares_fit (e.narrow 2 roomy.steps);
        small = ceiling-≤ e.high_end 1 unit most_term (lit< tt) (omega (arith, e.small, roomy.small));
      })

-- A SEGMENT AND A CROSSING
segment_shares : (k : Coefficients) (v : Segment) → width_parts * relative_part 0 (shares (pieces_of k (segment_factors v))) ≤ parts
unfolding segment_factors straight_factors curve_factors stored_width logarithm_width
segment_shares k v = by v.curved
  where
    by : (curved : Bool) → width_parts * relative_part 0 (shares (pieces_of k (straight_factors v ++ cond curved (curve_factors v) []))) ≤ parts
    by true = lit≤ tt
    by false = lit≤ tt

crossing_shares : (k : Coefficients) (v : Crossing) → width_parts * relative_part 0 (shares (pieces_of k (crossing_factors v))) ≤ parts
unfolding crossing_factors power_width exponential_width stored_width
crossing_shares k v = lit≤ tt

module _ (k : Coefficients) (rated : Rated k) (edition years : ℕ) (site : Site) (valid : Valid edition years site) (term : Term) (sizes : TermSizes site term)
    (calibration : ℕ) (most : calibration ≤ most_calibration) where
  segment_stands : site.kind ≡ 0
      → PairStands 1 (λ d. product_under d (segment_parts k calibration site term)) (λ d. product_over d (segment_parts k calibration site term))
      (segment_pair k term.years calibration (segment_of term.traffic site))
  unfolding segment_parts segment_pair
  segment_stands e =
      let v = segment_of term.traffic site in
      let s = segment_sizes edition years site valid e term.traffic sizes.traffic in
      carried_stands k rated (segment_start calibration site term) (segment_units term.years calibration v) segment_most
      (unfold ◌÷◌ fraction in omega arith)
      (mul-le-mul_right 73 (mul-le-mul (mul-le-mul (mul-le-mul sizes.years_most most) sizes.traffic.most) s.length_most))
      (segment_factors v) (segment_sized v s) (rated.segment_room v) (segment_shares k v)

  crossing_stands : 1 ≤ site.kind
      → PairStands 1 (λ d. product_under d (crossing_parts k calibration site term)) (λ d. product_over d (crossing_parts k calibration site term))
      (crossing_pair k term.years calibration (crossing_of term.traffic term.minor site))
  unfolding crossing_parts crossing_pair
  crossing_stands from =
      let v = crossing_of term.traffic term.minor site in
      let s = crossing_sizes edition years site valid from term.traffic term.minor sizes.traffic (sizes.minor from) in
      carried_stands k rated (crossing_start calibration term) (crossing_units term.years calibration) crossing_most
      (unfold ◌÷◌ fraction in omega arith)
      (mul-le-mul_right 200000000 (mul-le-mul sizes.years_most most))
      (crossing_factors v) (crossing_sized v s) (rated.crossing_room v from s.kind_most) (crossing_shares k v)

-- SUMS: no term, and two sums
none_stands : PairStands 0 (λ d. whole 0) (λ d. whole 0) (record { low = 0; high = 0 })
unfolding millionths ◌÷◌ whole fraction
none_stands = record {
  low_right = record { at = λ d l. record { cross = lit≤ tt } };
  high_right = record { at = λ d l. record { cross = lit≤ tt } };
  in_order = lit≤ tt;
  narrow = record { width = lit≤ tt };
  small = lit≤ tt;
}

both_stand : {m : ℕ} {f g u v : ℕ → Fraction} {x y : Bounds} → PairStands 1 f u x → PairStands m g v y
    → PairStands (suc m) (λ d. f d +ᶠ g d) (λ d. u d +ᶠ v d) (plus x y)
both_stand {m} {f} {g} {u} {v} {x} {y} h k = record {
  low_right = record { at = λ d l. ≤ᶠ-trans (=ᶠ-≤ᶠ (millionths_add x.low y.low)) (+ᶠ-mono (h.low_right.at d l) (k.low_right.at d l)) };
  high_right = record { at = λ d l. ≤ᶠ-trans (+ᶠ-mono (h.high_right.at d l) (k.high_right.at d l)) (=ᶠ-≥ᶠ (millionths_add x.high y.high)) };
  in_order = omega (arith, h.in_order, k.in_order);
  narrow = record { width = omega (arith, h.narrow.width, k.narrow.width) };
  small = omega (arith, h.small, k.small);
}

-- A TERM OF ANY KIND
module _ (k : Coefficients) (rated : Rated k) (header : Header) (limits : HeaderWithin header) (site : Site)
    (valid : Valid header.edition header.years site) where
  term_stands : (term : Term) → TermSizes site term
      → PairStands 1 (λ d. product_under d (parts_of k header.segments header.crossings site term))
      (λ d. product_over d (parts_of k header.segments header.crossings site term)) (term_pair k header site term)
  unfolding term_pair
  term_stands term sizes = by (eqb site.kind 0) refl
    where
      by : (b : Bool) → eqb site.kind 0 ≡ b
          → PairStands 1 (λ d. product_under d (cond b (segment_parts k header.segments site term) (crossing_parts k header.crossings site term)))
          (λ d. product_over d (cond b (segment_parts k header.segments site term) (crossing_parts k header.crossings site term)))
          (cond b (segment_pair k term.years header.segments (segment_of term.traffic site))
          (crossing_pair k term.years header.crossings (crossing_of term.traffic term.minor site)))
      by true e = segment_stands k rated header.edition header.years site valid term sizes header.segments limits.segments_most (eqb-true site.kind 0 e)
      by false e =
          crossing_stands k rated header.edition header.years site valid term sizes header.crossings limits.crossings_most
          (pos_of_ne-zero (eqb-false site.kind 0 e))

  -- THE SUM OVER A SITE'S TERMS
  terms_stand : (terms : List Term) → AllTerms site terms
      → PairStands (length terms) (λ d. sum_under k header site d terms) (λ d. sum_over k header site d terms) (sum_pair k header site terms)
  unfolding sum_under sum_over sum_pair
  terms_stand [] h = none_stands
  terms_stand (term ∷ terms) h = both_stand (term_stands term h.0) (terms_stand terms h.1)

  -- THE THEOREM
  pub predicted_stands : PairStands (sites_counted header.years site) (predicted_under k header site) (predicted_over k header site)
      (predicted_pair k header site)
  unfolding predicted_under predicted_over predicted_pair
  predicted_stands = rw (sites_counted_lem header site limits.years_least) (terms_stand (terms_of header site) (terms_sized header limits site valid))

  pub predicted_small : (predicted_pair k header site).high ≤ most_predicted
  predicted_small =
      let most = by_count (λ count. count ≤ most_years) header.years site limits.years_most (lit≤ tt) in
      omega (arith, predicted_stands.small, most)
