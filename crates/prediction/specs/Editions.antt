-- EACH EDITION keeps what its sites are carried by: computed tests of its base factors, and of the room of a segment, straight or
-- bent, and of each kind of crossing.
use Rattle.std.specs.Prelude.{ℕ, ◌*◌, ◌≤◌, ◌≡◌, refl, Bool, List, [], ◌++◌, T, leb}
use Rattle.std.proofs.Math.Bool.{true, false, cond}
use Rattle.std.proofs.Common.{arith}
use Rattle.std.proofs.Math.Dec.{leb→le}
use Rattle.laws.specs.Table.{both, both_left, both_right, all_below, all_below_lem}
use Rattle.estimate.specs.Fraction.{fraction, ◌÷◌, whole, ◌^ᶠ◌}
use Rattle.bracket.specs.Pieces.{Piece, bounds, has_room, grown, absolute_most}
use Rattle.exponential.specs.StoredBrackets.{stored_limit, stored_high}
use Rattle.site.specs.declared.numbers.Segment.{Segment}
use Rattle.site.specs.declared.numbers.Crossing.{Crossing}
use Rattle.site.specs.Numbers.{by_crossing}
use Rattle.model.specs.Coefficients.{Coefficients, edition_one, edition_two, coefficients_of}
use Rattle.model.specs.Editions.{by_edition}
use Rattle.model.specs.Parts.{straight_factors, curve_factors, segment_factors, crossing_factors}
use Rattle.model.specs.FactorBounds.{Bounded, edition_one_bounded, edition_two_bounded}
use Rattle.prediction.specs.Factors.{pieces_of}
use Rattle.prediction.specs.Pair.{unit}
use Rattle.prediction.specs.Kept.{carried_most, Roomy, Rated, segment_most, crossing_most}

-- the room of a start through factors, as a test
roomy : (most : ℕ) → List Piece → Bool
roomy most pieces =
    let ms = bounds pieces in
    both (has_room most ms) (both (leb (grown most ms) carried_most) (leb (absolute_most 0 ms) (2 * unit)))

roomy_by_test : {most : ℕ} {pieces : List Piece} → T (roomy most pieces) → Roomy most pieces
unfolding roomy
roomy_by_test {most} {pieces} t =
    let ms = bounds pieces in
    let rest = both_right (has_room most ms) _ t in
    record {
      fits = both_left (has_room most ms) _ t;
      small = leb→le _ _ (both_left (leb (grown most ms) carried_most) _ rest);
      steps = leb→le _ _ (both_right (leb (grown most ms) carried_most) _ rest);
    }

-- a base factor is within the range of stored ones
base_within : Coefficients → ℕ → Bool
base_within k kind = leb (k.base_exponent kind) stored_limit

-- ANY EDITION whose numbers pass these tests
module _ (k : Coefficients) (bounded : Bounded k) (least : T (leb 200 k.driveway_constant)) (most : T (leb k.driveway_constant 1000))
    (bases : T (all_below (base_within k) 4))
    (straight : (v : Segment) → T (roomy segment_most (pieces_of k (straight_factors v ++ []))))
    (bent : (v : Segment) → T (roomy segment_most (pieces_of k (straight_factors v ++ curve_factors v))))
    (crossing : (v : Crossing) → 1 ≤ v.kind → v.kind ≤ 3 → T (roomy crossing_most (pieces_of k (crossing_factors v)))) where
  segment_roomy : (v : Segment) → Roomy segment_most (pieces_of k (segment_factors v))
  unfolding segment_factors
  segment_roomy v = by v.curved
    where
      by : (curved : Bool) → Roomy segment_most (pieces_of k (straight_factors v ++ cond curved (curve_factors v) []))
      by true = roomy_by_test (bent v)
      by false = roomy_by_test (straight v)

  rated_by_tests : Rated k
  unfolding base_within
  rated_by_tests = record {
    bounded = bounded;
    constant_least = leb→le _ _ least;
    constant_most = leb→le _ _ most;
    base_within = λ kind h. leb→le _ _ (all_below_lem (base_within k) 4 bases kind (omega arith));
    segment_room = segment_roomy;
    crossing_room = λ v from to. roomy_by_test (crossing v from to);
  }

-- a crossing's test goes by its kind alone
by_its_kind : (k : Coefficients) (v : Crossing) → let Passes = T (roomy crossing_most (pieces_of k (crossing_factors v))) in
    (v.kind ≡ 1 → Passes) → (v.kind ≡ 2 → Passes) → (v.kind ≡ 3 → Passes) → 1 ≤ v.kind → v.kind ≤ 3 → Passes
by_its_kind k v three_leg four_leg signal from to =
    by_crossing (λ kind. v.kind ≡ kind → T (roomy crossing_most (pieces_of k (crossing_factors v)))) three_leg four_leg signal v.kind from to refl

edition_one_rated : Rated edition_one
unfolding edition_one all_below base_within stored_high roomy straight_factors curve_factors crossing_factors whole ◌÷◌ fraction ◌^ᶠ◌
edition_one_rated =
    rated_by_tests edition_one edition_one_bounded tt tt tt (λ v. tt) (λ v. tt)
    (λ v. by_its_kind edition_one v (λ e. rw e tt) (λ e. rw e tt) (λ e. rw e tt))

edition_two_rated : Rated edition_two
unfolding edition_two all_below base_within stored_high roomy straight_factors curve_factors crossing_factors whole ◌÷◌ fraction ◌^ᶠ◌
edition_two_rated =
    rated_by_tests edition_two edition_two_bounded tt tt tt (λ v. tt) (λ v. tt)
    (λ v. by_its_kind edition_two v (λ e. rw e tt) (λ e. rw e tt) (λ e. rw e tt))

pub edition_rated : (edition : ℕ) → Rated (coefficients_of edition)
edition_rated = by_edition Rated edition_one_rated edition_two_rated
