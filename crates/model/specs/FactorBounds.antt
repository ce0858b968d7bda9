-- Each exact factor, over its valid range, is positive and at most a cap. A table's bounds are one computed test, and one law
-- carries it to the entries.
use Rattle.std.specs.Prelude.{ℕ, ◌+◌, ◌-◌, ◌*◌, ◌≤◌, ◌<◌, Bool, true, false, cond, List, [], ◌≡◌, refl, T, leb, ltb, get_or}
use Rattle.std.proofs.Common.{mul-le-mul_right, mul-le-mul_left, arith, ltb→lt, lit<, leb-true}
use Rattle.std.proofs.Math.Dec.{leb→le}
use Rattle.estimate.specs.Fraction.{Fraction, ◌≤ᶠ◌, fraction, ◌÷◌, whole, ◌^ᶠ◌, leᶠ}
use Rattle.estimate.specs.FractionLaws.{÷-num, ÷-den, leᶠ-sound}
use Rattle.laws.specs.Table.{both, both_left, both_right, all_of, entry_of, all_below, all_below_lem}
use Rattle.model.specs.Coefficients.{Coefficients, at_lanes, edition_one, left_turn_one, right_turn_one, edition_two, left_turn_two, right_turn_two}
use Rattle.model.specs.Widths.{Column, none, at_traffic, lane_columns, lane_column, lane_value}
use Rattle.model.specs.Widths.{shoulder_columns, width_at, type_at, shoulder_unit}
use Rattle.model.specs.Crossings.{left_turn, right_turn}
use Rattle.model.specs.Parts.{ExactFactor, Lane, Shoulder, Grade, SteepGrade, TwoWayLane, Passing, Curve, Superelevation}
use Rattle.model.specs.Parts.{LeftTurn, RightTurn, Sight}

-- a factor that is positive and at most a cap
pub record Capped (cap x : Fraction) : Type 0 where
  pub at_most : x ≤ᶠ cap
  pub positive : 0 < x.num

-- a quotient that is at most 1
pub one_within : (n d : ℕ) → 0 < d → 0 < n → n ≤ d → Capped (whole 1) (n ÷ d)
unfolding whole fraction
one_within n d hd hn l = record {
  at_most = record { cross = rw (÷-num n d, ÷-den n d hd) (omega arith) };
  positive = rw (÷-num n d) hn;
}

-- what holds of both choices, each where its test answers so, holds of the one that is taken
pub by_test : {A : Type 0} (P : A → Type 0) (test : Bool) {x y : A} → (test ≡ true → P x) → (test ≡ false → P y) → P (cond test x y)
by_test P true f g = f refl
by_test P false f g = g refl

-- WIDTHS

-- a bound of a column's values: what they rise to at 2,000 vehicles, or the value above, whichever is greater
abbrev pub highest : Column → ℕ
highest c = let rising = c.light + c.adds * 1600 in rising + (c.heavy - rising)

-- that of any column: 1.5, in the unit of widths
abbrev pub highest_value : ℕ
highest_value = 150000000

-- a column whose values are positive and at most that
pub record ColumnWithin (c : Column) : Type 0 where
  pub least : c.takes * 1600 < c.light
  pub heavy_least : 0 < c.heavy
  pub most : highest c ≤ highest_value

column_within : Column → Bool
column_within c = both (ltb (c.takes * 1600) c.light) (both (ltb 0 c.heavy) (leb (highest c) highest_value))

column_within_lem : (c : Column) → T (column_within c) → ColumnWithin c
unfolding column_within
column_within_lem c h =
    let heavy = both_right (ltb (c.takes * 1600) c.light) _ h in
    record {
      least = ltb→lt _ _ (both_left (ltb (c.takes * 1600) c.light) _ h);
      heavy_least = ltb→lt _ _ (both_left (ltb 0 c.heavy) _ heavy);
      most = leb→le _ _ (both_right (ltb 0 c.heavy) _ heavy);
    }

-- a value of a column
pub record ValueWithin (c : Column) (v : ℕ) : Type 0 where
  positive : 0 < v
  at_most : v ≤ highest c

value_within : (c : Column) (v : ℕ) → 0 < v → v ≤ highest c → ValueWithin c v
value_within c v least most = record { positive = least; at_most = most }

at_traffic_within : {c : Column} → ColumnWithin c → (traffic : ℕ) → ValueWithin c (at_traffic c traffic)
at_traffic_within {c} h traffic =
    by_test (ValueWithin c) (ltb traffic 400)
    (λ _. value_within c _ (omega (arith, h.least)) (omega arith))
    (λ _. by_test (ValueWithin c) (leb traffic 2000)
    (λ e. middle (leb-true _ _ e))
    (λ _. value_within c _ h.heavy_least (omega arith)))
  where
    middle : traffic ≤ 2000 → ValueWithin c ((c.light + c.adds * (traffic - 400)) - c.takes * (traffic - 400))
    middle to =
        let above : traffic - 400 ≤ 1600 = omega arith in
        value_within c _ (omega (arith, mul-le-mul_left c.takes above, h.least)) (omega (arith, mul-le-mul_left c.adds above))

-- every column of the lane and of the shoulder
lane_columns_lem : T (all_below (λ i. column_within (get_or lane_columns i none)) 4)
unfolding all_below column_within
lane_columns_lem = tt

shoulder_columns_lem : T (all_below (λ i. column_within (get_or shoulder_columns i none)) 5)
unfolding all_below column_within
shoulder_columns_lem = tt

pub lane_column_below : (feet : ℕ) → lane_column feet < 4
lane_column_below feet =
    by_test (λ i. i < 4) (leb feet 9) (λ _. lit< tt) (λ _. by_test (λ i. i < 4) (leb feet 12) (λ e. omega (arith, leb-true feet 12 e)) (λ _. lit< tt))

pub lane_column_within : (feet : ℕ) → ColumnWithin (get_or lane_columns (lane_column feet) none)
lane_column_within feet = column_within_lem _ (all_below_lem _ 4 lane_columns_lem (lane_column feet) (lane_column_below feet))

-- r of the lane
pub lane_value_within : (feet traffic : ℕ) → (0 < lane_value feet traffic) × (lane_value feet traffic ≤ highest_value)
unfolding lane_value
lane_value_within feet traffic =
    let c = lane_column_within feet in
    let v = at_traffic_within c traffic in
    (v.positive, omega (arith, v.at_most, c.most))

pub shoulder_column_within : (i : ℕ) → i < 5 → ColumnWithin (get_or shoulder_columns i none)
shoulder_column_within i h = column_within_lem _ (all_below_lem _ 5 shoulder_columns_lem i h)

-- two sums, both positive, whose product, r of a shoulder in its unit, is at most 1.5
pub record MeansWithin (width multiplier : ℕ) : Type 0 where
  pub width_positive : 0 < width
  pub multiplier_positive : 0 < multiplier
  pub at_most : 2 * (width * multiplier) ≤ 3 * shoulder_unit

-- the widths of any two columns, at their highest, and a type's multipliers at both
abbrev highest_at : ℕ → ℕ
highest_at i = highest (get_or shoulder_columns i none)

abbrev highest_means : (surface i j : ℕ) → ℕ
highest_means surface i j = (highest_at i + highest_at j) * (type_at surface i + type_at surface j)

means_within : (surface i j : ℕ) → Bool
means_within surface i j = both (ltb 0 (type_at surface i)) (leb (2 * highest_means surface i j) (3 * shoulder_unit))

shoulder_means : T (all_below (λ surface. all_below (λ i. all_below (λ j. means_within surface i j) 5) 5) 4)
unfolding all_below means_within
shoulder_means = tt

pub means_within_lem : (surface i j traffic : ℕ) → surface ≤ 3 → i < 5 → j < 5
    → MeansWithin (width_at traffic i + width_at traffic j) (type_at surface i + type_at surface j)
unfolding means_within
means_within_lem surface i j traffic s hi hj =
    let t : T (means_within surface i j) = all_below_lem _ 5 (all_below_lem _ 5 (all_below_lem _ 4 shoulder_means surface (omega arith)) i hi) j hj in
    let weight = ltb→lt 0 (type_at surface i) (both_left (ltb 0 (type_at surface i)) _ t) in
    let most = leb→le (2 * highest_means surface i j) (3 * shoulder_unit) (both_right (ltb 0 (type_at surface i)) _ t) in
    let v = at_traffic_within (shoulder_column_within i hi) traffic in
    let w = at_traffic_within (shoulder_column_within j hj) traffic in
    let sum : width_at traffic i + width_at traffic j ≤ highest_at i + highest_at j = omega (arith, v.at_most, w.at_most) in
    record {
      width_positive = omega (arith, v.positive);
      multiplier_positive = omega (arith, weight);
      at_most = omega (arith, mul-le-mul_right (type_at surface i + type_at surface j) sum, most);
    }

-- an r of at most 1.5 makes a factor of at most 1 + share / 2
abbrev pub related_most : Coefficients → Fraction
related_most k = (2000 + k.related_share) ÷ 2000

-- an edition's grade up to 12 percent, by one test for each of its two factors
grade_within : (ℕ → Fraction) → ℕ → Bool
grade_within grade percent = both (leᶠ (grade percent) (grade 12)) (ltb 0 (grade percent).num)

grade_by_test : (grade : ℕ → Fraction) → T (all_below (grade_within grade) 13) → (percent : ℕ) → percent ≤ 12 → Capped (grade 12) (grade percent)
unfolding grade_within
grade_by_test grade tested percent h =
    let t = all_below_lem (grade_within grade) 13 tested percent (omega arith) in
    record {
      at_most = leᶠ-sound _ _ (both_left (leᶠ (grade percent) (grade 12)) _ t);
      positive = ltb→lt _ _ (both_right (leᶠ (grade percent) (grade 12)) _ t);
    }

-- a part of a whole: from 1 to `unit` of its units
unfoldable pub is_part : (unit part : ℕ) → Bool
is_part unit part = both (ltb 0 part) (leb part unit)

pub part_within : (unit part : ℕ) → T (is_part unit part) → Capped (whole 1) (part ÷ unit)
unfolding is_part
part_within unit part t =
    let least = ltb→lt _ _ (both_left (ltb 0 part) _ t) in
    let most = leb→le _ _ (both_right (ltb 0 part) _ t) in
    one_within part unit (omega arith) least most

-- a table of thousandths by kind and count of lanes
turn_within : (table : List (List ℕ)) → T (all_of (all_of (is_part 1000)) table) → (kind lanes : ℕ) → Capped (whole 1) (at_lanes table kind lanes ÷ 1000)
unfolding is_part all_of
turn_within table t kind lanes =
    part_within 1000 _ (entry_of (is_part 1000) 1000 tt (get_or table kind []) (entry_of (all_of (is_part 1000)) [] tt table t kind) lanes)

-- ANY EXACT FACTOR

-- the bound of each; a grade's is that of 12 percent
abbrev pub cap_of : Coefficients → ExactFactor → Fraction
cap_of k (Lane feet traffic) = related_most k
cap_of k (Shoulder feet surface traffic) = related_most k
cap_of k (Grade percent) = k.grade 12
cap_of k (SteepGrade percent) = k.steep_grade 12
cap_of k (TwoWayLane present count) = whole 1
cap_of k (Passing kind) = whole 1
cap_of k (Curve length radius spirals) = 51842 ÷ 100
cap_of k (Superelevation deficiency) = 13 ÷ 10
cap_of k (LeftTurn kind lanes) = whole 1
cap_of k (RightTurn kind lanes) = whole 1
cap_of k (Sight quadrants) = 6 ÷ 5

-- the numbers for which it holds
abbrev pub ExactSized : ExactFactor → Type 0
ExactSized (Lane feet traffic) = Unit
ExactSized (Shoulder feet surface traffic) = surface ≤ 3
ExactSized (Grade percent) = percent ≤ 12
ExactSized (SteepGrade percent) = percent ≤ 12
ExactSized (TwoWayLane present count) = Unit
ExactSized (Passing kind) = Unit
ExactSized (Curve length radius spirals) = (1 ≤ length) × (100 ≤ radius)
ExactSized (Superelevation deficiency) = deficiency ≤ 100
ExactSized (LeftTurn kind lanes) = Unit
ExactSized (RightTurn kind lanes) = Unit
ExactSized (Sight quadrants) = quadrants ≤ 4

-- what an edition keeps
pub record Bounded (k : Coefficients) : Type 0 where
  pub share_most : k.related_share ≤ 1000
  pub grade : (percent : ℕ) → percent ≤ 12 → Capped (k.grade 12) (k.grade percent)
  pub steep_grade : (percent : ℕ) → percent ≤ 12 → Capped (k.steep_grade 12) (k.steep_grade percent)
  pub left_turn : (kind lanes : ℕ) → Capped (whole 1) (left_turn k kind lanes)
  pub right_turn : (kind lanes : ℕ) → Capped (whole 1) (right_turn k kind lanes)

-- by tests of its numbers and tables
module _ (k : Coefficients) (share : T (leb k.related_share 1000))
    (grades : T (all_below (grade_within k.grade) 13)) (steep_grades : T (all_below (grade_within k.steep_grade) 13))
    (left right : List (List ℕ)) (left_is : k.left_turn ≡ at_lanes left) (right_is : k.right_turn ≡ at_lanes right)
    (lefts : T (all_of (all_of (is_part 1000)) left)) (rights : T (all_of (all_of (is_part 1000)) right)) where
  bounded_by_tests : Bounded k
  unfolding left_turn right_turn
  bounded_by_tests = record {
    share_most = leb→le _ _ share;
    grade = grade_by_test k.grade grades;
    steep_grade = grade_by_test k.steep_grade steep_grades;
    left_turn = λ kind lanes. rw left_is (turn_within left lefts kind lanes);
    right_turn = λ kind lanes. rw right_is (turn_within right rights kind lanes);
  }

pub edition_one_bounded : Bounded edition_one
unfolding all_below grade_within leᶠ is_part all_of edition_one whole ◌^ᶠ◌ ◌÷◌ fraction
edition_one_bounded = bounded_by_tests edition_one tt tt tt left_turn_one right_turn_one refl refl tt tt

pub edition_two_bounded : Bounded edition_two
unfolding all_below grade_within leᶠ is_part all_of edition_two whole ◌^ᶠ◌ ◌÷◌ fraction
edition_two_bounded = bounded_by_tests edition_two tt tt tt left_turn_two right_turn_two refl refl tt tt
