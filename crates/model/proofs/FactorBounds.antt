-- Laws of FactorBounds in specs/.
use Rattle.std.specs.Prelude.{ℕ, ◌+◌, ◌-◌, ◌*◌, ◌≤◌, ◌<◌, ◌&&◌, [], ◌∷◌, ◌≡◌, leb, ltb, eqb}
use Rattle.std.proofs.Common.{ap, mul-pos, mul-le-mul, mul-le-mul_left, arith, lit<, lit≤, leb-true}
use Rattle.estimate.specs.Fraction.{fraction, ◌÷◌, whole}
use Rattle.estimate.specs.FractionLaws.{÷-num, ÷-den, ≤ᶠ-refl}
use Rattle.laws.specs.Table.{all_of, entry_of}
use Rattle.model.specs.Coefficients.{Coefficients}
use Rattle.model.specs.Widths.{width_unit, lane_value, of_related, lane}
use Rattle.model.specs.Widths.{shoulder_value, type_value, shoulder_unit, shoulder}
use Rattle.model.proofs.Neighbours.{columns_few}
use Rattle.model.specs.Alignment.{curve, superelevation}
use Rattle.model.specs.Access.{access_density, two_way_lane, passing}
use Rattle.model.specs.Crossings.{sight}
use Rattle.model.specs.Parts.{ExactFactor, Lane, Shoulder, Grade, SteepGrade, TwoWayLane, Passing, Curve, Superelevation}
use Rattle.model.specs.Parts.{LeftTurn, RightTurn, Sight, exact_value}
use Rattle.model.specs.FactorBounds.{Bounded, Capped, ExactSized, MeansWithin, by_test, cap_of, is_part, lane_value_within, means_within_lem, one_within, part_within, related_most}

-- by the cross product of two quotients
quotient_within : (n d m e : ℕ) → 0 < d → 0 < e → 0 < n → n * e ≤ m * d → Capped (m ÷ e) (n ÷ d)
quotient_within n d m e hd he hn l = record {
  at_most = record { cross = rw (÷-num n d, ÷-den n d hd, ÷-num m e, ÷-den m e he) l };
  positive = rw (÷-num n d) hn;
}

-- 1 under a cap of at least 1
above_one : (m e : ℕ) → 0 < e → e ≤ m → Capped (m ÷ e) (whole 1)
unfolding whole fraction
above_one m e he l = record { at_most = record { cross = rw (÷-num m e, ÷-den m e he) (omega arith) }; positive = lit< tt }

one : Capped (whole 1) (whole 1)
unfolding whole fraction
one = record { at_most = ≤ᶠ-refl (whole 1); positive = lit< tt }

pub shoulder_value_within : (surface feet traffic : ℕ) → surface ≤ 3 → MeansWithin (shoulder_value feet traffic) (type_value surface feet)
unfolding shoulder_value type_value
shoulder_value_within surface feet traffic h = let few = columns_few feet in means_within_lem surface _ _ traffic h few.0 few.1

related_within : (share r unit : ℕ) → share ≤ 1000 → 0 < unit → 0 < r → 2 * r ≤ 3 * unit → Capped ((2000 + share) ÷ 2000) (of_related share r unit)
related_within share r unit hs hu hr top =
    quotient_within _ _ _ _ (omega arith) (lit< tt) (positive (1000 - share) share (omega arith)) (most (1000 - share) share (omega arith))
  where
    positive : (rest s : ℕ) → rest + s ≡ 1000 → 0 < rest * unit + s * r
    positive rest s e = omega (arith, mul-le-mul_left rest hu, mul-le-mul_left s hr)

    most : (rest s : ℕ) → rest + s ≡ 1000 → (rest * unit + s * r) * 2000 ≤ (2000 + s) * (1000 * unit)
    most rest s e = omega (arith, mul-le-mul_left s top, ap (λ z. z * unit) e)

lane_within : (k : Coefficients) (feet traffic : ℕ) → k.related_share ≤ 1000 → Capped (related_most k) (lane k feet traffic)
unfolding lane
lane_within k feet traffic h =
    let v = lane_value_within feet traffic in
    related_within k.related_share (lane_value feet traffic) width_unit h (lit< tt) v.0 (omega (arith, v.1))

shoulder_within : (k : Coefficients) (feet surface traffic : ℕ) → k.related_share ≤ 1000 → surface ≤ 3
    → Capped (related_most k) (shoulder k feet surface traffic)
unfolding shoulder
shoulder_within k feet surface traffic h t =
    let v = shoulder_value_within surface feet traffic t in
    related_within k.related_share (shoulder_value feet traffic * type_value surface feet) shoulder_unit h (lit< tt)
    (mul-pos v.width_positive v.multiplier_positive) v.at_most

-- ALIGNMENT

-- the sharpest and shortest curve is 1 + 80.2 / 100 / 0.00155 miles, under 518.42
curve_within : (length radius spirals : ℕ) → 1 ≤ length → 100 ≤ radius → Capped (51842 ÷ 100) (curve length radius spirals)
unfolding curve
curve_within length radius spirals hl hr =
    by_test (Capped (51842 ÷ 100)) (ltb 8020000 (600 * spirals * radius))
    (λ _. above_one 51842 100 (lit< tt) (lit≤ tt))
    (λ _. bent (155 * length * radius) (600 * spirals * radius) (omega (arith, mul-le-mul hl hr)))
  where
    bent : (straight spiral : ℕ) → 15500 ≤ straight → Capped (51842 ÷ 100) ((straight + (8020000 - spiral)) ÷ straight)
    bent straight spiral h = quotient_within _ _ _ _ (omega arith) (lit< tt) (omega arith) (omega arith)

superelevation_within : (deficiency : ℕ) → deficiency ≤ 100 → Capped (13 ÷ 10) (superelevation deficiency)
unfolding superelevation
superelevation_within deficiency h =
    by_test (Capped (13 ÷ 10)) (ltb deficiency 10)
    (λ _. above_one 13 10 (lit< tt) (lit≤ tt))
    (λ _. by_test (Capped (13 ÷ 10)) (leb deficiency 20)
    (λ e. quotient_within (940 + 6 * deficiency) 1000 13 10 (lit< tt) (lit< tt) (omega arith) (omega (arith, leb-true deficiency 20 e)))
    (λ _. quotient_within (1000 + 3 * deficiency) 1000 13 10 (lit< tt) (lit< tt) (omega arith) (omega arith)))

-- ACCESS AND CROSSINGS

two_way_lane_within : (present driveways : ℕ) → Capped (whole 1) (two_way_lane present driveways)
unfolding two_way_lane
two_way_lane_within present driveways =
    by_test (Capped (whole 1)) (eqb present 1 && leb 5 driveways) (λ _. under_one (access_density driveways)) (λ _. one)
  where
    under_one : (density : ℕ) → Capped (whole 1) ((1199000 + 65 * density) ÷ (1199000 + 100 * density))
    under_one density = one_within _ _ (omega arith) (omega arith) (omega arith)

passing_within : (kind : ℕ) → Capped (whole 1) (passing kind)
unfolding passing is_part all_of
passing_within kind = part_within 100 _ (entry_of (is_part 100) 100 tt (100 ∷ 75 ∷ 65 ∷ []) tt kind)

sight_within : (quadrants : ℕ) → quadrants ≤ 4 → Capped (6 ÷ 5) (sight quadrants)
unfolding sight
sight_within quadrants h = quotient_within (100 + 5 * quadrants) 100 6 5 (lit< tt) (lit< tt) (omega arith) (omega arith)

pub capped : (k : Coefficients) → Bounded k → (factor : ExactFactor) → ExactSized factor → Capped (cap_of k factor) (exact_value k factor)
capped k b (Lane feet traffic) s = lane_within k feet traffic b.share_most
capped k b (Shoulder feet surface traffic) s = shoulder_within k feet surface traffic b.share_most s
capped k b (Grade percent) s = b.grade percent s
capped k b (SteepGrade percent) s = b.steep_grade percent s
capped k b (TwoWayLane present count) s = two_way_lane_within present count
capped k b (Passing kind) s = passing_within kind
capped k b (Curve length radius spirals) s = curve_within length radius spirals s.0 s.1
capped k b (Superelevation deficiency) s = superelevation_within deficiency s
capped k b (LeftTurn kind lanes) s = b.left_turn kind lanes
capped k b (RightTurn kind lanes) s = b.right_turn kind lanes
capped k b (Sight quadrants) s = sight_within quadrants s
