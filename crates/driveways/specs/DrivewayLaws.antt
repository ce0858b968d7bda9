-- The driveway part falls or rises with ln A, so its bracket stands at every depth; how wide and how large the bracket is.
use Rattle.std.specs.Prelude.{ℕ, ◌+◌, ◌-◌, ◌*◌, ◌≤◌, ◌<◌, ◌≡◌}
use Rattle.std.proofs.Common.{ap, mul_comm, mul-le-mul_left, mul-le-mul_right, mul-pos, sub-add_cancel, sub-eq-zero_of_le, le_of_lt, lt_of_not-le}
use native.Mathlib.Omega.{arith}
use Rattle.std.proofs.Math.Decide.{dec_le}
use borrow.Author.Tests.{lt-ltb, le-ltb}
use Rattle.estimate.specs.Fraction.{Fraction, ◌≤ᶠ◌, ◌=ᶠ◌, fraction, ◌÷◌, whole, lesser, greater}
use Rattle.estimate.specs.FractionLaws.{≤ᶠ-refl, ≤ᶠ-trans, =ᶠ-≤ᶠ, =ᶠ-≥ᶠ, ÷-num, ÷-den, lesser-≤-left, lesser-≤-right, greater-≥-left, greater-≥-right}
use Rattle.bracket.specs.Bracket.{Stands, RelativeWidth, AbsoluteWidth, logarithm_width}
use Rattle.bracket.specs.declared.Bracket.{Bracket}
use Rattle.logarithm.specs.Logarithm.{logarithm_bracket, StandingLogarithm}
use Rattle.logarithm.proofs.LogarithmStanding.{logarithm_standing}
use Rattle.model.specs.Coefficients.{Coefficients}
use Rattle.model.specs.Access.{driveway_slope, driveway_at, driveway_part}
use Rattle.model.specs.Parts.{driveways}
use Rattle.bracket.specs.Ratio.{coded, spanned, spanned_stands}
use Rattle.driveways.specs.Driveways.{driveways_most, low_end, high_end, rising, falling, driveway_bracket, driveways_of}

-- THE STEP ON PLAIN NUMBERS: s is the slope at x = xn/xd, t that at y = yn/yd, and xn/xd ≤ yn/yd

-- where y is past 10 its slope is cut off at 0, and the order holds all the same
slope_falls : (xn xd yn yd : ℕ) → xn * yd ≤ yn * xd → (50 * yd - 5 * yn) * xd ≤ (50 * xd - 5 * xn) * yd
slope_falls xn xd yn yd h = by_cases (dec_le (5 * yn) (50 * yd))
  where
    step : (s t : ℕ) → 50 * xd ≤ s + 5 * xn → t + 5 * yn ≡ 50 * yd → t * xd ≤ s * yd
    step s t e f = omega (arith, mul-le-mul_right yd e, ap (λ z. z * xd) f)

    by_cases : Dec (5 * yn ≤ 50 * yd) → (50 * yd - 5 * yn) * xd ≤ (50 * xd - 5 * xn) * yd
    by_cases (yes l) = step _ _ (omega arith) (sub-add_cancel l)
    by_cases (no l) = rw (sub-eq-zero_of_le (le_of_lt (lt_of_not-le l))) (omega arith)

-- y at most 1/R more than x: the slope falls by at most 5/R
slope_near : (R xn xd yn yd : ℕ) → R * (yn * xd) ≤ R * (xn * yd) + yd * xd → R * ((50 * xd - 5 * xn) * yd) ≤ R * ((50 * yd - 5 * yn) * xd) + 5 * (xd * yd)
slope_near R xn xd yn yd h = by_cases (dec_le (5 * xn) (50 * xd))
  where
    step : (s t : ℕ) → s + 5 * xn ≡ 50 * xd → 50 * yd ≤ t + 5 * yn → R * (s * yd) ≤ R * (t * xd) + 5 * (xd * yd)
    step s t e f = omega (arith, ap (λ z. R * z * yd) e, mul-le-mul_left (R * xd) f)

    by_cases : Dec (5 * xn ≤ 50 * xd) → R * ((50 * xd - 5 * xn) * yd) ≤ R * ((50 * yd - 5 * yn) * xd) + 5 * (xd * yd)
    by_cases (yes l) = step _ _ (sub-add_cancel l) (omega arith)
    by_cases (no l) = rw (sub-eq-zero_of_le (le_of_lt (lt_of_not-le l))) (omega arith)

-- the cross products of (c + q s)/(c + p s) at x and at y, c being over their denominators: at x they are more by (q - p) c (s yd - t xd)
cross_products : (c xd yd s t p q e : ℕ) → e + p ≡ q
    → (c * xd + q * s) * (c * yd + p * t) + e * (c * (t * xd)) ≡ (c * yd + q * t) * (c * xd + p * s) + e * (c * (s * yd))
cross_products c xd yd s t p q e is = rw (← is) (omega arith)

-- (q - p) 5 c w is at most 225 c w, and 2 c c w is 400 c w at least
narrow : (R P Q e c S T w : ℕ) → P + e * (c * T) ≡ Q + e * (c * S) → R * S ≤ R * T + 5 * w → e ≤ 45 → 200 ≤ c → c * c * w ≤ P → R * P ≤ R * Q + 2 * P
narrow R P Q e c S T w is h few large most =
    omega (arith, ap (λ z. R * z) is, mul-le-mul_left (e * c) h, mul-le-mul_right (5 * (c * w)) few, mul-le-mul_right (c * w) large, most)

-- p and q are 5 and the driveways, or the driveways and 5
module _ (c xd yd s t p q : ℕ) (l : p ≤ q) where
  exchange : t * xd ≤ s * yd → (c * yd + q * t) * (c * xd + p * s) ≤ (c * xd + q * s) * (c * yd + p * t)
  exchange h = omega (arith, cross_products c xd yd s t p q (q - p) (sub-add_cancel l), mul-le-mul_left (q - p) (mul-le-mul_left c h))

  near : (R : ℕ) → q ≤ p + 45 → 200 ≤ c → R * (s * yd) ≤ R * (t * xd) + 5 * (xd * yd)
      → R * ((c * xd + q * s) * (c * yd + p * t)) ≤ R * ((c * yd + q * t) * (c * xd + p * s)) + 2 * ((c * xd + q * s) * (c * yd + p * t))
  near R few large h =
      narrow R ((c * xd + q * s) * (c * yd + p * t)) ((c * yd + q * t) * (c * xd + p * s)) (q - p) c (s * yd) (t * xd) (xd * yd)
      (cross_products c xd yd s t p q (q - p) (sub-add_cancel l)) h (omega arith) large (omega arith)

-- THE PART AT A VALUE OF ln A

module _ (constant count : ℕ) (positive : 0 < constant) where
  at_num : (x : Fraction) → (driveway_at constant count x).num ≡ constant * x.den + count * driveway_slope x
  at_num x = ÷-num _ _

  at_den : (x : Fraction) → (driveway_at constant count x).den ≡ constant * x.den + 5 * driveway_slope x
  at_den x = ÷-den _ _ (omega (arith, mul-pos positive x.pos))

  -- at num / den
  pub at_num_over : (num den : ℕ) → 0 < den → (driveway_at constant count (num ÷ den)).num ≡ constant * den + count * (50 * den - 5 * num)
  at_num_over num den h = rw (at_num (num ÷ den), ÷-den num den h, ÷-num num den)

  pub at_den_over : (num den : ℕ) → 0 < den → (driveway_at constant count (num ÷ den)).den ≡ constant * den + 5 * (50 * den - 5 * num)
  at_den_over num den h = rw (at_den (num ÷ den), ÷-den num den h, ÷-num num den)

  -- from 5 driveways on it falls as ln A rises
  pub driveway_falls : 5 ≤ count → {x y : Fraction} → x ≤ᶠ y → driveway_at constant count y ≤ᶠ driveway_at constant count x
  driveway_falls l {x} {y} h = record {
    cross = rw (at_num y, at_den x, at_num x, at_den y)
        (exchange constant x.den y.den (driveway_slope x) (driveway_slope y) 5 count l (slope_falls x.num x.den y.num y.den h.cross));
  }

  -- up to 5 it rises
  pub driveway_rises : count ≤ 5 → {x y : Fraction} → x ≤ᶠ y → driveway_at constant count x ≤ᶠ driveway_at constant count y
  driveway_rises l {x} {y} h = record {
    cross = rw (at_num x, at_den y, at_num y, at_den x, mul_comm (constant * x.den + count * _), mul_comm (constant * y.den + count * _))
        (exchange constant x.den y.den (driveway_slope x) (driveway_slope y) count 5 l (slope_falls x.num x.den y.num y.den h.cross));
  }

  -- y at most 1/R more than x: the part's values there are at most 2/R of the larger apart
  module _ (large : 200 ≤ constant) (few : count ≤ 50) (R : ℕ) (x y : Fraction) (h : R * (y.num * x.den) ≤ R * (x.num * y.den) + y.den * x.den) where
    apart : R * (driveway_slope x * y.den) ≤ R * (driveway_slope y * x.den) + 5 * (x.den * y.den)
    apart = slope_near R x.num x.den y.num y.den h

    pub driveway_falls_by : 5 ≤ count → RelativeWidth R 2 (spanned (coded (driveway_at constant count y)) (coded (driveway_at constant count x)))
    driveway_falls_by l = record {
      width = rw (at_num x, at_den y, at_num y, at_den x)
          (near constant x.den y.den (driveway_slope x) (driveway_slope y) 5 count l R (omega arith) large apart);
    }

    pub driveway_rises_by : count ≤ 5 → RelativeWidth R 2 (spanned (coded (driveway_at constant count x)) (coded (driveway_at constant count y)))
    driveway_rises_by l = record {
      width = rw (at_num x, at_den y, at_num y, at_den x, mul_comm (constant * x.den + count * _), mul_comm (constant * y.den + count * _))
          (near constant x.den y.den (driveway_slope x) (driveway_slope y) count 5 l R (omega arith) large apart);
    }

  -- HOW LARGE IT IS
  module _ (x : Fraction) where
    slope_most : driveway_slope x ≤ 50 * x.den
    slope_most = omega arith

    at_most : count ≤ 50 → (driveway_at constant count x).num * (driveways_most constant).den ≤ (driveways_most constant).num * (driveway_at constant count x).den
    at_most few =
        rw (at_num x, at_den x, ÷-num (constant + 2500) (constant + 250), ÷-den (constant + 2500) (constant + 250) (omega arith))
        (omega (arith, mul-le-mul_right (driveway_slope x * (constant + 250)) few, mul-le-mul_left (45 * constant) slope_most))

-- THE BRACKET

-- its three cases
module _ (constant fewest count : ℕ) (ln : Bracket) where
  pub bracket_below : count < fewest → driveway_bracket constant fewest count ln ≡ spanned (coded (whole 1)) (coded (whole 1))
  unfolding driveway_bracket
  bracket_below l = rw (lt-ltb count fewest l)

  pub bracket_rising : fewest ≤ count → count < 5 → driveway_bracket constant fewest count ln ≡ rising constant count ln
  unfolding driveway_bracket
  bracket_rising l m = rw (le-ltb count fewest l, lt-ltb count 5 m)

  pub bracket_falling : fewest ≤ count → 5 ≤ count → driveway_bracket constant fewest count ln ≡ falling constant count ln
  unfolding driveway_bracket
  bracket_falling l m = rw (le-ltb count fewest l, le-ltb count 5 m)

  pub by_driveways : (P : Bracket → Type 0)
      → (count < fewest → P (spanned (coded (whole 1)) (coded (whole 1))))
      → (fewest ≤ count → count < 5 → P (rising constant count ln))
      → (fewest ≤ count → 5 ≤ count → P (falling constant count ln))
      → P (driveway_bracket constant fewest count ln)
  by_driveways P below few many = by_threshold (dec_le fewest count)
    where
      by_five : fewest ≤ count → Dec (5 ≤ count) → P (driveway_bracket constant fewest count ln)
      by_five l (yes m) = rw (bracket_falling l m) (many l m)
      by_five l (no m) = rw (bracket_rising l (lt_of_not-le m)) (few l (lt_of_not-le m))

      by_threshold : Dec (fewest ≤ count) → P (driveway_bracket constant fewest count ln)
      by_threshold (yes l) = by_five l (dec_le 5 count)
      by_threshold (no l) = rw (bracket_below (lt_of_not-le l)) (below (lt_of_not-le l))

-- STANDING

÷-is-fraction : (n d : ℕ) (h : 0 < d) → n ÷ d =ᶠ fraction n d h
unfolding fraction
÷-is-fraction n d h = record { cross = rw (÷-num n d, ÷-den n d h) }

-- the part by its threshold
module _ (k : Coefficients) (count : ℕ) (x : Fraction) where
  part_below : count < k.fewest_driveways → driveway_part k count x ≡ whole 1
  unfolding driveway_part
  part_below l = rw (lt-ltb count k.fewest_driveways l)

  part_from : k.fewest_driveways ≤ count → driveway_part k count x ≡ driveway_at k.driveway_constant count x
  unfolding driveway_part
  part_from l = rw (le-ltb count k.fewest_driveways l)

module _ (k : Coefficients) (count : ℕ) (positive : 0 < k.driveway_constant) {ln : Bracket} {under over : ℕ → Fraction} (s : Stands ln under over) where
  abbrev part : Fraction → Fraction
  part x = driveway_part k count x

  abbrev value : Fraction → Fraction
  value x = driveway_at k.driveway_constant count x

  low-≤-over : (d : ℕ) → 1 ≤ d → low_end ln ≤ᶠ over d
  low-≤-over d l = ≤ᶠ-trans (=ᶠ-≤ᶠ (÷-is-fraction _ _ s.low_den)) (s.low_right.at d l)

  under-≤-high : (d : ℕ) → 1 ≤ d → under d ≤ᶠ high_end ln
  under-≤-high d l = ≤ᶠ-trans (s.high_right.at d l) (=ᶠ-≥ᶠ (÷-is-fraction _ _ s.high_den))

  low-≤-high : low_end ln ≤ᶠ high_end ln
  low-≤-high = ≤ᶠ-trans (=ᶠ-≤ᶠ (÷-is-fraction _ _ s.low_den)) (≤ᶠ-trans s.in_order (=ᶠ-≥ᶠ (÷-is-fraction _ _ s.high_den)))

  up : count < 5 → {x y : Fraction} → x ≤ᶠ y → value x ≤ᶠ value y
  up few = driveway_rises k.driveway_constant count positive (omega arith)

  down : 5 ≤ count → {x y : Fraction} → x ≤ᶠ y → value y ≤ᶠ value x
  down many = driveway_falls k.driveway_constant count positive many

  -- what is at most one of the two values is at most the greater, and so with at least and the lesser
  pub driveway_bracket_stands : Stands (driveway_bracket k.driveway_constant k.fewest_driveways count ln)
      (λ d. lesser (driveway_part k count (under d)) (driveway_part k count (over d)))
      (λ d. greater (driveway_part k count (under d)) (driveway_part k count (over d)))
  driveway_bracket_stands =
      by_driveways k.driveway_constant k.fewest_driveways count ln
      (λ b. Stands b (λ d. lesser (part (under d)) (part (over d))) (λ d. greater (part (under d)) (part (over d))))
      (λ l. spanned_stands
      (record { at = λ d _. ≤ᶠ-trans (rw (part_below k count (under d) l) (≤ᶠ-refl (whole 1))) (greater-≥-left (part (under d)) (part (over d))) })
      (record { at = λ d _. ≤ᶠ-trans (lesser-≤-left (part (under d)) (part (over d))) (rw (part_below k count (under d) l) (≤ᶠ-refl (whole 1))) })
      (≤ᶠ-refl (whole 1)))
      (λ l few. spanned_stands
      (record { at = λ d g. ≤ᶠ-trans (rw (part_from k count (over d) l) (up few (low-≤-over d g))) (greater-≥-right (part (under d)) (part (over d))) })
      (record { at = λ d g. ≤ᶠ-trans (lesser-≤-left (part (under d)) (part (over d))) (rw (part_from k count (under d) l) (up few (under-≤-high d g))) })
      (up few low-≤-high))
      (λ l many. spanned_stands
      (record { at = λ d g. ≤ᶠ-trans (rw (part_from k count (under d) l) (down many (under-≤-high d g))) (greater-≥-left (part (under d)) (part (over d))) })
      (record { at = λ d g. ≤ᶠ-trans (lesser-≤-right (part (under d)) (part (over d))) (rw (part_from k count (over d) l) (down many (low-≤-over d g))) })
      (down many low-≤-high))

-- WIDTH AND SIZE

module _ (constant fewest count : ℕ) (few : count ≤ 50) (ln : Bracket) where
  pub driveway_bracket_most : 0 < constant
      → let b = driveway_bracket constant fewest count ln in b.high_num * (driveways_most constant).den ≤ (driveways_most constant).num * b.high_den
  driveway_bracket_most positive =
      by_driveways constant fewest count ln (λ b. b.high_num * (driveways_most constant).den ≤ (driveways_most constant).num * b.high_den)
      (λ _. unfold whole fraction in rw (÷-num (constant + 2500) (constant + 250), ÷-den (constant + 2500) (constant + 250) (omega arith)) (omega arith))
      (λ _ _. at_most constant count positive (high_end ln) few)
      (λ _ _. at_most constant count positive (low_end ln) few)

  module _ (low_den : 0 < ln.low_den) (high_den : 0 < ln.high_den) where
    -- high - low of ln A at most 1/R: then that of the part is at most 2/R of its high
    pub driveway_bracket_width : 200 ≤ constant → (R : ℕ) → AbsoluteWidth R ln → RelativeWidth R 2 (driveway_bracket constant fewest count ln)
    driveway_bracket_width large R w =
        let positive : 0 < constant = omega arith in
        by_driveways constant fewest count ln (λ b. RelativeWidth R 2 b)
        (λ _. unfold whole fraction in record { width = omega arith })
        (λ _ l. driveway_rises_by constant count positive large few R (low_end ln) (high_end ln) ends_near (omega arith))
        (λ _ l. driveway_falls_by constant count positive large few R (low_end ln) (high_end ln) ends_near l)
      where
        ends_near : R * ((high_end ln).num * (low_end ln).den) ≤ R * ((low_end ln).num * (high_end ln).den) + (high_end ln).den * (low_end ln).den
        ends_near =
            rw (
              ÷-num ln.high_num ln.high_den,
              ÷-num ln.low_num ln.low_den,
              ÷-den ln.high_num ln.high_den high_den,
              ÷-den ln.low_num ln.low_den low_den,
            ) w.width

-- AT A TRAFFIC

module _ (k : Coefficients) (count traffic : ℕ) (from : 1 ≤ traffic) (to : traffic ≤ 20000) where
  ln : StandingLogarithm traffic (logarithm_bracket traffic)
  ln = logarithm_standing traffic from to

  pub driveways_stand : 0 < k.driveway_constant
      → Stands (driveways_of k.driveway_constant k.fewest_driveways count traffic) (driveways k count traffic).under (driveways k count traffic).over
  driveways_stand positive = driveway_bracket_stands k count positive ln.stands

  -- from the logarithm's stated width
  pub driveways_width : 200 ≤ k.driveway_constant → count ≤ 50
      → RelativeWidth logarithm_width 2 (driveways_of k.driveway_constant k.fewest_driveways count traffic)
  driveways_width large few =
      driveway_bracket_width k.driveway_constant k.fewest_driveways count few (logarithm_bracket traffic) ln.stands.low_den ln.stands.high_den
      large logarithm_width ln.narrow

  pub driveways_most_lem : 0 < k.driveway_constant → count ≤ 50
      → let b = driveways_of k.driveway_constant k.fewest_driveways count traffic in
      let most = driveways_most k.driveway_constant in
      b.high_num * most.den ≤ most.num * b.high_den
  driveways_most_lem positive few = driveway_bracket_most k.driveway_constant k.fewest_driveways count few (logarithm_bracket traffic) positive
