-- Laws of StoredBracketLaws in specs/.
use Rattle.std.specs.Prelude.{ℕ, suc, ◌+◌, ◌*◌, ◌^◌, ◌≤◌, ◌<◌, T}
use Rattle.std.proofs.Common.{le_trans, mul-le-mul_left, mul-le-mul_right, arith, lit<}
use Rattle.std.proofs.Math.Dec.{lit≤}
use Rattle.estimate.specs.Fraction.{Fraction, fraction, ◌≤ᶠ◌, whole, inverse, ten_thousandths}
use Rattle.estimate.specs.FractionLaws.{≤ᶠ-trans}
use Rattle.estimate.specs.Exponential.{term_num, term_den, sum_num, partial_sum, sum_with_tail, exp_under, exp_over, exp_neg_under, exp_neg_over}
use Rattle.estimate.specs.ExponentialLaws.{term_mono, one-≤-partial_sum}
use Rattle.estimate.specs.ExponentialBounds.{exp_under-≥-one, exp_under-≤-own_over, exp_under_mono}
use Rattle.estimate.specs.SignedExponent.{SignedExponent, Plus, Minus, size, signed_exp_under, signed_exp_over}
use Rattle.estimate.proofs.SignedExponent.{signed_under-≤-over}
use Rattle.wide.specs.Rounding.{≤-ceiling}
use Rattle.bracket.specs.Bracket.{Stands, RelativeWidth}
use Rattle.bracket.specs.Rounded.{rounded_down-≤, rounded_up-≥, rounded_outward_stands, Near, rounded_outward_near}
use Rattle.exponential.specs.StoredBrackets.{exp_rounded, stored_scale, stored_depth, stored_bracket, stored_limit, stored_width, StoredPromised}

-- WHAT IS ROUNDED lies outside the estimates of its own depth
module _ (scale : ℕ) (positive : 0 < scale) (d : ℕ) (x : SignedExponent) where
  pub rounded_low-≤ : fraction (exp_rounded scale d x).low_num scale positive ≤ᶠ signed_exp_under d x
  unfolding exp_rounded
  rounded_low-≤ = rounded_down-≤ scale positive (signed_exp_under d x)

  pub rounded_high-≥ : signed_exp_over d x ≤ᶠ fraction (exp_rounded scale d x).high_num scale positive
  unfolding exp_rounded
  rounded_high-≥ = rounded_up-≥ scale positive (signed_exp_over d x)

-- A SUM AND THE SAME WITH ITS TAIL are near each other where twice the next term is small; in plain numbers S/Q is the sum, which is at
-- least 1, and T/(Q c) the next term
near_by_term : (S T Q c K : ℕ) → Q ≤ S → 2 * K * T ≤ Q * c → K * ((S * c + 2 * T) * Q) ≤ (K + 1) * (S * (Q * c))
near_by_term S T Q c K one small = omega (arith, mul-le-mul_right (Q * c) one, mul-le-mul_right Q small)

sums_near : (m K : ℕ) (x : Fraction) → 2 * K * term_num x.num (suc m) ≤ term_den x.den (suc m) → Near K (partial_sum m x) (sum_with_tail m x)
unfolding partial_sum sum_with_tail term_den
sums_near m K x small = record { cross = near_by_term _ _ _ _ K (unfold whole fraction in omega (arith, (one-≤-partial_sum m x).cross)) small }

-- over the whole range the estimates at the stored depth are within 1 / nearness of each other: m is 60 there
abbrev nearness : ℕ
nearness = 10 ^ 14

tail_small : {x : ℕ} → x ≤ stored_limit → 2 * nearness * term_num x 61 ≤ term_den 10000 61
tail_small h = le_trans (mul-le-mul_left (2 * nearness) (term_mono h 61)) (unfold term_num term_den in lit≤ tt)

plus_near : (x : ℕ) → x ≤ stored_limit → Near nearness (exp_under stored_depth (ten_thousandths x)) (exp_over stored_depth (ten_thousandths x))
unfolding exp_under exp_over ten_thousandths fraction
plus_near x h = sums_near 60 nearness (ten_thousandths x) (tail_small h)

signed_near : (x : SignedExponent) → size x ≤ stored_limit → Near nearness (signed_exp_under stored_depth x) (signed_exp_over stored_depth x)
unfolding exp_neg_under exp_neg_over inverse
signed_near (Plus x) h = plus_near x h
signed_near (Minus x) h = record { cross = omega (arith, (plus_near x h).cross) }

-- THE HIGH END IS LARGE: at least 1.5 * 10^8 units of the scale, as e^11 is below 66,666
abbrev fewest_units : ℕ
fewest_units = 150000000

eleven : exp_under stored_depth (ten_thousandths stored_limit) ≤ᶠ whole 66666
unfolding exp_under partial_sum sum_num term_num term_den ten_thousandths whole fraction
eleven = record { cross = lit≤ tt }

up_to_eleven : {x : ℕ} → x ≤ stored_limit → ten_thousandths x ≤ᶠ ten_thousandths stored_limit
unfolding ten_thousandths fraction
up_to_eleven h = record { cross = mul-le-mul_right 10000 h }

large_over : (x : SignedExponent) → size x ≤ stored_limit → fewest_units * (signed_exp_over stored_depth x).den ≤ stored_scale * (signed_exp_over stored_depth x).num
unfolding exp_neg_over inverse whole fraction
large_over (Plus x) h = let y = ten_thousandths x in omega (arith, (≤ᶠ-trans (exp_under-≥-one stored_depth y) (exp_under-≤-own_over stored_depth y)).cross)
large_over (Minus x) h = omega (arith, (≤ᶠ-trans (exp_under_mono stored_depth (up_to_eleven h)) eleven).cross)

-- THE WIDTH: the ends a and b are two units apart, and little more
close : (a b : ℕ) → a ≤ b → fewest_units ≤ b → nearness * b < (nearness + 1) * a + 2 * nearness + 1 → stored_width * b ≤ stored_width * a + b
unfolding stored_width
close a b order large near = omega arith

-- THE PROMISE
module _ (x : SignedExponent) (within : size x ≤ stored_limit) where
  stored_stands : Stands (stored_bracket x) (λ d. signed_exp_under d x) (λ d. signed_exp_over d x)
  unfolding stored_bracket
  stored_stands = rounded_outward_stands stored_scale (lit< tt) stored_depth _ _ (signed_under-≤-over x (omega arith))

  stored_width_lem : RelativeWidth stored_width 1 (stored_bracket x)
  unfolding stored_bracket fraction
  stored_width_lem =
      let o = signed_exp_over stored_depth x in
      let near = rounded_outward_near stored_scale stored_depth nearness (λ d. signed_exp_under d x) (λ d. signed_exp_over d x) (signed_near x within) in
      let large = ≤-ceiling stored_scale o.num o.den fewest_units o.pos (large_over x within) in
      let order = stored_stands.in_order.cross in
      record { width = omega (arith, close (stored_bracket x).low_num (stored_bracket x).high_num (omega arith) large near) }

  pub stored_promised : StoredPromised x (stored_bracket x)
  stored_promised = record { stands = stored_stands; width = stored_width_lem }
