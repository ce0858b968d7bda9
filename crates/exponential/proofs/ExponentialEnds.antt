-- Laws of ExponentialEnds in specs/.
use Rattle.std.specs.Prelude.{ℕ, suc, ◌+◌, ◌*◌, ◌/◌, ◌%◌, ◌≤◌, ◌<◌}
use Rattle.std.proofs.Common.{le_trans, mul-le-mul_left, lt_of_mul-lt-mul_right, le_of_suc-le-suc, lit<, lit≤}
use native.Mathlib.Omega.{arith}
use Rattle.estimate.specs.Fraction.{fraction, ◌≤ᶠ◌, whole, ◌+ᶠ◌, ten_thousandths}
use Rattle.estimate.specs.FractionLaws.{≤ᶠ-refl}
use Rattle.estimate.specs.ExponentialBounds.{AtLeastExp, at_least_product, at_least_weaker, exp_bounds_in_order}
use Rattle.wide.specs.Rounding.{floor_lt, ceiling_lt}
use Rattle.bracket.specs.Bracket.{exponential_width}
use Rattle.exponential.specs.Scale.{scale, scale_positive, scaled, product_up-≥}
use Rattle.exponential.specs.Stored.{stored_exp}
use Rattle.exponential.specs.StoredLaws.{stored_most, stored_bounds_lem, stored_at_least}
use Rattle.exponential.specs.Taylor.{taylor_low, taylor_high}
use Rattle.exponential.specs.TaylorLaws.{taylor_at_least, taylor_near, taylor_least, taylor_most}
use Rattle.exponential.specs.Exponential.{exp_low, exp_high, exp_most, exponential_limit}
use Rattle.exponential.specs.ExponentialEnds.{exp_low_at_most}
use Rattle.exponential.proofs.EndsClose.{close}

parts-≥ : (x : ℕ) → ten_thousandths x ≤ᶠ whole (x / 10000) +ᶠ ten_thousandths (x % 10000)
unfolding whole ten_thousandths fraction ◌+ᶠ◌
parts-≥ x = record { cross = omega arith }

-- the range of the laws below
module _ (x : ℕ) (within : x ≤ exponential_limit) where
  whole_part : x / 10000 < 15
  whole_part = omega arith

  rest : x % 10000 ≤ 10000
  rest = omega arith

  pub exp_high_at_least : AtLeastExp (scaled (exp_high x)) (ten_thousandths x)
  unfolding exp_high
  exp_high_at_least =
      at_least_weaker (product_up-≥ (stored_exp (x / 10000) + 1) (taylor_high (x % 10000))) (parts-≥ x)
      (at_least_product (stored_at_least (x / 10000) whole_part) (taylor_at_least (x % 10000) rest))

  pub exp_ends_in_order : scaled (exp_low x) ≤ᶠ scaled (exp_high x)
  exp_ends_in_order = exp_bounds_in_order (exp_low_at_most x) exp_high_at_least (≤ᶠ-refl (ten_thousandths x))

-- THE ENDS ARE CLOSE. In plain numbers e is the stored number, l and h the ends of the rest, a and b those of the product, R the scale
apart : (e l h a b R : ℕ) → h ≤ l + 36 → 36 ≤ R → R ≤ e → l ≤ 17 * R → e * l < a * R + R → b * R < (e + 1) * h + R → b * R ≤ a * R + 56 * e
apart e l h a b R near r le ll fl cl = omega (arith, mul-le-mul_left (e + 1) near)

at_least_stored : (e l a R : ℕ) → R ≤ l → e * l < a * R + R → e ≤ a
at_least_stored e l a R ll fl = le_of_suc-le-suc (lt_of_mul-lt-mul_right R {m = e} {n = suc a} (omega (arith, mul-le-mul_left e ll)))

module _ (x : ℕ) (within : x ≤ exponential_limit) where
  exp_low_near : stored_exp (x / 10000) * taylor_low (x % 10000) < exp_low x * scale + scale
  unfolding exp_low
  exp_low_near = floor_lt (stored_exp (x / 10000)) (taylor_low (x % 10000)) scale scale_positive

  exp_high_near : exp_high x * scale < (stored_exp (x / 10000) + 1) * taylor_high (x % 10000) + scale
  unfolding exp_high
  exp_high_near = ceiling_lt (stored_exp (x / 10000) + 1) (taylor_high (x % 10000)) scale scale_positive

  exp_low-≥-stored : stored_exp (x / 10000) ≤ exp_low x
  exp_low-≥-stored = at_least_stored _ _ (exp_low x) scale (taylor_least (x % 10000) (rest x within)) exp_low_near

  -- THE STATED WIDTH
  pub exp_ends_close : exponential_width * exp_high x ≤ exponential_width * exp_low x + exp_high x
  exp_ends_close =
      close (stored_exp (x / 10000)) (exp_low x) (exp_high x)
      (apart _ (taylor_low (x % 10000)) (taylor_high (x % 10000)) (exp_low x) (exp_high x) scale (taylor_near (x % 10000) (rest x within)) (lit≤ tt)
      (stored_bounds_lem (x / 10000) (whole_part x within)).least (taylor_most (x % 10000) (rest x within)) exp_low_near exp_high_near)
      exp_low-≥-stored

  -- THE ENDS' SIZE
  pub exp_low_least : scale ≤ exp_low x
  exp_low_least = le_trans (stored_bounds_lem (x / 10000) (whole_part x within)).least exp_low-≥-stored

  at_most_fourteen : ten_thousandths x ≤ᶠ whole 14
  unfolding ten_thousandths fraction whole
  at_most_fourteen = record { cross = omega arith }

  pub exp_low_most : exp_low x ≤ stored_most
  unfolding scaled fraction
  exp_low_most = omega (arith, (stored_bounds_lem 14 (lit< tt)).most, (exp_bounds_in_order (exp_low_at_most x) (stored_at_least 14 (lit< tt)) at_most_fourteen).cross)

  pub exp_high_most : exp_high x ≤ exp_most
  unfolding exponential_width
  exp_high_most = omega (arith, exp_low_most, exp_ends_close)
