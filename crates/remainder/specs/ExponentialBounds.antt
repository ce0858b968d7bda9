-- The bounds of e^x for an x up to 0.004: the sums of their rounded terms, over any scale R where that is possible.
use Rattle.std.specs.Prelude.{ℕ, ◌+◌, ◌*◌, ◌≤◌, ◌<◌}
use Rattle.std.proofs.Common.{mul-le-mul, mul-le-mul_left, mul-le-mul_right, arith, lit<, lit≤}
use Rattle.estimate.specs.Exponential.{term_num, term_den, sum_num, term_den_positive}
use Rattle.laws.specs.Quotient.{quotient_down, quotient_up, RoundedDown, rounded_down, down_near, quotient_up_lem, at_most, product-≤}
use Rattle.remainder.specs.Remainder.{scale, exponential_low, exponential_high, NearOne}

-- THE LOW SUM

low_sum_stands : (R x square cube : ℕ) → square * (2 * R) ≤ x * x → cube * (3 * R) ≤ square * x → (R + x + square + cube) * term_den R 3 ≤ sum_num x R 3 * R
unfolding sum_num term_num term_den
low_sum_stands R x square cube a b = omega (arith, mul-le-mul_right (3 * (R * R)) a, mul-le-mul_right (R * x) a, mul-le-mul_right (2 * (R * R)) b)

low_sum_near : (R x square cube : ℕ) → x ≤ R → x * x ≤ square * (2 * R) + 2 * R → square * x ≤ cube * (3 * R) + 3 * R
    → sum_num x R 3 * R ≤ (R + x + square + cube + 3) * term_den R 3
unfolding sum_num term_num term_den
low_sum_near R x square cube s a b =
    omega (arith, mul-le-mul_right (3 * (R * R)) a, mul-le-mul_right (R * x) a, mul-le-mul_right (2 * (R * R)) b, mul-le-mul_left (R * R) s)

-- THE HIGH SUM

high_sum_stands : (R x square cube fourth : ℕ) → x * x ≤ square * (2 * R) → square * x ≤ cube * (3 * R) → cube * x ≤ fourth * (4 * R)
    → (sum_num x R 3 * (R * 4) + 2 * term_num x 4) * R ≤ (R + x + square + cube + 2 * fourth) * term_den R 4
unfolding sum_num term_num term_den
high_sum_stands R x square cube fourth a b c =
    let t3 : x * x * x ≤ 6 * (R * R * cube) = omega (arith, mul-le-mul_right x a, mul-le-mul_right (2 * R) b) in
    let t4 : x * x * x * x ≤ 24 * (R * R * R * fourth) = omega (arith, mul-le-mul_right x t3, mul-le-mul_right (6 * (R * R)) c) in
    omega (arith, mul-le-mul_right (12 * (R * R * R)) a, mul-le-mul_right (4 * (R * R)) t3, mul-le-mul_right (2 * R) t4)

high_sum_near : (R x square cube fourth : ℕ) → x ≤ R → fourth ≤ 13 → square * (2 * R) ≤ x * x + 2 * R → cube * (3 * R) ≤ square * x + 3 * R
    → (R + x + square + cube + 2 * fourth) * term_den R 3 ≤ sum_num x R 3 * R + 30 * term_den R 3
unfolding sum_num term_num term_den
high_sum_near R x square cube fourth s t a b =
    omega (
      arith,
      mul-le-mul_right (3 * (R * R)) a,
      mul-le-mul_right (R * x) a,
      mul-le-mul_right (2 * (R * R)) b,
      mul-le-mul_left (R * R) s,
      mul-le-mul_left (R * R * R) t,
    )

-- HOW LARGE THE TERMS ARE, rounded either way

module _ {x : ℕ} (h : x ≤ 4000000000) where
  pub square_fits : x * x ≤ 4000000000 * 4000000000
  square_fits = mul-le-mul h h

  pub square_small : {square : ℕ} → square * (2 * scale) < x * x + 2 * scale → square ≤ 8000001
  square_small near = product-≤ (2 * scale) h h near (lit≤ tt)

  pub cube_small : {square cube : ℕ} → square ≤ 8000001 → cube * (3 * scale) < square * x + 3 * scale → cube ≤ 10668
  cube_small s near = product-≤ (3 * scale) s h near (lit≤ tt)

  pub fourth_small : {cube fourth : ℕ} → cube ≤ 10668 → fourth * (4 * scale) < cube * x + 4 * scale → fourth ≤ 13
  fourth_small s near = product-≤ (4 * scale) s h near (lit≤ tt)

-- a term up to the numeral t, times x
pub term_fits : {x u t : ℕ} → x ≤ 4000000000 → u ≤ t → u * x ≤ t * 4000000000
term_fits h k = mul-le-mul k h

-- WHAT IS SHOWN OF THE TWO BOUNDS

pub record ExponentialLow (x w : ℕ) : Type 0 where
  pub stands : w * term_den scale 3 ≤ sum_num x scale 3 * scale
  pub near : sum_num x scale 3 * scale ≤ (w + 3) * term_den scale 3
  pub near_one : NearOne w

pub record ExponentialHigh (x w : ℕ) : Type 0 where
  pub stands : (sum_num x scale 3 * (scale * 4) + 2 * term_num x 4) * scale ≤ w * term_den scale 4
  pub near : w * term_den scale 3 ≤ sum_num x scale 3 * scale + 30 * term_den scale 3
  pub near_one : NearOne w

pub exponential_low_is : (x : ℕ) → x ≤ 4000000000 → ExponentialLow x (exponential_low x)
unfolding exponential_low
exponential_low_is x h =
    let square = quotient_down (x * x) (2 * scale) in
    let cube = quotient_down (square * x) (3 * scale) in
    let f : RoundedDown (x * x) (2 * scale) square = rounded_down (x * x) (2 * scale) (lit< tt) in
    let g : RoundedDown (square * x) (3 * scale) cube = rounded_down (square * x) (3 * scale) (lit< tt) in
    let square-≤ = square_small h (down_near (x * x) (2 * scale) (lit< tt)) in
    let cube-≤ = cube_small h square-≤ (down_near (square * x) (3 * scale) (lit< tt)) in
    record {
      stands = low_sum_stands scale x square cube f.below g.below;
      near = low_sum_near scale x square cube (omega arith) (omega (arith, f.near)) (omega (arith, g.near));
      near_one = record { from = omega arith; to = omega (arith, square-≤, cube-≤) };
    }

pub exponential_high_is : (x : ℕ) → x ≤ 4000000000 → ExponentialHigh x (exponential_high x)
unfolding exponential_high
exponential_high_is x h =
    let square = quotient_up (x * x) (2 * scale) in
    let cube = quotient_up (square * x) (3 * scale) in
    let fourth = quotient_up (cube * x) (4 * scale) in
    let f = quotient_up_lem (x * x) (2 * scale) (lit< tt) in
    let g = quotient_up_lem (square * x) (3 * scale) (lit< tt) in
    let k = quotient_up_lem (cube * x) (4 * scale) (lit< tt) in
    let square-≤ = square_small h f.near in
    let cube-≤ = cube_small h square-≤ g.near in
    let fourth-≤ = fourth_small h cube-≤ k.near in
    record {
      stands = high_sum_stands scale x square cube fourth f.above g.above k.above;
      near = high_sum_near scale x square cube fourth (omega arith) fourth-≤ (omega (arith, f.near)) (omega (arith, g.near));
      near_one = record { from = omega arith; to = omega (arith, square-≤, cube-≤, fourth-≤) };
    }

-- TWO CLOSE ARGUMENTS HAVE CLOSE SUMS

sums_near : (R x y d : ℕ) → 250 * x ≤ R → 250 * y ≤ R → d ≤ 7502 → y ≤ x + d → sum_num y R 3 * R ≤ sum_num x R 3 * R + (d + 48) * term_den R 3
unfolding sum_num term_num term_den
sums_near R x y d s t few h =
    let near : y ≤ x + 7502 = omega arith in
    let t2 : y * y ≤ x * x + 62 * R = omega (arith, mul-le-mul_left y near, mul-le-mul_left x near) in
    let t3 : y * y * y ≤ x * x * x + R * R =
    omega (arith, mul-le-mul_left y t2, mul-le-mul_right (x * x) near, mul-le-mul_left x s, mul-le-mul_left R s, mul-le-mul_left R t) in
    omega (arith, mul-le-mul_left (R * R * R) h, mul-le-mul_left (3 * (R * R)) t2, mul-le-mul_left R t3)

pub exponentials_near : (x y d : ℕ) → x ≤ 4000000000 → y ≤ 4000000000 → d ≤ 7502 → y ≤ x + d → exponential_high y ≤ exponential_low x + (d + 81)
exponentials_near x y d s t few h =
    at_most (exponential_high y) (term_den scale 3) (exponential_low x + (d + 81))
    (omega (
      arith,
      (exponential_low_is x s).near,
      (exponential_high_is y t).near,
      sums_near scale x y d (omega arith) (omega arith) few h,
      term_den_positive scale 3 (lit< tt),
    ))
