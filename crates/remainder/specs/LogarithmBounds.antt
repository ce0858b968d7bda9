-- The bounds of ln((N+r)/N): that they are bounds, how near they are and how large.
use Rattle.std.specs.Prelude.{ℕ, ◌+◌, ◌*◌, ◌≤◌, ◌<◌, ◌≡◌}
use Rattle.std.proofs.Common.{mul-le-mul, mul-le-mul_left, mul-le-mul_right, mul-pos, le_of_mul-le-mul_right, lit<, lit≤}
use native.Mathlib.Omega.{arith}
use Rattle.estimate.specs.Fraction.{◌≤ᶠ◌, fraction, decimal}
use Rattle.estimate.specs.FractionLaws.{≤ᶠ-refl}
use Rattle.estimate.specs.ExponentialBounds.{AtMostExp, AtLeastExp, at_most_weaker, at_least_weaker}
use Rattle.estimate.specs.Remainder.{ratio, twice_z, twice_zAnd_cube, ratio_at_least}
use Rattle.estimate.proofs.Remainder.{ratio_at_most}
use Rattle.laws.specs.Quotient.{quotient_up, RoundedDown, RoundedUp, rounded_down, quotient_up_lem, quotient_up_zero, half_up, at_most, product-≤}
use Rattle.remainder.specs.Remainder.{SmallRest, most_log, scale, log_low, log_high, with_cube}

module _ (N r : ℕ) (s : SmallRest N r) where
  log_low_rounded : RoundedDown (2 * r * scale) (2 * N + r) (log_low N r)
  unfolding log_low
  log_low_rounded = rounded_down (2 * r * scale) (2 * N + r) (omega arith)

  -- y/10^12 ≤ 2z
  pub log_low_stands : log_low N r * (2 * N + r) ≤ 2 * r * scale
  log_low_stands = log_low_rounded.below

  pub log_low_small : log_low N r ≤ most_log
  log_low_small = at_most (log_low N r) (2 * N + r) most_log (omega (arith, log_low_stands))

-- THE ROUNDINGS ON THE WAY TO THE HIGH BOUND: z, z^2 and z^3

z_small : {N r z : ℕ} → SmallRest N r → RoundedUp (r * scale) (2 * N + r) z → z ≤ 1957000000
z_small {N} {r} {z} s f = at_most z (2 * N + r) 1957000000 (omega (arith, f.near))

module _ {z : ℕ} (h : z ≤ 1957000000) where
  pub square_fits : z * z ≤ 1957000000 * 1957000000
  square_fits = mul-le-mul h h

  module _ {square : ℕ} (g : RoundedUp (z * z) scale square) where
    square_small : square ≤ 3830000
    square_small = product-≤ scale h h g.near (lit≤ tt)

    pub cube_fits : square * z ≤ 3830000 * 1957000000
    cube_fits = mul-le-mul square_small h

    pub cube_small : {cube : ℕ} → RoundedUp (square * z) scale cube → cube ≤ 7499
    cube_small k = product-≤ scale square_small h k.near (lit≤ tt)

pub log_high_with_cube : (N r : ℕ) → SmallRest N r → log_high N r ≡ with_cube (quotient_up (2 * r * scale) (2 * N + r))
unfolding log_high with_cube
log_high_with_cube N r s =
    let d : 0 < 2 * N + r = omega arith in
    let twice : 2 * r * scale ≡ 2 * (r * scale) = omega arith in
    rw (half_up (r * scale) (2 * r * scale) (2 * N + r) d twice)

pub half_small : {y z : ℕ} → y ≤ 3913900000 → RoundedUp y 2 z → z ≤ 1957000000
half_small h f = omega (arith, f.near)

pub twice_small : {N r y : ℕ} → SmallRest N r → RoundedUp (2 * r * scale) (2 * N + r) y → y ≤ 3913900000
twice_small {N} {r} {y} s f = at_most y (2 * N + r) 3913900000 (omega (arith, f.near))

-- r^3/D^3 ≤ cube/R
cubed : (r D z square cube R : ℕ) → 0 < R → r * R ≤ z * D → z * z ≤ square * R → square * z ≤ cube * R → r * r * r * R ≤ cube * (D * (D * D))
cubed r D z square cube R h a b c =
    le_of_mul-le-mul_right {k = R * R}
    (omega (arith, mul-le-mul a (mul-le-mul a a), mul-le-mul_left (z * (D * (D * D))) b, mul-le-mul_left (R * (D * (D * D))) c)) (mul-pos h h)

both_terms : (r D y cube R : ℕ) → 2 * r * R ≤ y * D → r * r * r * R ≤ cube * (D * (D * D)) → r * (2 * (D * D) + r * r) * R ≤ (y + cube) * (D * (D * D))
both_terms r D y cube R a b = omega (arith, mul-le-mul_right (D * D) a)

-- what is shown of the high bound, and of its distance from 2z
record LogHigh (N r y : ℕ) : Type 0 where
  stands : r * (2 * ((2 * N + r) * (2 * N + r)) + r * r) * scale ≤ y * ((2 * N + r) * ((2 * N + r) * (2 * N + r)))
  above : 2 * r * scale ≤ y * (2 * N + r)
  near : y * (2 * N + r) ≤ 2 * r * scale + 7500 * (2 * N + r)
  small : y ≤ most_log

module _ (N r : ℕ) (s : SmallRest N r) where
  log_high_by : {z square cube y : ℕ} → RoundedUp (r * scale) (2 * N + r) z → RoundedUp (z * z) scale square → RoundedUp (square * z) scale cube
      → RoundedUp (2 * r * scale) (2 * N + r) y → LogHigh N r (y + cube)
  log_high_by {z} {square} {cube} {y} f g h k =
      let c = cube_small (z_small s f) g h in
      record {
        stands = both_terms r (2 * N + r) y cube scale k.above (cubed r (2 * N + r) z square cube scale (lit< tt) f.above g.above h.above);
        above = omega (arith, k.above);
        near = omega (arith, k.near, mul-le-mul_right (2 * N + r) c);
        small = omega (arith, twice_small s k);
      }

  log_high_is : LogHigh N r (log_high N r)
  unfolding log_high
  log_high_is =
      let d : 0 < 2 * N + r = omega arith in
      log_high_by (quotient_up_lem _ _ d) (quotient_up_lem _ _ (lit< tt)) (quotient_up_lem _ _ (lit< tt)) (quotient_up_lem _ _ d)

  -- 2z + z^3 ≤ y/10^12
  pub log_high_stands : r * (2 * ((2 * N + r) * (2 * N + r)) + r * r) * scale ≤ log_high N r * ((2 * N + r) * ((2 * N + r) * (2 * N + r)))
  log_high_stands = log_high_is.stands

  pub log_high_small : log_high N r ≤ most_log
  log_high_small = log_high_is.small

  pub log_in_order : log_low N r ≤ log_high N r
  log_in_order = le_of_mul-le-mul_right {k = 2 * N + r} (omega (arith, log_low_stands N r s, log_high_is.above)) (omega arith)

  -- 7.501 * 10^-9 apart at most
  pub log_near : log_high N r ≤ log_low N r + 7501
  log_near = at_most (log_high N r) (2 * N + r) (log_low N r + 7501) (omega (arith, (log_low_rounded N r s).near, log_high_is.near))

  -- and equal where there is no rest
  pub log_near_whole : r ≡ 0 → log_high N r ≤ log_low N r + 0
  unfolding log_high
  log_near_whole e =
      let none = quotient_up_zero scale (lit< tt) in
      rw (e, quotient_up_zero (2 * N + 0) (omega arith), none, none) (omega arith)

  -- THE BOUNDS AGAINST e^x
  pub log_low_at_least : AtLeastExp (ratio N r s.positive) (decimal 12 (log_low N r))
  log_low_at_least =
      let l : decimal 12 (log_low N r) ≤ᶠ twice_z N r s.positive = unfold decimal twice_z fraction in record { cross = log_low_stands N r s } in
      at_least_weaker (≤ᶠ-refl (ratio N r s.positive)) l (ratio_at_least N r s.positive)

  pub log_high_at_most : AtMostExp (ratio N r s.positive) (decimal 12 (log_high N r))
  log_high_at_most =
      let l : twice_zAnd_cube N r s.positive ≤ᶠ decimal 12 (log_high N r) = unfold decimal twice_zAnd_cube fraction in record { cross = log_high_stands } in
      at_most_weaker (≤ᶠ-refl (ratio N r s.positive)) l (ratio_at_most N r s.positive (omega arith))
