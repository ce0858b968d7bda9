-- The bracket of A^(p/q) stands at every depth and is narrow; how large its ends are.
-- "The shared laws of powers are shown over the exponent, not for each": p/q is any exponent up to 1.
use Rattle.std.specs.Prelude.{ℕ, zero, suc, ◌+◌, ◌*◌, ◌^◌, ◌≤◌, ◌<◌, ◌≡◌, refl}
use Rattle.std.proofs.Common.{le_trans, mul-le-mul_left, arith, lit≤}
use Rattle.std.proofs.Math.Nat.{mul-le-mul_right, pow-le-pow_left}
use Rattle.std.proofs.Math.Decide.{dec_le}
use Rattle.std.proofs.Math.Dec.{lit<}
use Rattle.estimate.specs.Fraction.{fraction}
use Rattle.estimate.specs.WholePower.{pow_le_cancel}
use Rattle.estimate.specs.Power.{power_under, power_over}
use Rattle.estimate.proofs.PowerLaws.{power_low_stands, power_high_stands, power_low_remainder, power_high_remainder, power_low_product, power_high_product}
use Rattle.wide.specs.Scaling.{floor, ceiling}
use Rattle.wide.specs.Rounding.{floor_le, ceiling_ge}
use Rattle.bracket.specs.Bracket.{Stands, RelativeWidth, power_width}
use Rattle.remainder.specs.Split.{first_factor, second_factor, split_rest, Splits, split_is}
use Rattle.remainder.specs.Remainder.{Exponent, scale, remainder_low, remainder_high}
use Rattle.remainder.specs.RemainderLaws.{remainder_low_stands, remainder_high_stands, remainder_near, remainder_near_to_half}
use Rattle.remainder.specs.RemainderLaws.{remainder_near_whole, remainder_low_near_one, remainder_high_near_one}
use Rattle.power.specs.Stored.{billion, stored_low, stored_low_stands, stored_high_stands, stored_near, stored_from_one, stored_from_root}
use Rattle.power.specs.Power.{power_low, power_high, power_bracket}
use Rattle.power.specs.PowerWidth.{floor_rounded, ceiling_rounded, at_least, ends_apart, RoundingsWithin, roundings_from_one, roundings_from_roots}

module _ (A p q : ℕ) (from : 1 ≤ A) (to : A ≤ 65536) (e : Exponent p q) where
  abbrev n : ℕ
  n = first_factor A

  abbrev m : ℕ
  m = second_factor A

  parts : Splits A n m (split_rest A)
  parts = split_is A from to

  -- (low/10^9)^q ≤ A^p
  pub power_low-≤ : power_low A p q ^ q ≤ A ^ p * billion ^ q
  unfolding power_low
  power_low-≤ =
      power_low_remainder A (n * m) p q billion scale _ _ _ (lit< tt)
      (power_low_product n m p q billion _ _ _ (lit< tt) (stored_low_stands n p q e) (stored_low_stands m p q e) (floor_le _ _ billion))
      (rw parts.is at (remainder_low_stands (n * m) (split_rest A) p q parts.rest e))
      (floor_le _ _ scale)

  -- A^p ≤ (high/10^9)^q
  pub power_high-≥ : A ^ p * billion ^ q ≤ power_high A p q ^ q
  unfolding power_high
  power_high-≥ =
      power_high_remainder A (n * m) p q billion scale _ _ _ (lit< tt)
      (power_high_product n m p q billion _ _ _ (lit< tt) (stored_high_stands n p q e) (stored_high_stands m p q e) (ceiling_ge _ _ billion (lit< tt)))
      (rw parts.is at (remainder_high_stands (n * m) (split_rest A) p q parts.rest e))
      (ceiling_ge _ _ scale (lit< tt))

  pub power_in_order : power_low A p q ≤ power_high A p q
  power_in_order = pow_le_cancel q e.positive (le_trans power_low-≤ power_high-≥)

  -- AT EVERY DEPTH
  pub power_stands : Stands (power_bracket A p q) (λ d. power_under d A p q) (λ d. power_over d A p q)
  unfolding power_bracket
  power_stands = record {
    low_den = lit< tt;
    high_den = lit< tt;
    low_right = power_low_stands A p q e.positive (power_low A p q) billion (lit< tt) power_low-≤;
    high_right = power_high_stands A p q e.positive (power_high A p q) billion (lit< tt) power_high-≥;
    in_order = unfold fraction in record { cross = mul-le-mul_right billion power_in_order };
  }

  -- THE WIDTH

  -- the ends are apart by at most c * 10^-12 of a number that is not above the low
  record Near (c : ℕ) : Type 0 where
    first : ℕ
    near : power_high A p q * scale ≤ power_low A p q * scale + c * first
    first-≤ : first ≤ power_low A p q

  -- by how near the remainder's bounds are, and what the roundings add
  ends : (c w : ℕ) → remainder_high (n * m) (split_rest A) p q ≤ remainder_low (n * m) (split_rest A) p q + c
      → RoundingsWithin billion w (stored_low n p q) (stored_low m p q) → Near (c + w)
  unfolding power_low power_high
  ends c w near roundings =
      let s = stored_low n p q in
      let t = stored_low m p q in
      let u = floor s t billion in
      let g = remainder_low (n * m) (split_rest A) p q in
      let u' = ceiling (s + 1) (t + 1) billion in
      let g' = remainder_high (n * m) (split_rest A) p q in
      let a = floor_rounded s t billion (lit< tt) in
      let f = floor_rounded u g scale (lit< tt) in
      let b = ceiling_rounded (s + 1) (t + 1) billion (lit< tt) in
      let apart = ends_apart billion scale s t u u' g g' (floor u g scale) (ceiling u' g' scale) c (lit< tt) a b near
      (remainder_high_near_one (n * m) (split_rest A) p q parts.rest e).to f (ceiling_rounded u' g' scale (lit< tt)) in
      record {
        first = u;
        near = rw (stored_near n p q e, stored_near m p q e) (omega (arith, apart, roundings u a));
        first-≤ = at_least u g scale (floor u g scale) (remainder_low_near_one (n * m) (split_rest A) p q parts.rest e).from f;
      }

  roundings_any : RoundingsWithin billion 6021 (stored_low n p q) (stored_low m p q)
  roundings_any =
      roundings_from_one billion _ _ (lit≤ tt) (stored_from_one _ p q e parts.n_from) (stored_from_one _ p q e parts.m_from)

  -- a rest leaves n from 2 and m from 128 on: for an exponent from 1/2 on their powers are from 1.41 and 11.31 on
  roundings_beside_rest : q ≤ p * 2 → 0 < split_rest A → RoundingsWithin billion 1055 (stored_low n p q) (stored_low m p q)
  roundings_beside_rest from_half r =
      let first = stored_from_root n p q e parts.n_from 2 2 (141 * 10 ^ 7) (lit< tt) from_half (parts.n_from_two r) (lit≤ tt) in
      let second = stored_from_root m p q e parts.m_from 128 2 (1131 * 10 ^ 7) (lit< tt) from_half (parts.m_from_128 r) (lit≤ tt) in
      roundings_from_roots billion _ _ (lit≤ tt) (mul-le-mul_left 100 first) (mul-le-mul_left 100 second)

  nearer : (c : ℕ) → c ≤ 10000 → Near c → Near 10000
  nearer c h w = record { first = w.first; near = omega (arith, w.near, mul-le-mul_right w.first h); first-≤ = w.first-≤ }

  -- for an exponent up to 1/2 the remainder's bounds are nearer to each other; for a larger one the roundings add little beside a
  -- rest, and are all there is without one
  ends_near : Near 10000
  ends_near = by_half (dec_le (2 * p) q)
    where
      by_rest : q ≤ p * 2 → (r : ℕ) → split_rest A ≡ r → Near 10000
      by_rest from_half zero is = nearer _ (lit≤ tt) (ends 82 6021 (remainder_near_whole _ _ p q parts.rest e is) roundings_any)
      by_rest from_half (suc r) is =
          nearer _ (lit≤ tt) (ends 7583 1055 (remainder_near _ _ p q parts.rest e) (roundings_beside_rest from_half (omega arith)))

      by_half : Dec (2 * p ≤ q) → Near 10000
      by_half (yes to_half) = nearer _ (lit≤ tt) (ends 3833 6021 (remainder_near_to_half _ _ p q parts.rest e to_half) roundings_any)
      by_half (no above) = by_rest (omega arith) (split_rest A) refl

  pub power_width_lem : RelativeWidth power_width 1 (power_bracket A p q)
  unfolding power_width power_bracket
  power_width_lem = let w = ends_near in record { width = omega (arith, w.near, w.first-≤, power_in_order) }

  -- HOW LARGE THE LOW END IS

  -- c billionths bound B^(p/q), for a B from A on: they bound the low end
  pub power_low_below : (B c : ℕ) → A ≤ B → B ^ p * billion ^ q ≤ c ^ q → power_low A p q ≤ c
  power_low_below B c hA h = pow_le_cancel q e.positive (le_trans power_low-≤ (le_trans (mul-le-mul_right (billion ^ q) (pow-le-pow_left hA p)) h))
