-- How far apart two rounded products are: s t g over S R below, (s + 1)(t + 1) g' above, with g' near g.
use Rattle.std.specs.Prelude.{ℕ, ◌+◌, ◌*◌, ◌≤◌, ◌<◌}
use Rattle.std.proofs.Common.{mul-le-mul, mul-le-mul_left, mul-le-mul_right, le_of_mul-le-mul_right, arith}
use Rattle.wide.specs.Scaling.{floor, ceiling}
use Rattle.wide.specs.Rounding.{floor_le, floor_lt, ceiling_ge, ceiling_lt}
use Rattle.laws.specs.Quotient.{RoundedDown, RoundedUp, at_most}

pub floor_rounded : (a n d : ℕ) → 0 < d → RoundedDown (a * n) d (floor a n d)
floor_rounded a n d h = record { below = floor_le a n d; near = floor_lt a n d h }

pub ceiling_rounded : (a n d : ℕ) → 0 < d → RoundedUp (a * n) d (ceiling a n d)
ceiling_rounded a n d h = record { above = ceiling_ge a n d h; near = ceiling_lt a n d h }

-- a product by a number from d on, over d and rounded down, is no smaller
pub at_least : (x y d z : ℕ) → d ≤ y → RoundedDown (x * y) d z → x ≤ z
at_least x y d z h f = at_most x d z (omega (arith, f.near, mul-le-mul_left x h))

module _ (S R s t u u' g g' v v' c : ℕ) (hS : 0 < S) (a : RoundedDown (s * t) S u) (b : RoundedUp ((s + 1) * (t + 1)) S u')
    (near : g' ≤ g + c) (small : g' ≤ 1005 * S) (f : RoundedDown (u * g) R v) (h : RoundedUp (u' * g') R v') where
  -- the first roundings
  first : u' * S ≤ u * S + (s + t + 2 * S)
  first = omega (arith, b.near, a.near)

  -- and the second
  second : v' * R * S ≤ (v * R + u * c + 1005 * (s + t + 2 * S) + 2 * R) * S
  second =
      omega (
        arith,
        mul-le-mul_right S h.near,
        mul-le-mul_right S f.near,
        mul-le-mul_right g' first,
        mul-le-mul_left (u * S) near,
        mul-le-mul_left (s + t + 2 * S) small,
      )

  pub ends_apart : v' * R ≤ v * R + u * c + 1005 * (s + t + 2 * S) + 2 * R
  ends_apart = le_of_mul-le-mul_right {k = S} second hS

-- WHAT THE ROUNDINGS ADD, BESIDE THE FIRST PRODUCT

abbrev pub RoundingsWithin : (S w s t : ℕ) → Type 0
RoundingsWithin S w s t = (u : ℕ) → RoundedDown (s * t) S u → 1005 * (s + t + 2 * S) + 2000 * S ≤ w * u

-- s, t and S beside u, where s is from k and t from l hundredths of S on
record Beside (k l S s t u : ℕ) : Type 0 where
  first : l * s ≤ 100 * (u + 1)
  second : k * t ≤ 100 * (u + 1)
  unit : k * l * S ≤ 10000 * (u + 1)

beside : (k l S s t u : ℕ) → 0 < S → k * S ≤ 100 * s → l * S ≤ 100 * t → RoundedDown (s * t) S u → Beside k l S s t u
beside k l S s t u h hs ht a = record {
  first = le_of_mul-le-mul_right {k = S} (omega (arith, mul-le-mul_left s ht, a.near)) h;
  second = le_of_mul-le-mul_right {k = S} (omega (arith, mul-le-mul_left t hs, a.near)) h;
  unit = le_of_mul-le-mul_right {k = S} (omega (arith, mul-le-mul hs ht, a.near)) h;
}

module _ (S s t : ℕ) (big : 10000 ≤ S) where
  pub roundings_from_one : S ≤ s → S ≤ t → RoundingsWithin S 6021 s t
  roundings_from_one hs ht u a = let b = beside 100 100 S s t u (omega arith) (omega arith) (omega arith) a in omega arith

  -- s from 1.41 S, t from 11.31 S on
  pub roundings_from_roots : 141 * S ≤ 100 * s → 1131 * S ≤ 100 * t → RoundingsWithin S 1055 s t
  roundings_from_roots hs ht u a = let b = beside 141 1131 S s t u (omega arith) hs ht a in omega arith
