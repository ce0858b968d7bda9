-- The ends of a power's bracket, one law for both: `up` is 0 for the low end, whose products are rounded down, and 1 for the high one,
-- whose products are rounded up.
use Rattle.std.specs.Prelude.{ℕ, ◌*◌, ◌≤◌, ◌<◌, ◌≡◌}
use Rattle.std.proofs.Common.{le_trans, mul-le-mul, arith, lit≤}
use Rattle.std.proofs.Math.Nat.{pow-le-pow_left, pow-le-pow_right}
use Rattle.wide.specs.Scaling.{rounded}
use Rattle.wide.specs.Rounding.{rounded_is_floor, rounded_is_ceiling}
use Rattle.remainder.specs.Split.{first_factor, second_factor, split_rest}
use Rattle.remainder.specs.Remainder.{scale, remainder_bounds_of, NearOne}
use Rattle.power.specs.Exponents.{exponent_at, exponent_small, exponent_is}
use Rattle.power.specs.Stored.{billion, stored_low, stored_bounds, stored_below}
use Rattle.power.specs.Power.{power_low, power_high, power_bracket}

-- an end in billionths, from two stored bounds and the remainder's
abbrev pub end_of : (up s t g : ℕ) → ℕ
end_of up s t g = rounded up (rounded up s t billion) g scale

pub bracket_by_ends : (A p q : ℕ) → let n = first_factor A in let m = second_factor A in
    let s = stored_bounds n p q in let t = stored_bounds m p q in let g = remainder_bounds_of (n * m) (split_rest A) p q in
    record {
      low_num = end_of 0 s.low t.low g.low;
      low_den = billion;
      high_num = end_of 1 s.high t.high g.high;
      high_den = billion;
    } ≡ power_bracket A p q
unfolding power_bracket power_low power_high
bracket_by_ends A p q =
    rw (rounded_is_floor _ _ billion, rounded_is_ceiling _ _ billion, rounded_is_floor _ _ scale, rounded_is_ceiling _ _ scale)

-- HOW LARGE THEY ARE, for the stored exponents, up to 0.79

-- no stored bound is above 81 (up to 97 a product of two would fit)
abbrev pub most_stored : ℕ
most_stored = 81 * billion

-- no product of two of them
abbrev pub most_product : ℕ
most_product = 6562 * billion

-- and no end
abbrev pub most_end : ℕ
most_end = 6600 * billion

-- 256^0.79 is below 80
pub stored_small : (e k : ℕ) → e < 5 → 1 ≤ k → k ≤ 256 → stored_low k (exponent_at e) 100 ≤ 80 * billion
stored_small e k h from to =
    stored_below k (exponent_at e) 100 (exponent_is e h) 80
    (le_trans (pow-le-pow_right from (exponent_small e h)) (le_trans (pow-le-pow_left to 79) (lit≤ tt)))

module _ {up : ℕ} (h : up ≤ 1) where
  pub product_small : {s t : ℕ} → s ≤ most_stored → t ≤ most_stored → rounded up s t billion ≤ most_product
  product_small hs ht = omega (arith, mul-le-mul hs ht)

  pub end_small : {u g : ℕ} → u ≤ most_product → NearOne g → rounded up u g scale ≤ most_end
  end_small hu hg = omega (arith, mul-le-mul hu hg.to)
