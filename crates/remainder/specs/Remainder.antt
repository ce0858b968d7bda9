-- Bounds of ln((N+r)/N) and of ((N+r)/N)^(p/q), in whole numbers over 10^12. With z = r/(2N+r) the logarithm is between 2z and 2z + z^3,
-- and e^x is between 1 + x + x^2/2 + x^3/6 and that + 2x^4/24.
use Rattle.std.specs.Prelude.{ℕ, ◌+◌, ◌*◌, ◌^◌, ◌≤◌, ◌<◌}
use Rattle.laws.specs.Quotient.{quotient_down, quotient_up}
use Rattle.bracket.specs.declared.Bounds.{Bounds}

-- a rest r that is small beside N, so that z is at most 1/511
pub record SmallRest (N r : ℕ) : Type 0 where
  pub positive : 0 < N
  pub small : 255 * r ≤ N
  pub few : N ≤ 65536

-- an exponent p/q, at most 1: any denominator above 0
pub record Exponent (p q : ℕ) : Type 0 where
  pub at_most_one : p ≤ q
  pub positive : 0 < q

-- the largest denominator for which the calls' products fit 64 bits
abbrev pub most_denominator : ℕ
most_denominator = 1000

-- no logarithm of (N+r)/N is above 0.003914
abbrev pub most_log : ℕ
most_log = 3914000000

-- the bounds' denominator
abbrev pub scale : ℕ
scale = 10 ^ 12

-- 2z, rounded down
unfoldable pub log_low : (N r : ℕ) → ℕ
log_low N r = quotient_down (2 * r * scale) (2 * N + r)

-- 2z + z^3, each term rounded up
unfoldable pub log_high : (N r : ℕ) → ℕ
log_high N r =
    let z = quotient_up (r * scale) (2 * N + r) in
    quotient_up (2 * r * scale) (2 * N + r) + quotient_up (quotient_up (z * z) scale * z) scale

-- the same from 2z: z is half of it, rounded up
unfoldable pub with_cube : ℕ → ℕ
with_cube twice =
    let z = quotient_up twice 2 in
    twice + quotient_up (quotient_up (z * z) scale * z) scale

-- both
abbrev pub log_bounds_of : (N r : ℕ) → Bounds
log_bounds_of N r = record { low = log_low N r; high = log_high N r }

-- 1 + x + x^2/2 + x^3/6, each term rounded down
unfoldable pub exponential_low : ℕ → ℕ
exponential_low x =
    let square = quotient_down (x * x) (2 * scale) in
    scale + x + square + quotient_down (square * x) (3 * scale)

-- 1 + x + x^2/2 + x^3/6 + 2x^4/24, each term rounded up
unfoldable pub exponential_high : ℕ → ℕ
exponential_high x =
    let square = quotient_up (x * x) (2 * scale) in
    let cube = quotient_up (square * x) (3 * scale) in
    scale + x + square + cube + 2 * quotient_up (cube * x) (4 * scale)

-- e^x at the low x of the logarithm times p/q
unfoldable pub remainder_low : (N r p q : ℕ) → ℕ
remainder_low N r p q = exponential_low (quotient_down (log_low N r * p) q)

-- and at the high one
unfoldable pub remainder_high : (N r p q : ℕ) → ℕ
remainder_high N r p q = exponential_high (quotient_up (log_high N r * p) q)

-- both
abbrev pub remainder_bounds_of : (N r p q : ℕ) → Bounds
remainder_bounds_of N r p q = record { low = remainder_low N r p q; high = remainder_high N r p q }

-- from 1 to 1.005, as a bound of what a small rest adds to a power is
pub record NearOne (w : ℕ) : Type 0 where
  pub from : scale ≤ w
  pub to : w ≤ 1005 * 10 ^ 9
