-- e^f for f in ten-thousandths, by the terms of its sum at the scale.
use Rattle.std.specs.Prelude.{ℕ, zero, suc, ◌+◌, ◌*◌}
use Rattle.wide.specs.Scaling.{floor, ceiling}
use Rattle.exponential.specs.Scale.{scale}

-- the term f^k/k!, made from the one before it, rounded down at each
unfoldable pub term_low : (f k : ℕ) → ℕ
term_low f zero = scale
term_low f (suc k) = floor (term_low f k) f (10000 * suc k)

-- and rounded up at each
unfoldable pub term_high : (f k : ℕ) → ℕ
term_high f zero = scale
term_high f (suc k) = ceiling (term_high f k) f (10000 * suc k)

-- "the sum of x^i/i! for i from 0 to" k, of the terms rounded down
unfoldable pub sum_low : (f k : ℕ) → ℕ
sum_low f zero = scale
sum_low f (suc k) = sum_low f k + term_low f (suc k)

-- of the terms rounded up
unfoldable pub sum_high : (f k : ℕ) → ℕ
sum_high f zero = scale
sum_high f (suc k) = sum_high f k + term_high f (suc k)

-- the sum to the 16th term
unfoldable pub taylor_low : ℕ → ℕ
taylor_low f = sum_low f 16

-- and, with m = 16, "over adds 2x^(m+1)/(m+1)!"
unfoldable pub taylor_high : ℕ → ℕ
taylor_high f = sum_high f 16 + 2 * term_high f 17
