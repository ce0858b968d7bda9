-- A bracket stands to estimates that are functions of the depth as document 01's pairs do, and has a stated width.
use Rattle.std.specs.Prelude.{ℕ, ◌+◌, ◌*◌, ◌^◌, ◌≤◌, ◌<◌}
use Rattle.estimate.specs.Fraction.{Fraction, fraction, ◌≤ᶠ◌}
use Rattle.estimate.specs.Standing.{LowRight, HighRight}
use Rattle.bracket.specs.declared.Bracket.{Bracket}

-- "an exact figure stands between two numbers when both are right", and "no low passes its high"
pub record Stands (b : Bracket) (under over : ℕ → Fraction) : Type 0 where
  pub low_den : 0 < b.low_den
  pub high_den : 0 < b.high_den
  pub low_right : LowRight (fraction b.low_num b.low_den low_den) over
  pub high_right : HighRight (fraction b.high_num b.high_den high_den) under
  pub in_order : fraction b.low_num b.low_den low_den ≤ᶠ fraction b.high_num b.high_den high_den

-- high - low is at most high * r / R
pub record RelativeWidth (R r : ℕ) (b : Bracket) : Type 0 where
  pub width : R * (b.high_num * b.low_den) ≤ R * (b.low_num * b.high_den) + r * (b.high_num * b.low_den)

-- high - low is at most 1 / R
pub record AbsoluteWidth (R : ℕ) (b : Bracket) : Type 0 where
  pub width : R * (b.high_num * b.low_den) ≤ R * (b.low_num * b.high_den) + b.high_den * b.low_den

-- THE STATED WIDTHS, 1 over these: powers and exponentials relative to their high, logarithms absolute. Document 02, request 8: "The
-- power bracket, and those of the exponential and logarithm with it, must narrow"
unfoldable pub power_width : ℕ
power_width = 10 ^ 8

unfoldable pub exponential_width : ℕ
exponential_width = 10 ^ 10

unfoldable pub logarithm_width : ℕ
logarithm_width = 10 ^ 8
