-- The bracket of ln a, and the answer of the call that makes it. With a = n m + r it is ln n + ln m + ln((n m + r)/(n m)).
use Rattle.std.specs.Prelude.{Option, ℕ, ◌+◌, ◌*◌, ◌≤◌, Bool, leb}
use Rattle.estimate.specs.Fraction.{whole}
use Rattle.laws.specs.Table.{both}
use Rattle.estimate.specs.Logarithm.{ln_under, ln_over}
use Rattle.bracket.specs.Bracket.{Stands, AbsoluteWidth, logarithm_width}
use Rattle.bracket.specs.Answer.{answer_where, AnswerPromised}
use Rattle.bracket.specs.declared.Bracket.{Bracket}
use Rattle.remainder.specs.Split.{first_factor, second_factor, split_rest}
use Rattle.remainder.specs.Remainder.{scale, log_low, log_high}
use Rattle.logarithm.specs.Stored.{stored_low, stored_high}

-- the low end in units of 10^-12
unfoldable pub logarithm_low : ℕ → ℕ
logarithm_low a = stored_low (first_factor a) + stored_low (second_factor a) + log_low (first_factor a * second_factor a) (split_rest a)

-- the high end
unfoldable pub logarithm_high : ℕ → ℕ
logarithm_high a = stored_high (first_factor a) + stored_high (second_factor a) + log_high (first_factor a * second_factor a) (split_rest a)

unfoldable pub logarithm_bracket : ℕ → Bracket
logarithm_bracket a = record { low_num = logarithm_low a; low_den = scale; high_num = logarithm_high a; high_den = scale }

-- THE PUBLIC CALL

-- the range stated for a bracket of a logarithm
pub record LogarithmRange (a : ℕ) : Type 0 where
  pub from_one : 1 ≤ a
  pub to_20000 : a ≤ 20000

-- the same as a test
unfoldable pub in_range : ℕ → Bool
in_range a = both (leb 1 a) (leb a 20000)

-- what the call answers
unfoldable pub logarithm_answer : ℕ → Option Bracket
logarithm_answer a = answer_where (in_range a) (logarithm_bracket a)

-- "brackets of the shared arithmetic, which stand to the estimates as a pair does and have a stated width"
pub record StandingLogarithm (a : ℕ) (b : Bracket) : Type 0 where
  pub stands : Stands b (λ d. ln_under d (whole a)) (λ d. ln_over d (whole a))
  pub narrow : AbsoluteWidth logarithm_width b

-- a bracket stands; no bracket is answered outside the range only
abbrev pub LogarithmStands : ℕ → Option Bracket → Type 0
LogarithmStands a = AnswerPromised (StandingLogarithm a) (LogarithmRange a → ⊥)
