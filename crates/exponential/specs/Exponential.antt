-- The brackets of e^x and e^(-x), x in ten-thousandths, what the calls answer, and what an answer promises.
use Rattle.std.specs.Prelude.{Option, ℕ, ◌+◌, ◌*◌, ◌/◌, ◌%◌, ◌<◌, leb}
use Rattle.estimate.specs.Fraction.{Fraction, ten_thousandths}
use Rattle.estimate.specs.Exponential.{exp_under, exp_over, exp_neg_under, exp_neg_over}
use Rattle.wide.specs.Scaling.{floor, ceiling}
use Rattle.bracket.specs.Bracket.{Stands, RelativeWidth, exponential_width}
use Rattle.bracket.specs.Answer.{answer_where, AnswerPromised}
use Rattle.bracket.specs.Reciprocal.{reciprocal}
use Rattle.bracket.specs.declared.Bracket.{Bracket}
use Rattle.exponential.specs.Scale.{scale}
use Rattle.exponential.specs.Stored.{stored_exp}
use Rattle.exponential.specs.Taylor.{taylor_low, taylor_high}

-- e^x = e^i * e^f for the whole part i and the rest f, rounded down at the scale
unfoldable pub exp_low : ℕ → ℕ
exp_low x = floor (stored_exp (x / 10000)) (taylor_low (x % 10000)) scale

-- and rounded up, from the next stored number
unfoldable pub exp_high : ℕ → ℕ
exp_high x = ceiling (stored_exp (x / 10000) + 1) (taylor_high (x % 10000)) scale

-- within the range each is at least 1 and at most 1,300,000 at the scale
abbrev pub exp_most : ℕ
exp_most = 1300000 * scale

-- low / 10^12 and high / 10^12
abbrev pub at_scale : (low high : ℕ) → Bracket
at_scale low high = record { low_num = low; low_den = scale; high_num = high; high_den = scale }

-- e^x
unfoldable pub exp_bracket : ℕ → Bracket
exp_bracket x = at_scale (exp_low x) (exp_high x)

-- "For e^(−x), reciprocals, exchanged."
unfoldable pub exp_neg_bracket : ℕ → Bracket
exp_neg_bracket x = reciprocal (exp_bracket x)

-- THE RANGE: x from 0 to 14
abbrev pub exponential_limit : ℕ
exponential_limit = 140000

-- what the calls answer for e^x
unfoldable pub exponential_answer : ℕ → Option Bracket
exponential_answer x = answer_where (leb x exponential_limit) (exp_bracket x)

-- and for e^(-x)
unfoldable pub exponential_negative_answer : ℕ → Option Bracket
exponential_negative_answer x = answer_where (leb x exponential_limit) (exp_neg_bracket x)

-- "the brackets of the shared arithmetic, which stand to the estimates as a pair does and have a stated width"
pub record Promised (under over : ℕ → Fraction) (b : Bracket) : Type 0 where
  pub stands : Stands b under over
  pub width : RelativeWidth exponential_width 1 b

-- the estimates of e^x, at every depth
abbrev pub OfExponential : ℕ → Bracket → Type 0
OfExponential x = Promised (λ d. exp_under d (ten_thousandths x)) (λ d. exp_over d (ten_thousandths x))

-- and those of e^(-x)
abbrev pub OfExponentialNegative : ℕ → Bracket → Type 0
OfExponentialNegative x = Promised (λ d. exp_neg_under d (ten_thousandths x)) (λ d. exp_neg_over d (ten_thousandths x))

-- an answer within the range has such a bracket, and only an argument outside it has none
abbrev pub ExponentialStands : ℕ → Option Bracket → Type 0
ExponentialStands x = AnswerPromised (OfExponential x) (exponential_limit < x)

abbrev pub ExponentialNegativeStands : ℕ → Option Bracket → Type 0
ExponentialNegativeStands x = AnswerPromised (OfExponentialNegative x) (exponential_limit < x)
