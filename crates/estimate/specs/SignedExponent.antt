-- An exponent of e with its sign, and the estimates of e to it at depth d.
use Rattle.std.specs.Prelude.{ℕ}
use Rattle.estimate.specs.Fraction.{Fraction, ten_thousandths}
use Rattle.estimate.specs.Exponential.{exp_under, exp_over, exp_neg_under, exp_neg_over}

-- x and -x, x in ten-thousandths
pub data SignedExponent : Type 0 where
  Plus : ℕ → SignedExponent
  Minus : ℕ → SignedExponent

-- without its sign
abbrev pub size : SignedExponent → ℕ
size (Plus x) = x
size (Minus x) = x

-- the under-estimate of e^x or of e^(-x)
abbrev pub signed_exp_under : (d : ℕ) → SignedExponent → Fraction
signed_exp_under d (Plus x) = exp_under d (ten_thousandths x)
signed_exp_under d (Minus x) = exp_neg_under d (ten_thousandths x)

-- and the over-estimate
abbrev pub signed_exp_over : (d : ℕ) → SignedExponent → Fraction
signed_exp_over d (Plus x) = exp_over d (ten_thousandths x)
signed_exp_over d (Minus x) = exp_neg_over d (ten_thousandths x)
