-- STORED BRACKETS, for exponents that are known beforehand: the estimates of e^x or e^(-x) at one depth, rounded outward. What each is,
-- what it promises, and what a table of them is.
use Rattle.std.specs.Prelude.{ℕ, ◌+◌, ◌*◌, ◌^◌, ◌<◌, ◌≡◌, Bool, List, leb, eqb, get_or}
use Rattle.laws.specs.Table.{both, all_below}
use Rattle.estimate.specs.Fraction.{Fraction, fraction, ◌÷◌, inverse, ten_thousandths}
use Rattle.estimate.specs.Exponential.{exp_under, exp_over, exp_neg_under, exp_neg_over, partial_sum, sum_with_tail, sum_num, term_num, term_den}
use Rattle.estimate.specs.SignedExponent.{SignedExponent, signed_exp_under, signed_exp_over}
use Rattle.bracket.specs.declared.Bracket.{Bracket}
use Rattle.bracket.specs.Bracket.{Stands, RelativeWidth}
use Rattle.bracket.specs.Rounded.{rounded_outward}

-- the estimates at depth d, rounded outward to whole numbers over a scale; a test that opens it computes them
unfoldable pub exp_rounded : (scale d : ℕ) → SignedExponent → Bracket
unfolding rounded_outward exp_under exp_over exp_neg_under exp_neg_over inverse partial_sum sum_with_tail sum_num term_num term_den ten_thousandths fraction
exp_rounded scale d x = rounded_outward scale d (λ d. signed_exp_under d x) (λ d. signed_exp_over d x)

-- a power of ten, by which a division is cheap
abbrev pub stored_scale : ℕ
stored_scale = 10 ^ 13

-- the depth at which the estimates are taken
abbrev pub stored_depth : ℕ
stored_depth = 20

-- THE STORED BRACKET of e^x or e^(-x)
unfoldable pub stored_bracket : SignedExponent → Bracket
unfolding exp_rounded
stored_bracket x = exp_rounded stored_scale stored_depth x

-- THE RANGE: x up to 11, of either sign
abbrev pub stored_limit : ℕ
stored_limit = 110000

-- THE STATED WIDTH, 1 over this, relative to the high: two units of the scale are less, as e^(-11) has over 10^8 of them
unfoldable pub stored_width : ℕ
stored_width = 5 * 10 ^ 7

-- "the brackets of the shared arithmetic, which stand to the estimates as a pair does and have a stated width"
pub record StoredPromised (x : SignedExponent) (b : Bracket) : Type 0 where
  pub stands : Stands b (λ d. signed_exp_under d x) (λ d. signed_exp_over d x)
  pub width : RelativeWidth stored_width 1 b

-- its high end, and the test that a bound is one; what opens either computes the bracket
unfoldable pub stored_high : SignedExponent → Fraction
unfolding stored_bracket ◌÷◌
stored_high x = (stored_bracket x).high_num ÷ stored_scale

unfoldable pub stored_at_most : Fraction → SignedExponent → Bool
unfolding stored_bracket
stored_at_most most x = leb ((stored_bracket x).high_num * most.den) (most.num * (stored_bracket x).high_den)

-- A TABLE of n stored brackets: the two numerators of each side by side
pub record StoredBrackets (n : ℕ) (exponent : ℕ → SignedExponent) (table : List ℕ) : Type 0 where
  pub low : (i : ℕ) → i < n → get_or table (2 * i) 0 ≡ (stored_bracket (exponent i)).low_num
  pub high : (i : ℕ) → i < n → get_or table (2 * i + 1) 0 ≡ (stored_bracket (exponent i)).high_num

-- ITS TEST, which computes the bracket of each exponent
abbrev pub low_holds : (ℕ → SignedExponent) → List ℕ → ℕ → Bool
low_holds exponent table i = eqb (get_or table (2 * i) 0) (stored_bracket (exponent i)).low_num

abbrev pub high_holds : (ℕ → SignedExponent) → List ℕ → ℕ → Bool
high_holds exponent table i = eqb (get_or table (2 * i + 1) 0) (stored_bracket (exponent i)).high_num

unfoldable pub holds_stored : (n : ℕ) → (ℕ → SignedExponent) → List ℕ → Bool
unfolding all_below stored_bracket
holds_stored n exponent table = all_below (λ i. both (low_holds exponent table i) (high_holds exponent table i)) n

-- the bracket of an entry's two numbers
abbrev pub over_stored_scale : (low high : ℕ) → Bracket
over_stored_scale low high = record { low_num = low; low_den = stored_scale; high_num = high; high_den = stored_scale }
