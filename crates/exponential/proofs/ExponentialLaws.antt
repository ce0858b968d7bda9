-- The brackets of e^x and e^(-x) stand at every depth and have the stated width; what is answered stands.
use Rattle.std.specs.Prelude.{Some, ℕ, ◌≡◌, ◌≤◌, ◌<◌, leb}
use Rattle.std.proofs.Common.{lt_of_not-le, arith, leb→le, le-leb, sym, ap}
use Rattle.std.proofs.lemmas.Bool.{leb-true}
use Rattle.std.proofs.lemmas.Option.{cond_some}
use Rattle.estimate.specs.Fraction.{fraction, ten_thousandths}
use Rattle.estimate.specs.Exponential.{exp_under, exp_over, exp_neg_under, exp_neg_over, exp_under_positive, exp_over_positive}
use Rattle.estimate.proofs.ExponentialBounds.{within_tail_law, exp_low_stands}
use Rattle.estimate.specs.ExponentialBounds.{exp_high_stands}
use Rattle.bracket.specs.Bracket.{Stands, RelativeWidth, exponential_width}
use Rattle.bracket.specs.declared.Bracket.{Bracket}
use Rattle.bracket.specs.Answer.{Answers, answer_stands, given}
use Rattle.bracket.specs.Reciprocal.{reciprocal, reciprocal_stands, reciprocal_width}
use Rattle.exponential.specs.Scale.{scale_positive, scaled}
use Rattle.exponential.specs.Exponential.{exp_bracket, exp_neg_bracket, exponential_limit, exponential_answer, exponential_negative_answer}
use Rattle.exponential.specs.Exponential.{OfExponential, OfExponentialNegative, ExponentialStands, ExponentialNegativeStands}
use Rattle.exponential.specs.ExponentialEnds.{exp_low_at_most}
use Rattle.exponential.proofs.ExponentialEnds.{exp_high_at_least, exp_ends_in_order, exp_ends_close, exp_low_least}

module _ (x : ℕ) (within : x ≤ exponential_limit) where
  exp_stands : Stands (exp_bracket x) (λ d. exp_under d (ten_thousandths x)) (λ d. exp_over d (ten_thousandths x))
  unfolding exp_bracket scaled fraction
  exp_stands = record {
    low_den = scale_positive;
    high_den = scale_positive;
    low_right = exp_low_stands (within_tail_law x (omega arith)) (exp_low_at_most x);
    high_right = exp_high_stands (exp_high_at_least x within);
    in_order = exp_ends_in_order x within;
  }

  exp_width : RelativeWidth exponential_width 1 (exp_bracket x)
  unfolding exp_bracket
  exp_width = record { width = omega (arith, exp_ends_close x within) }

  pub exp_promised : OfExponential x (exp_bracket x)
  exp_promised = record { stands = exp_stands; width = exp_width }

  pub exp_neg_promised : OfExponentialNegative x (exp_neg_bracket x)
  unfolding exp_neg_bracket exp_neg_under exp_neg_over exp_bracket
  exp_neg_promised = record {
    stands = reciprocal_stands exp_promised.stands (omega (arith, exp_low_least x within)) (λ d. exp_under_positive d _) (λ d. exp_over_positive d _);
    width = reciprocal_width exp_promised.width;
  }

-- THE ANSWERS

by_range : (x : ℕ) (P : Bracket → Type 0) (b : Bracket) → (x ≤ exponential_limit → P b)
    → Answers (x ≤ exponential_limit) P (exponential_limit < x) (leb x exponential_limit) b
by_range x P b kept = record { passed = le-leb x exponential_limit; within = leb→le x exponential_limit; kept = kept; outside = lt_of_not-le }

module _ (x : ℕ) where
  pub exponential_answers : Answers (x ≤ exponential_limit) (OfExponential x) (exponential_limit < x) (leb x exponential_limit) (exp_bracket x)
  exponential_answers = by_range x (OfExponential x) (exp_bracket x) (exp_promised x)

  pub exponential_negative_answers : Answers (x ≤ exponential_limit) (OfExponentialNegative x) (exponential_limit < x) (leb x exponential_limit) (exp_neg_bracket x)
  exponential_negative_answers = by_range x (OfExponentialNegative x) (exp_neg_bracket x) (exp_neg_promised x)

  pub exponential_stands : ExponentialStands x (exponential_answer x)
  unfolding exponential_answer
  exponential_stands = answer_stands exponential_answers

  pub exponential_negative_stands : ExponentialNegativeStands x (exponential_negative_answer x)
  unfolding exponential_negative_answer
  exponential_negative_stands = answer_stands exponential_negative_answers

  -- the answer for e^(-x) from the one for e^x
  pub negative_given : {b : Bracket} → Some b ≡ exponential_answer x → (Some (reciprocal b) ≡ exponential_negative_answer x) × OfExponentialNegative x (reciprocal b)
  unfolding exponential_answer exponential_negative_answer exp_neg_bracket
  negative_given {b} e =
      let p = cond_some (leb x exponential_limit) (exp_bracket x) b (sym e) in
      given exponential_negative_answers (leb-true x exponential_limit p.0) (ap reciprocal (sym p.1))
