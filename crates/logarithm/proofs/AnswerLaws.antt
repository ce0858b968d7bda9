-- The answer of the public call: its test is the range's, and the bracket that is answered stands.
use Rattle.std.specs.Prelude.{ℕ, leb}
use borrow.Author.Tests.{le-leb}
use Rattle.std.proofs.Math.Dec.{leb→le}
use Rattle.laws.specs.Table.{both_left, both_right}
use Rattle.bracket.specs.Answer.{Answers, answer_stands}
use Rattle.logarithm.specs.Logarithm.{logarithm_bracket, LogarithmRange, in_range, StandingLogarithm, logarithm_answer, LogarithmStands}
use Rattle.logarithm.proofs.LogarithmStanding.{logarithm_standing}

module _ (a : ℕ) where
  pub logarithm_answers : Answers (LogarithmRange a) (StandingLogarithm a) (LogarithmRange a → ⊥) (in_range a) (logarithm_bracket a)
  unfolding in_range
  logarithm_answers = record {
    passed = λ r. rw (le-leb 1 a r.from_one, le-leb a 20000 r.to_20000);
    within = λ t. record {
      from_one = leb→le 1 a (both_left (leb 1 a) (leb a 20000) t);
      to_20000 = leb→le a 20000 (both_right (leb 1 a) (leb a 20000) t);
    };
    kept = λ r. logarithm_standing a r.from_one r.to_20000;
    outside = λ f. f;
  }

  pub logarithm_answer_stands : LogarithmStands a (logarithm_answer a)
  unfolding logarithm_answer
  logarithm_answer_stands = answer_stands logarithm_answers
