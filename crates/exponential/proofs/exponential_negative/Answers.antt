-- The answer for e^x, its fractions turned over and exchanged.
use Rattle.std.proofs.Common.{arith}
use Rattle.bracket.specs.Answer.{refused}
use Rattle.exponential.specs.Exponential.{exponential_negative_answer}
use Rattle.exponential.proofs.ExponentialLaws.{exponential_negative_answers, negative_given}
use Rattle.exponential.proofs.exponential_negative.Goals as goal

pub returns-in_err-b : goal.returns-in_err-b
unfolding exponential_negative_answer
returns-in_err-b c =
    let r = refused (exponential_negative_answers c.args.x) (λ l. omega (arith, c.in_err-b.ensures.stands)) in
    rw c.from_residual.ensures (record { value = r.0; stands = r.1 })

pub returns : goal.returns
returns c = let r = negative_given c.args.x c.in_ok-b.ensures.value in rw c.reciprocal.ensures (record { value = r.0; stands = r.1 })
