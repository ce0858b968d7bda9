-- The answer is by the range, and stands as its bracket is promised.
use Rattle.std.proofs.Common.{arith}
use Rattle.bracket.specs.Answer.{refused, given}
use Rattle.exponential.specs.Exponential.{exponential_answer}
use Rattle.exponential.proofs.ExponentialLaws.{exponential_answers}
use Rattle.exponential.proofs.exponential.Goals as goal

pub returns-then-x-gt-LIMIT : goal.returns-then-x-gt-LIMIT
unfolding exponential_answer
returns-then-x-gt-LIMIT c = let r = refused (exponential_answers c.args.x) (λ l. omega arith) in record { value = r.0; stands = r.1 }

pub returns : goal.returns
unfolding exponential_answer
returns c =
    let r = given (exponential_answers c.args.x) (omega arith) c.exponential_with.ensures in
    record { value = r.0; stands = r.1 }
