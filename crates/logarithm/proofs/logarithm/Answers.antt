use Rattle.std.proofs.Common.{arith}
use Rattle.bracket.specs.Answer.{refused, given}
use Rattle.logarithm.specs.Logarithm.{logarithm_answer}
use Rattle.logarithm.proofs.AnswerLaws.{logarithm_answers}
use Rattle.logarithm.proofs.logarithm.Goals as goal

pub returns-then-a-lt1 : goal.returns-then-a-lt1
unfolding logarithm_answer
returns-then-a-lt1 c =
    let r = refused (logarithm_answers c.args.a) (λ r. omega (arith, r.from_one, r.to_20000)) in
    record { value = r.0; stands = r.1 }

pub returns : goal.returns
unfolding logarithm_answer
returns c =
    let r = given (logarithm_answers c.args.a) (record { from_one = omega arith; to_20000 = omega arith }) c.logarithm_with.ensures in
    record { value = r.0; stands = r.1 }
