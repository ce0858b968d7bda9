use native.Mathlib.Omega.{arith}
use borrow.Author.Tests.{le-leb, lt-leb}
use Rattle.estimate.specs.Fraction.{◌÷◌, fraction}
use Rattle.model.specs.Coefficients.{edition_two}
use Rattle.factors.proofs.alignment.grade_class.Statement.{statement}
use Rattle.factors.proofs.alignment.grade_class.Tie as tie

-- each answer by itself, so that no goal is cited by the test that it follows
pub grade_class_spec : {M : Type 1} → statement M
unfolding edition_two ◌÷◌ fraction
grade_class_spec =
    tie.close
    (tie.spec
    (λ c. simp (le-leb c.args.percent 3 (omega arith)))
    (λ c. let percent = c.args.percent in simp (lt-leb percent 3 (omega arith), le-leb percent 6 (omega arith)))
    (λ c. let percent = c.args.percent in simp (lt-leb percent 3 (omega arith), lt-leb percent 6 (omega arith))))
