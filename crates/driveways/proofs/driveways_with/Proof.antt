-- Each answer is the definition's case: below the threshold, and with the ends as they are or exchanged.
use mathlib.Core.Path.{sym, ◌∙◌}
use native.Mathlib.Omega.{arith}
use borrow.Author.Rules.{rules}
use Rattle.estimate.specs.Fraction.{whole, fraction}
use Rattle.logarithm.specs.Logarithm.{logarithm_bracket}
use Rattle.driveways.specs.DrivewayLaws.{bracket_below}
use Rattle.driveways.proofs.Cases.{low_fits, high_fits, rising_ends, falling_ends}
use Rattle.driveways.proofs.driveways_with.Statement.{statement}
use Rattle.driveways.proofs.driveways_with.Tie as tie

value_at_requires : tie.Need-value_at-at_low-requires
value_at_requires c κs =
    let f = low_fits c.args.traffic c.requires.3 c.requires.4 c.logarithm_with-ln.ensures in
    (c.requires.1, c.requires.0, c.requires.2, f.0, f.1, f.2)

value_at_requires_2 : tie.Need-value_at-at_high-requires
value_at_requires_2 c κs =
    let f = high_fits c.args.traffic c.requires.3 c.requires.4 c.logarithm_with-ln.ensures in
    (c.requires.1, c.requires.0, c.requires.2, f.0, f.1, f.2)

-- each answer by itself, so that no goal is cited by the test that it follows
pub driveways_with_spec : {M : Type 1} → statement M
unfolding whole fraction
driveways_with_spec =
    tie.close
    (tie.spec
    (λ c κs. search rules)
    (λ c.
    let a = c.args in
    c.span.ensures ∙ sym (bracket_below a.constant a.fewest a.driveways (logarithm_bracket a.traffic) (omega arith)))
    (λ c κs. search rules)
    value_at_requires
    value_at_requires_2
    (λ c κs. search rules)
    (λ c.
    let a = c.args in
    c.span-then-driveways-lt5.ensures
    ∙ rising_ends a.constant a.fewest a.driveways c.logarithm_with-ln.ensures c.value_at-at_low.ensures c.value_at-at_high.ensures
    (omega arith) (omega arith))
    (λ c κs. search rules)
    (λ c.
    let a = c.args in
    c.span-2.ensures
    ∙ falling_ends a.constant a.fewest a.driveways c.logarithm_with-ln.ensures c.value_at-at_low.ensures c.value_at-at_high.ensures
    (omega arith) (omega arith)))
