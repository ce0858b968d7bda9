use Rattle.std.proofs.Common.{arith}
use Rattle.laws.specs.Quotient.{RoundedDown, rounded_down, rounded_up_is, up_from_down, up_where_exact}
use Rattle.remainder.proofs.up_from.Goals.{Start}
use Rattle.remainder.proofs.up_from.Goals as goal

rounded : (c : Start) → RoundedDown c.args.a c.args.d c.args.q
rounded c = rw c.requires.1 (rounded_down c.args.a c.args.d c.requires.0)

pub returns-then-q-d-clause-value : goal.returns-then-q-d-clause-value
returns-then-q-d-clause-value c =
    rounded_up_is c.requires.0 (up_from_down (rounded (goal.at.returns-then-q-d-clause-value c).Start) (omega arith))

pub returns-clause-value : goal.returns-clause-value
returns-clause-value c = rounded_up_is c.requires.0 (up_where_exact c.requires.0 (rounded (goal.at.returns-clause-value c).Start) (omega arith))
