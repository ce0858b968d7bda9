-- The stored number and the ends of the rest are the definition's, and so are their products.
use Rattle.std.proofs.Common.{arith}
use Rattle.exponential.specs.Scale.{scale_positive}
use Rattle.exponential.proofs.Ends.{Ends, ends}
use Rattle.exponential.proofs.exponential_with.Goals.{After-taylor-t}
use Rattle.exponential.proofs.exponential_with.Goals as goal

found : (c : After-taylor-t) → let t = c.taylor-t.result in Ends c.args.x c.stored_exp-e.result t.low t.high
found c = ends c.requires c.stored_exp-e.ensures c.taylor-t.ensures.0 c.taylor-t.ensures.1

pub times_down-requires : goal.times_down-requires
times_down-requires c = (scale_positive, (found (goal.at.times_down-requires c).After-taylor-t).low_fits)

pub overflow_add-e : goal.overflow_add-e
overflow_add-e c = omega (arith, (found (goal.at.overflow_add-e c).After-taylor-t).next_fits)

pub times_up-requires : goal.times_up-requires
times_up-requires c = (scale_positive, (found (goal.at.times_up-requires c).After-taylor-t).high_fits)

pub returns : goal.returns
returns c = rw (c.times_down.ensures, c.times_up.ensures) (found (goal.at.returns c).After-taylor-t).bracket_is
