use Rattle.std.proofs.Common.{arith, ◌≡◌, ◌-◌, ◌*◌}
use Rattle.power.specs.Ends.{bracket_by_ends}
use Rattle.power.proofs.power_with.Goals.{After-split-s}
use Rattle.power.proofs.power_with.Goals as goal

-- the base without its rest is n m
product : (c : After-split-s) → let s = c.split-s.result in c.args.base - s.r ≡ s.n * s.m
product c = omega (arith, c.split-s.ensures.parts.is)

pub returns : goal.returns
returns c =
    rw (c.end_of.ensures, c.end_of-2.ensures, c.product_of-low.ensures.value, c.product_of-high.ensures.value)
    (rw (c.remainder_bounds-remainder.ensures.value, product (goal.at.returns c).After-split-s, c.hundredths.ensures, c.stored_bounds-second.ensures.value, c.stored_bounds-first.ensures.value, c.split-s.ensures.value)
    (bracket_by_ends c.args.base _ 100))
