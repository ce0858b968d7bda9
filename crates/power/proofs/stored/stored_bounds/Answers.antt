use Rattle.std.proofs.Common.{arith}
use Rattle.power.specs.Exponents.{exponent_is}
use Rattle.power.specs.Stored.{stored_near}
use Rattle.power.specs.Ends.{stored_small}
use Rattle.power.proofs.stored.stored_bounds.Goals as goal

pub returns-clause-small : goal.returns-clause-small
returns-clause-small c =
    let a = c.args in
    let p = c.requires in
    let t = a.powers.now.stored in
    let small = stored_small a.exponent a.k p.0 p.1 p.2 in
    (omega (arith, t.low a.exponent a.k p.0 p.1 p.2, small), omega (arith, t.high a.exponent a.k p.0 p.1 p.2, small, stored_near a.k _ 100 (exponent_is a.exponent p.0)))
