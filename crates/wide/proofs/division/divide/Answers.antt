-- Two digit steps on the number and the divisor, both scaled by `norm`.
use Prim.Native.Nat.{◌^◌}
use Rattle.wide.proofs.division.Laws.{scaled, two_digits}
use Rattle.wide.proofs.division.divide.Goals as goal

pub returns : goal.returns
returns c =
    let p = c.product-t in
    let n = c.norm-p.result in
    let a = c.args in
    two_digits _ a.d n _ (2 ^ 32) _ _ c.digit-q1.result c.left_over-r1.result c.digit-q0.result
    (scaled a.w.high a.w.low n p.result.high p.result.low p.ensures) c.left_over-r1.ensures c.digit-q0.ensures.0 c.digit-q0.ensures.1
