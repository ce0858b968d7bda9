use Rattle.model.specs.Coefficients.{coefficients_of}
use Rattle.prediction.specs.Carrying.{straight_carried, curve_carried}
use Rattle.prediction.proofs.segment.carry_segment.Goals as goal

pub carry_curve-requires : goal.carry_curve-requires
carry_curve-requires c = c.requires.2.bend c.if-v.true

pub returns-then-v : goal.returns-then-v
returns-then-v c =
    let a = c.args in
    let k = coefficients_of a.edition in
    rw (← c.segment_start-start.ensures, ← curve_carried k a.v _ c.if-v.true, ← c.carry_straight-straight.ensures) (c.carry_curve.ensures k)

pub returns : goal.returns
returns c =
    let a = c.args in
    rw (← c.segment_start-start.ensures, ← straight_carried (coefficients_of a.edition) a.v _ c.if-v.false) c.carry_straight-straight.ensures
