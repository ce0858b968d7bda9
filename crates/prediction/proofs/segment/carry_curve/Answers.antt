use mathlib.Core.Path.{refl}
use Rattle.bracket.specs.CarryLaws.{further_exact}
use Rattle.model.specs.Alignment.{curve, superelevation}
use Rattle.model.specs.Parts.{curve_factors}
use Rattle.prediction.specs.Carrying.{through_all}
use Rattle.prediction.proofs.segment.carry_curve.Goals as goal

pub returns : goal.returns
unfolding curve_factors
returns c k =
    let a = c.args in
    let to-curve = further_exact {a = a.straight} (curve _ _ _) refl c.curve.ensures c.through_exact-after_curve.ensures in
    through_all k a.straight (curve_factors a.v)
    (further_exact (superelevation _) to-curve c.superelevation.ensures c.through_exact.ensures)
