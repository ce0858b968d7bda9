-- The start through one factor after another, in the order of the crossing's list.
use Rattle.std.specs.Prelude.{Some}
use Rattle.std.proofs.Common.{refl}
use Rattle.bracket.specs.CarryLaws.{further, further_exact}
use Rattle.model.specs.Coefficients.{coefficients_of}
use Rattle.model.specs.Crossings as crossings
use Rattle.model.specs.Crossings.{left_turn, right_turn}
use Rattle.model.specs.Parts.{crossing_factors}
use Rattle.prediction.specs.Pair.{crossing_units}
use Rattle.prediction.specs.Carrying.{major_placed, minor_placed, placed_power, through_all}
use Rattle.prediction.proofs.crossing.carry_crossing.Goals as goal

pub returns : goal.returns
unfolding crossing_factors
returns c =
    let a = c.args in
    let sizes = c.requires.2 in
    let k = coefficients_of a.edition in
    let start = crossing_units a.years a.calibration in
    let major_is = placed_power _ (major_placed _ sizes.kind_least sizes.kind_most) c.kind_numbers-by_kind.ensures.major c.power_with-major.ensures in
    let minor_is = placed_power _ (minor_placed _ sizes.kind_least sizes.kind_most) c.kind_numbers-by_kind.ensures.minor c.power_with-minor.ensures in
    let to_major = further {a = Some (start, start)} refl major_is c.through-after_major.ensures in
    let to_minor = further to_major minor_is c.through-after_minor.ensures in
    let to_left = further_exact (left_turn k _ _) to_minor c.left_turn.ensures c.through_exact-after_left.ensures in
    let to_right = further_exact (right_turn k _ _) to_left c.right_turn.ensures c.through_exact-after_right.ensures in
    let to_sight = further_exact (crossings.sight _) to_right c.sight.ensures c.through_exact-after_sight.ensures in
    let to_skew = further to_sight c.skew_factor.ensures c.through-after_skew.ensures in
    through_all k (Some (start, start)) (crossing_factors a.v) (further to_skew c.base_factor.ensures c.through.ensures)
