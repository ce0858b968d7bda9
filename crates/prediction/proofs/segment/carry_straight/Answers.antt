use Rattle.std.specs.Prelude.{Some}
use mathlib.Core.Path.{refl}
use native.Mathlib.Omega.{arith}
use Rattle.bracket.specs.CarryLaws.{further, further_exact}
use Rattle.factors.specs.Edition.{lane_of, shoulder_of}
use Rattle.model.specs.Coefficients.{coefficients_of}
use Rattle.model.specs.Widths.{lane, shoulder}
use Rattle.model.specs.Access.{two_way_lane, passing}
use Rattle.model.specs.Parts.{straight_factors}
use Rattle.prediction.specs.Editions.{edition_rated}
use Rattle.prediction.specs.Carrying.{through_all}
use Rattle.prediction.proofs.segment.carry_straight.Goals as goal

pub lane-lane_factor-requires : goal.lane-lane_factor-requires
lane-lane_factor-requires c = omega (arith, c.coefficients_of-k.ensures.share_is, (edition_rated c.args.edition).bounded.share_most)

pub shoulder-shoulder_factor-requires : goal.shoulder-shoulder_factor-requires
shoulder-shoulder_factor-requires c =
    (omega (arith, c.coefficients_of-k.ensures.share_is, (edition_rated c.args.edition).bounded.share_most), c.requires.type_most)

pub two_way_lane-requires : goal.two_way_lane-requires
two_way_lane-requires c = c.requires.driveways_most_lem

pub passing-requires : goal.passing-requires
passing-requires c = c.requires.passing_most

pub hazard_factor-requires : goal.hazard_factor-requires
hazard_factor-requires c = (c.requires.rating_least, c.requires.rating_most)

pub driveways_with-driveway_factor-requires : goal.driveways_with-driveway_factor-requires
driveways_with-driveway_factor-requires c =
    let sizes = c.requires in
    let is = c.coefficients_of-k.ensures.constant_is in
    let rated = edition_rated c.args.edition in
    (omega (arith, is, rated.constant_most), omega (arith, is, rated.constant_least), sizes.driveways_most_lem, sizes.traffic.least, sizes.traffic.most)

pub returns : goal.returns
unfolding straight_factors
returns c =
    let held = c.coefficients_of-k.ensures in
    let a = c.args in
    let k = coefficients_of a.edition in
    let start = a.start in
    let to-base = further {a = Some (start, start)} refl c.base_factor.ensures c.through-after_base.ensures in
    let to-lane = further_exact (lane k _ _) to-base (lane_of held _ _ c.lane-lane_factor.ensures) c.through_exact-after_lane.ensures in
    let shoulder-is = shoulder_of held _ _ _ c.shoulder-shoulder_factor.ensures in
    let to-shoulder = further_exact (shoulder k _ _ _) to-lane shoulder-is c.through_exact-after_shoulder.ensures in
    let to-grade = further_exact (k.grade _) to-shoulder c.grade.ensures c.through_exact-after_grade.ensures in
    let to-steep = further_exact (k.steep_grade _) to-grade c.steep_grade.ensures c.through_exact-after_steep_grade.ensures in
    let to-two-way = further_exact (two_way_lane _ _) to-steep c.two_way_lane.ensures c.through_exact-after_two_way.ensures in
    let to-passing = further_exact (passing _) to-two-way c.passing.ensures c.through_exact-after_passing.ensures in
    let to-hazard = further to-passing c.hazard_factor.ensures c.through-after_hazard.ensures in
    let bracket = rw (held.constant_is, held.fewest_is) at c.driveways_with-driveway_factor.ensures in
    through_all k (Some (start, start)) (straight_factors a.v) (further to-hazard bracket c.through.ensures)
