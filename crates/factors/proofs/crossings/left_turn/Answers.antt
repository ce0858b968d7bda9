-- The table of either edition, filled up, is the code's.
use Rattle.std.proofs.Common.{◌∙◌}
use Rattle.laws.specs.Table.{all_below}
use Rattle.model.specs.Coefficients.{edition_one, left_turn_one, edition_two, left_turn_two}
use Rattle.model.specs.Crossings.{left_turn}
use Rattle.model.specs.Editions.{first_edition, second_edition}
use Rattle.factors.specs.TurnLanes.{turn_lanes_lem}
use Rattle.factors.proofs.crossings.left_turn.Goals as goal

pub returns-then-edition-le1 : goal.returns-then-edition-le1
unfolding left_turn edition_one all_below
returns-then-edition-le1 c =
    let a = c.args in
    rw (first_edition _ c.if-edition-le1.true) (c.turn_lanes.ensures ∙ turn_lanes_lem left_turn_one tt a.kind a.lanes c.requires)

pub returns : goal.returns
unfolding left_turn edition_two all_below
returns c =
    let a = c.args in
    rw (second_edition _ c.if-edition-le1.false) (c.turn_lanes-2.ensures ∙ turn_lanes_lem left_turn_two tt a.kind a.lanes c.requires)
