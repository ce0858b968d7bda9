use lib.Dec.{lit<, lit≤}
use native.Mathlib.Omega.{arith}
use mathlib.Core.Path.{◌≡◌, ap, ◌∙◌}
use Rattle.model.specs.Widths.{lane_value, of_related, at_traffic, width_unit}
use Rattle.model.specs.FactorBounds.{lane_column_within, lane_value_within}
use Rattle.bracket.specs.Ratio.{coded}
use Rattle.factors.proofs.widths.lane.Goals as goal

value : (c : goal.After-at_traffic) → c.at_traffic.result ≡ lane_value c.args.feet c.args.traffic
unfolding lane_value
value c = c.at_traffic.ensures ∙ ap (λ column. at_traffic column c.args.traffic) c.lane_column.ensures

pub at_traffic-requires : goal.at_traffic-requires
at_traffic-requires c = rw c.lane_column.ensures (lane_column_within c.args.feet)

pub of_related-requires : goal.of_related-requires
of_related-requires c =
    let a = c.args in
    (c.requires, lit< tt, lit≤ tt, rw (value c) (omega (arith, (lane_value_within a.feet a.traffic).1)))

pub returns : goal.returns
returns c = c.of_related.ensures ∙ ap (λ r. coded (of_related c.args.share r width_unit)) (value c.before)
