use mathlib.Core.Path.{◌≡◌, ap, ◌∙◌}
use lib.Dec.{lit<, lit≤}
use Prim.Native.Nat.{◌+◌, ◌*◌, ◌<◌}
use Rattle.model.specs.Widths.{width_at, type_at, shoulder_value, type_value, shoulder_unit, of_related}
use Rattle.model.proofs.Neighbours.{columns_few}
use Rattle.model.specs.FactorBounds.{MeansWithin}
use Rattle.model.proofs.FactorBounds.{shoulder_value_within}
use Rattle.bracket.specs.Ratio.{coded}
use Rattle.factors.specs.Neighbours.{twice_mean_lem}
use Rattle.factors.proofs.widths.shoulder.Goals as goal
use Rattle.factors.proofs.widths.shoulder.Goals.{Start}

few : (c : goal.After-columns_of-columns) → (c.columns_of-columns.result.below < 5) × (c.columns_of-columns.result.above < 5)
few c = rw (c.columns_of-columns.ensures.0, c.columns_of-columns.ensures.1) (columns_few c.args.feet)

widths : (c : goal.After-widths_of-widths) → let a = c.args in
    c.widths_of-widths.result.below + c.widths_of-widths.result.above ≡ shoulder_value a.feet a.traffic
unfolding shoulder_value
widths c = let a = c.args in twice_mean_lem (width_at a.traffic) a.feet c.columns_of-columns.ensures c.widths_of-widths.ensures

types : (c : goal.After-types_of-types) → let a = c.args in
    c.types_of-types.result.below + c.types_of-types.result.above ≡ type_value a.surface a.feet
unfolding type_value
types c =
    let a = c.args in
    twice_mean_lem (type_at a.surface) a.feet c.columns_of-columns.ensures c.types_of-types.ensures

within : (s : Start) → MeansWithin (shoulder_value s.args.feet s.args.traffic) (type_value s.args.surface s.args.feet)
within s = shoulder_value_within s.args.surface s.args.feet s.args.traffic s.requires.1

value : (c : goal.After-product_of_means-value) → let a = c.args in
    c.product_of_means-value.result ≡ shoulder_value a.feet a.traffic * type_value a.surface a.feet
value c = rw (widths c.before.before, types c.before) at c.product_of_means-value.ensures

pub widths_of-widths-requires : goal.widths_of-widths-requires
widths_of-widths-requires c = few c

pub types_of-types-requires : goal.types_of-types-requires
types_of-types-requires c = (c.requires.1, (few c.before).0, (few c.before).1)

pub product_of_means-value-requires : goal.product_of_means-value-requires
product_of_means-value-requires c = rw (widths c.before, types c) (within c.before.before.before)

pub of_related-requires : goal.of_related-requires
of_related-requires c =
    (c.requires.0, lit< tt, lit≤ tt, rw (value c) (within c.before.before.before.before).at_most)

pub returns : goal.returns
returns c =
    c.of_related.ensures ∙ ap (λ r. coded (of_related c.args.share r shoulder_unit)) (value c.before)
