use native.Mathlib.Nat.{pos_of_ne-zero}
use Rattle.site.specs.Numbers.{segment_sizes, crossing_sizes}
use Rattle.model.specs.Parts.{term_at}
use Rattle.prediction.specs.Carrying.{segment_pair_lem, crossing_pair_lem}
use Rattle.prediction.proofs.term.term_pair.Goals as goal

pub carry_segment-requires : goal.carry_segment-requires
carry_segment-requires c =
    let p = c.requires in
    let sizes = segment_sizes _ _ _ p.1 c.if-site-eq0.true _ p.2.traffic in
    (p.2.years_most, p.0.segments_most, rw c.segment_of-road.ensures sizes)

pub returns-then-site-eq0 : goal.returns-then-site-eq0
returns-then-site-eq0 c =
    let a = c.args in
    let term = term_at a.years a.traffic a.minor in
    rw (← segment_pair_lem _ a.header a.site term c.segment_of-road.ensures c.if-site-eq0.true, ← c.carry_segment.ensures)
    c.round_outward.ensures

pub carry_crossing-requires : goal.carry_crossing-requires
carry_crossing-requires c =
    let p = c.requires in
    let from = pos_of_ne-zero c.if-site-eq0.false in (
      p.2.years_most,
      p.0.crossings_most,
      rw c.crossing_of-crossing.ensures (crossing_sizes _ _ _ p.1 from _ _ p.2.traffic (p.2.minor from)),
    )

pub returns : goal.returns
returns c =
    let a = c.args in
    let term = term_at a.years a.traffic a.minor in
    rw (← crossing_pair_lem _ a.header a.site term c.crossing_of-crossing.ensures c.if-site-eq0.false, ← c.carry_crossing.ensures)
    c.round_outward-2.ensures
