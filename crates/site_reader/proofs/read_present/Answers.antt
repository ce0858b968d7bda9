-- The later values of both traffics are in the range, and the fields tell.
use Rattle.std.proofs.Common.{sym, ◌∙◌}
use Rattle.laws.specs.Walk.{part_from}
use Rattle.site_reader.proofs.read_present.Goals as goal

pub returns : goal.returns
returns c =
    let same = rw c.from.ensures at c.minor_later-minor.ensures.0 in
    let traffic = sym c.are_later_allowed.ensures ∙ c.if-not-are_later_allowed.false in
    let told = rw same at (sym c.are_later_allowed-else-not-are_later_allowed.ensures ∙ c.if-not-are_later_allowed-2.false) in
    let laters = rw same at c.later_at-minor_traffic.ensures in
    rw (traffic, told, ← c.later_at-traffic.ensures, ← laters, ← same) (rw part_from at c.read_values.ensures)
