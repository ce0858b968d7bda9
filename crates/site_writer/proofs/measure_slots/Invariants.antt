-- The slots so far are within their rules and their bytes are counted, so those that are left tell.
use Rattle.std.proofs.Common.{◌≡◌, ◌+◌, ◌*◌, ◌≤◌, length}
use Rattle.std.specs.Iterator.Adapters.{zip_first, zip_second}
use Rattle.std.specs.Slice.Iter.{iter_rest}
use Rattle.site.specs.Rules.{slot_count}
use Rattle.site.specs.Writing.{all_fit, bytes_of}
use Rattle.site_writer.proofs.measure_slots.Given as goal

abbrev pub invariant-loop-rule : goal.invariant-loop-rule
invariant-loop-rule l =
    let rules = iter_rest (zip_first l.rule-iterator) in
    let slots = iter_rest (zip_second l.rule-iterator) in
    (length rules ≡ length slots)
    × (l.n + 2 * length rules ≤ 3 + l.more + 2 * slot_count)
    × (all_fit rules slots ≡ all_fit l.fn.rules l.fn.slots)
    × (l.n + length (bytes_of rules slots) ≡ 3 + l.more + length (bytes_of l.fn.rules l.fn.slots))
