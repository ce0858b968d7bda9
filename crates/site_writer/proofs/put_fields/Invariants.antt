-- The fields left, laid at the place reached, make the buffer and the place that are to be.
use Rattle.std.proofs.Common.{◌≡◌, length, drop}
use Rattle.std.specs.Iterator.Adapters.{zip_first, zip_second}
use Rattle.std.specs.Slice.Iter.{iter_rest}
use Rattle.site.specs.Writing.{bytes_of}
use Rattle.site_writer.proofs.WriteSteps.{Putting}
use Rattle.site_writer.proofs.put_fields.Given as goal

abbrev pub invariant-loop-rule : goal.invariant-loop-rule
invariant-loop-rule l =
    let rules = iter_rest (zip_first l.rule-iterator) in
    let slots = iter_rest (zip_second l.rule-iterator) in
    (length rules ≡ length slots)
    × Putting l.fn.buffer l.at (bytes_of (drop 3 l.fn.rules) (drop 3 l.fn.slots)) (bytes_of rules slots) l.place l.buffer
