-- The later years left, laid at the place reached, make the buffer and the place that are to be.
use Rattle.std.proofs.Common.{drop}
use Rattle.site.specs.Writing.{later_bytes}
use Rattle.site_writer.proofs.WriteSteps.{Putting}
use Rattle.site_writer.proofs.put_later.Given as goal

abbrev pub invariant-loop-slot : goal.invariant-loop-slot
invariant-loop-slot l = Putting l.fn.buffer l.at (later_bytes l.slots) (later_bytes (drop l.slot-index l.slots)) l.place l.buffer
