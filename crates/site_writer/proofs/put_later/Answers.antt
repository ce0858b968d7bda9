use Rattle.std.specs.Prelude.{Option, None}
use Rattle.std.proofs.Common.{◌≡◌, ap, refl, ℕ, ◌+◌, ◌<◌, List, ◌++◌, length, get_or, drop, arith}
use Rattle.laws.specs.Walk.{next, at_end}
use Rattle.site.specs.Writing.{slot_bytes, later_bytes}
use Rattle.site_writer.proofs.WriteSteps.{putting_more, putting_room, putting_end}
use Rattle.site_writer.proofs.put_later.Goals as goal

later_next : (slots : List (Option ℕ)) (i : ℕ) → i < length slots
    → later_bytes (drop i slots) ≡ slot_bytes (get_or slots i None) ++ later_bytes (drop (i + 1) slots)
unfolding later_bytes
later_next slots i h = rw (next slots i None h) refl

pub put_slot-place-requires : goal.put_slot-place-requires
put_slot-place-requires c = putting_room _ _ c.loop-slot.invariant (later_next _ _ c.loop-slot-test.true) (omega (arith, c.requires))

pub loop-slot-preserved : goal.loop-slot-preserved
loop-slot-preserved c = putting_more c.loop-slot.invariant (later_next _ _ c.loop-slot-test.true) c.put_slot-place.ensures

pub returns : goal.returns
unfolding later_bytes
returns c = putting_end c.loop-slot.invariant (ap later_bytes (at_end _ _ c.loop-slot-test.false))
