-- The three runs, one behind the other.
use Rattle.std.proofs.Common.{refl}
use Rattle.unit.proofs.sites.put_slots.Goals as goal

pub returns : goal.returns
returns c =
    rw (c.put_codes-3.ensures, c.put_codes-2.ensures, c.put_codes.ensures, c.slots_of-slots.ensures, c.later_slots-traffic.ensures, c.later_slots-minor.ensures) refl
