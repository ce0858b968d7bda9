-- Kind and map, then the fields with the later values behind their traffics.
use Rattle.std.proofs.Common.{◌+◌, ◌≤◌, Bool, true, false, cond, arith}
use Rattle.site.specs.Ranges.{valid_kind}
use Rattle.site.specs.WriteRead.{map_small}
use Rattle.site.proofs.Theorems.{record_length}
use Rattle.site_writer.proofs.WriteWhole.{found, bits_few, spread_long, all_put}
use Rattle.site_writer.proofs.put_record.Goals as goal

pub unreachable-requires : goal.unreachable-requires
unreachable-requires c = omega (arith, valid_kind _ _ _ c.requires.0, c.in_default.ensures.1)

pub map_of-requires : goal.map_of-requires
map_of-requires c =
    let f = found c.args.edition c.args.site _ _ _ c.in-Ok.ensures c.slots_of-slots.ensures c.rules_held-rules.ensures in
    bits_few f

-- bit 15
fifteen : (b : Bool) → cond b 32768 0 ≤ 32768
fifteen true = omega arith
fifteen false = omega arith

pub overflow_add-map_of : goal.overflow_add-map_of
overflow_add-map_of c =
    let f = found c.args.edition c.args.site _ _ _ c.in-Ok.ensures c.slots_of-slots.ensures c.rules_held-rules.ensures in
    let small = map_small c.rules_held-rules.result c.slots_of-slots.result 0 (bits_few f) in
    record { fits = omega (arith, c.map_of.ensures, c.bit_of_years.ensures, fifteen c.is_yearly.result) }

pub put_head-requires : goal.put_head-requires
put_head-requires c = omega (arith, c.requires.1, (record_length _ _ _ c.requires.0).at_least)

pub put_spread-requires : goal.put_spread-requires
put_spread-requires c =
    let f = found c.args.edition c.args.site _ _ _ c.in-Ok.ensures c.slots_of-slots.ensures c.rules_held-rules.ensures in
    rw (c.later_slots.ensures, c.later_slots-2.ensures) (omega (arith, spread_long f, c.requires.1, c.put_head.auto.buffer))

pub returns : goal.returns
returns c =
    let f = found c.args.edition c.args.site _ _ _ c.in-Ok.ensures c.slots_of-slots.ensures c.rules_held-rules.ensures in
    let yearly = rw c.is_yearly.ensures at c.bit_of_years.ensures in
    all_put f c.args.buffer.now (c.map_of.result + c.bit_of_years.result)
    (rw (c.map_of.ensures, yearly)) (rw c.in-Ok.ensures at c.put_head.ensures) (rw (c.later_slots.ensures, c.later_slots-2.ensures) at c.put_spread.ensures)
