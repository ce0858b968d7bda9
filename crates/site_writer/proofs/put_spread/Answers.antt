-- One part behind the other, each in the room that the parts leave.
use Rattle.std.specs.Prelude.{Option, None}
use Rattle.std.proofs.Common.{◌+◌, ◌≤◌, ℕ, List, length, get_or, drop, arith, rules, length-append}
use Rattle.laws.specs.Stores.{puts_more}
use Rattle.site.specs.declared.rules.Rule.{Rule}
use Rattle.site.specs.declared.rules.Rule.TheVariants.{Foreign}
use Rattle.site.specs.Writing.{field_bytes, bytes_of, spread_bytes}
use Rattle.site_writer.proofs.put_spread.Goals as goal

-- how long the field of a slot is
abbrev long : List Rule → List (Option ℕ) → ℕ → ℕ
long rules slots i = length (field_bytes (get_or rules i Foreign) (get_or slots i None))

-- the room of all parts, part by part
room : (rules : List Rule) (slots : List (Option ℕ)) (traffic minor : List ℕ) (all : ℕ) → 3 + length (spread_bytes rules slots traffic minor) ≤ all
    → 3 + long rules slots 0 + length traffic + long rules slots 1 + long rules slots 2 + length minor + length (bytes_of (drop 3 rules) (drop 3 slots)) ≤ all
unfolding spread_bytes
room rules slots traffic minor all h = omega (arith, simp length-append at h)

pub put_field-after_traffic-requires : goal.put_field-after_traffic-requires
put_field-after_traffic-requires c = omega (arith, room _ _ _ _ _ c.requires)

pub put_later-after_later-requires : goal.put_later-after_later-requires
put_later-after_later-requires c = let r = room _ _ _ _ _ c.requires in search rules

pub put_field-after_length-requires : goal.put_field-after_length-requires
put_field-after_length-requires c = omega (arith, room _ _ _ _ _ c.requires)

pub put_field-after_minor-requires : goal.put_field-after_minor-requires
put_field-after_minor-requires c = omega (arith, room _ _ _ _ _ c.requires)

pub put_later-after_later_minor-requires : goal.put_later-after_later_minor-requires
put_later-after_later_minor-requires c = let r = room _ _ _ _ _ c.requires in search rules

pub put_fields-requires : goal.put_fields-requires
put_fields-requires c = let r = room _ _ _ _ _ c.requires in search rules

pub returns : goal.returns
unfolding spread_bytes
returns c =
    puts_more c.put_field-after_traffic.ensures
    (puts_more c.put_later-after_later.ensures
    (puts_more c.put_field-after_length.ensures
    (puts_more c.put_field-after_minor.ensures (puts_more c.put_later-after_later_minor.ensures c.put_fields.ensures))))
