-- The map of the slots from a place on stays below 2 to their bits.
use Rattle.std.specs.Prelude.{Option}
use Rattle.std.proofs.Common.{◌≡◌, ℕ, ◌+◌, ◌-◌, ◌*◌, ◌<◌, sym, ◌∙◌, List, length, get_or, drop, arith, rules}
use Rattle.laws.specs.Walk.{next, at_end}
use Rattle.site.specs.declared.rules.Rule.{Rule}
use Rattle.site.specs.Rules.{bits, slot_count}
use Rattle.site.specs.Writing.{slot_bit, map_of}
use Rattle.site.specs.WriteRead.{map_small}
use Rattle.site_writer.proofs.map_of.Goals as goal

map_next : (rules : List Rule) (slots : List (Option ℕ)) (i : ℕ) (rule : Rule) (slot : Option ℕ) → i < length rules → i < length slots
    → map_of (drop i rules) (drop i slots)
    ≡ slot_bit (get_or rules i rule) (get_or slots i slot) + (1 + bits (get_or rules i rule)) * map_of (drop (i + 1) rules) (drop (i + 1) slots)
unfolding map_of
map_next rules slots i rule slot h h' = rw (next rules i rule h, next slots i slot h')

pub loop-i-init : goal.loop-i-init
unfolding map_of
loop-i-init c =
    let rules_long : length c.args.rules ≡ slot_count = search rules in
    rw (at_end c.args.rules 20 (omega (arith, rules_long)))

pub map_with-map-requires : goal.map_with-map-requires
map_with-map-requires c = omega (arith, map_small c.args.rules c.args.slots c.loop-i.i c.requires)

pub loop-i-preserved : goal.loop-i-preserved
loop-i-preserved c =
    let rules_long : length c.args.rules ≡ slot_count = search rules in
    let slots_long : length c.args.slots ≡ slot_count = search rules in
    let i = c.loop-i.i - 1 in
    let e : i + 1 ≡ c.loop-i.i = omega arith in
    let later : c.loop-i.map ≡ map_of (drop (i + 1) c.args.rules) (drop (i + 1) c.args.slots) = rw e c.loop-i.invariant in
    (rw later at c.map_with-map.ensures) ∙ sym (map_next c.args.rules c.args.slots i _ _ (omega (arith, rules_long)) (omega (arith, slots_long)))
