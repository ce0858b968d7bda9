use Rattle.std.proofs.Common.{◌≡◌, ap, List, length, take, drop, arith, rules, length-drop, take_all}
use Rattle.std.proofs.lemmas.Iterator.{empty_from_Zip}
use Rattle.std.specs.Iterator.Adapters.{zip_first, zip_second}
use Rattle.std.specs.Slice.Iter.{iter_rest}
use Rattle.site.specs.Rules.{slot_count}
use Rattle.site.specs.Writing.{bytes_of}
use Rattle.site_writer.proofs.WriteSteps.{bytes_next, putting_start, putting_more, putting_room, putting_end}
use Rattle.site_writer.proofs.put_fields.Goals as goal

-- what is left of twenty after the first three
from_third : {A : Type 0} (xs : List A) → length xs ≡ slot_count → take 17 (drop 3 xs) ≡ drop 3 xs
from_third xs h = take_all 17 (drop 3 xs) (omega (arith, length-drop 3 xs))

pub loop-rule-init : goal.loop-rule-init
loop-rule-init c =
    let rules_long : length c.args.rules ≡ slot_count = search rules in
    let slots_long : length c.args.slots ≡ slot_count = search rules in
    let rules : iter_rest (zip_first c.into_iter-rule-iterator.result) ≡ drop 3 c.args.rules = cc (from_third c.args.rules rules_long) in
    let slots : iter_rest (zip_second c.into_iter-rule-iterator.result) ≡ drop 3 c.args.slots = cc (from_third c.args.slots slots_long) in
    rw (rules, slots) (omega (arith, length-drop 3 c.args.rules, length-drop 3 c.args.slots, rules_long, slots_long), putting_start _ _ _)

pub put_field-place-requires : goal.put_field-place-requires
put_field-place-requires c =
    let now = c.in-Some.ensures.steps in
    putting_room _ _ c.loop-rule.invariant.1 (bytes_next now.0 now.1) (omega (arith, c.requires))

pub loop-rule-preserved : goal.loop-rule-preserved
loop-rule-preserved c =
    let now = c.in-Some.ensures.steps in
    (omega (arith, ap length now.0, ap length now.1, c.loop-rule.invariant.0), putting_more c.loop-rule.invariant.1 (bytes_next now.0 now.1) c.put_field-place.ensures)

pub returns : goal.returns
unfolding bytes_of
returns c =
    let spent = empty_from_Zip _ c.next.new.self _ c.in-None.is c.next.ensures.steps c.loop-rule.invariant.0 in
    putting_end c.loop-rule.invariant.1 (rw spent.0)
