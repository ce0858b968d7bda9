-- Slot by slot.
use Rattle.std.specs.Prelude.{None}
use Rattle.std.proofs.Common.{◌∙◌, sym, get_or, arith, rules, tests}
use Rattle.std.proofs.lemmas.List.{ext_get_or, length-map, get_or-map}
use Rattle.unit.specs.SiteNumbers.{slot_from}
use Rattle.site.proofs.Made.{made_at}
use Rattle.unit.proofs.sites.slots_from.Goals as goal

pub returns : goal.returns
returns c =
    let numbers = c.args.numbers.now in
    let made = c.from_fn.ensures.items in
    ext_get_or None _ _ (made.long ∙ sym c.requires ∙ sym (length-map numbers slot_from))
    (λ i h.
    made_at _ _ _ (λ i. slot_from (get_or numbers i 0)) None (λ x y q k. search (rules, tests)) made i (omega (arith, made.long))
    ∙ sym (get_or-map slot_from numbers i 0 None (omega (arith, made.long, c.requires))))
