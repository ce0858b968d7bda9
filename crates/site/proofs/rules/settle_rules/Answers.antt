-- The closure settles the entry at each place.
use Rattle.std.proofs.Common.{◌∙◌, sym, get_or, arith, rules, tests}
use Rattle.std.proofs.lemmas.List.{ext_get_or, length-map, get_or-map}
use Rattle.site.specs.declared.rules.Rule.TheVariants.{Foreign}
use Rattle.site.specs.declared.rules.Entry.TheVariants.{Always}
use Rattle.site.specs.Rules.{settled}
use Rattle.site.proofs.Made.{made_at}
use Rattle.site.proofs.rules.settle_rules.Goals as goal

pub returns : goal.returns
returns c =
    let entries = c.args.entries in
    let made = c.from_fn.ensures.items in
    ext_get_or Foreign _ _ (made.long ∙ sym (length-map entries (settled c.args.curved) ∙ search rules))
    (λ i h.
    made_at _ _ _ (λ i. settled c.args.curved (get_or entries i (Always Foreign))) Foreign (λ x y q k. search (rules, tests)) made i (omega (arith, made.long))
    ∙ sym (get_or-map (settled c.args.curved) entries i (Always Foreign) Foreign (omega (arith, made.long))))
