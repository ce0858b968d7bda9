-- The first twenty slots, and the later years behind them.
use Rattle.std.specs.Prelude.{None}
use Rattle.std.proofs.Common.{◌∙◌, get_or, rules, tests}
use Rattle.site.proofs.Made.{made_at}
use Rattle.unit.proofs.NumberSteps.{made_of_all}
use Rattle.unit.proofs.slots.site_of_all.Goals as goal

pub returns : goal.returns
returns c =
    let slots = c.args.slots in
    c.site_of.ensures
    ∙ made_of_all c.args.kind _ slots _ _
    (made_at _ _ _ (λ i. get_or slots i None) None (λ x y q k. search (rules, tests)) c.from_fn-first.ensures.items)
    c.later_at-traffic.ensures c.later_at-minor.ensures
