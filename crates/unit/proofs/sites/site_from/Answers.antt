-- The kind and the slots that a run of numbers starts with.
use Rattle.std.proofs.Common.{◌∙◌}
use Rattle.unit.proofs.NumberSteps.{few_numbers, enough_numbers}
use Rattle.unit.proofs.sites.site_from.Goals as goal

pub returns-then-values-lt-SITE_NUMBERS : goal.returns-then-values-lt-SITE_NUMBERS
returns-then-values-lt-SITE_NUMBERS c = c.site_of_all.ensures ∙ few_numbers c.args.values.now c.if-values-lt-SITE_NUMBERS.true

pub returns : goal.returns
returns c =
    c.site_of_all-2.ensures ∙ enough_numbers c.args.values.now c.if-values-lt-SITE_NUMBERS.false _ _ c.kind_from-kind.ensures c.slots_from.ensures
