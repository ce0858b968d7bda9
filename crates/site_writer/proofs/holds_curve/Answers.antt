-- Any pair of an entry and its slot tells.
use Rattle.std.specs.Prelude.{Option}
use Rattle.std.proofs.Common.{◌≡◌, ◌∙◌, refl, ℕ, Bool, ◌&&◌, not, List, [], ◌∷◌, rules, tests}
use Rattle.std.proofs.lemmas.Iterator.{YieldsList-from_slice, YieldsList-from_zip}
use Rattle.std.proofs.lemmas.Iterator.Search.{any_from_yields_List}
use Rattle.std.specs.List.{list_any, zip}
use Rattle.site.specs.declared.rules.Entry.{Entry}
use Rattle.site.specs.Rules.{on_curve, absent}
use Rattle.site.specs.Writing.{curve_held}
use Rattle.site_writer.proofs.holds_curve.Goals as goal

abbrev held : Entry × Option ℕ → Bool
held pair = on_curve pair.0 && not (absent pair.1)

any_held : (entries : List Entry) (slots : List (Option ℕ)) → list_any held (zip entries slots) ≡ curve_held entries slots
unfolding curve_held
any_held [] slots = refl
any_held (entry ∷ entries) [] = refl
any_held (entry ∷ entries) (slot ∷ slots) = rw (any_held entries slots)

pub returns : goal.returns
returns c =
    any_from_yields_List held c.any.new.self _ _ c.any.ensures.ran
    (YieldsList-from_zip (YieldsList-from_slice c.args.entries cc) (YieldsList-from_slice c.args.slots cc)) (λ x b q k. search (rules, tests))
    ∙ any_held _ _
