-- All years are right: those before the given number have a traffic, and the others none.
use Rattle.std.specs.Prelude.{Option}
use Rattle.std.proofs.Common.{◌≡◌, ◌∙◌, refl, ℕ, zero, suc, ◌+◌, ◌-◌, ◌≤◌, Bool, cond, ◌&&◌, List, [], ◌∷◌, length, arith, rules, tests}
use borrow.Author.Tests.{lt-ltb, le-ltb}
use lib.Dec.{ltb}
use Rattle.std.proofs.lemmas.Iterator.{YieldsList-from_slice}
use Rattle.std.proofs.lemmas.Iterator.Consumers.{YieldsList-from_enumerate}
use Rattle.std.proofs.lemmas.Iterator.Search.{all_from_yields_List}
use Rattle.std.specs.List.{list_all, enumerate_from}
use Rattle.site.specs.Rules.{later_years, traffic, absent}
use Rattle.site.specs.Writing.{fits, later_fits}
use Rattle.site_writer.proofs.does_later_fit.Goals as goal

abbrev right : ℕ → ℕ × Option ℕ → Bool
right later year = cond (ltb year.0 later) (fits traffic year.1) (absent year.1)

all_right : (later i : ℕ) (slots : List (Option ℕ)) → later ≤ i + length slots
    → list_all (right later) (enumerate_from i slots) ≡ later_fits (later - i) slots
unfolding later_fits
all_right later i [] h = let z : later - i ≡ 0 = omega arith in rw z refl
all_right later i (slot ∷ slots) h = rw (all_right later (i + 1) slots (omega arith)) (by (later - i) refl)
  where
    by : (left : ℕ) → later - i ≡ left → (right later (i, slot) && later_fits (later - (i + 1)) slots) ≡ later_fits left (slot ∷ slots)
    by zero e =
        let none : later - (i + 1) ≡ 0 = omega arith in
        rw (le-ltb i later (omega arith), none)
    by (suc left) e =
        let less : later - (i + 1) ≡ left = omega arith in
        rw (lt-ltb i later (omega arith), less)

pub returns : goal.returns
returns c =
    let long : length c.args.slots ≡ later_years = search rules in
    let start : c.args.later - 0 ≡ c.args.later = omega arith in
    all_from_yields_List (right c.args.later) _ _ _ c.all.ensures.ran
    (YieldsList-from_enumerate (YieldsList-from_slice c.args.slots cc) cc) (λ x b q k. search (rules, tests))
    ∙ rw start at (all_right c.args.later 0 c.args.slots (omega (arith, c.requires, long)))
