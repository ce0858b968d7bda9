-- The place is the index of the first exponent that is num.
use Rattle.std.specs.Prelude.{None, Some, ℕ}
use Rattle.std.proofs.Common.{◌≡◌, refl, ap, arith, sym, ◌∙◌, rules, tests, eqb, ltb, cond}
use Rattle.std.specs.List.{position_or_len}
use Rattle.std.proofs.lemmas.Iterator.{YieldsList-from_slice}
use Rattle.std.proofs.lemmas.Iterator.Search.{position_from_yields_List}
use Rattle.std.proofs.lemmas.List.Recursion.{is_position_or_len}
use Rattle.power.specs.Exponents.{exponents, place_in, place_of, place_among}
use Rattle.power.proofs.stored.exponent_place.Goals.{After-position}
use Rattle.power.proofs.stored.exponent_place.Goals as goal

by_position : (num : ℕ) → let p = position_or_len (λ h. eqb h num) exponents in cond (ltb p 5) (Some p) None ≡ place_among num
unfolding place_among place_of
by_position num = rw (← is_position_or_len (λ xs. place_in xs num) (λ h. eqb h num) refl (λ x xs. ap (λ (n : ℕ). cond (eqb x num) 0 n) (omega arith)) exponents) refl

found : (c : After-position) → c.position.result ≡ place_among c.args.num
found c =
    position_from_yields_List (λ h. eqb h c.args.num) _ _ c.position.result c.position.ensures.ran (YieldsList-from_slice _ c.iter.ensures.rest) (λ x b q k. search (rules, tests))
    ∙ by_position c.args.num

pub returns-in_err-place : goal.returns-in_err-place
returns-in_err-place c = c.from_residual.ensures ∙ sym c.in_err-place.was ∙ found (goal.at.returns-in_err-place c).After-position

pub returns : goal.returns
returns c = sym c.in_ok-place.was ∙ found (goal.at.returns c).After-position
