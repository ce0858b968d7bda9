-- All values are in the range, one after the other.
use Rattle.std.specs.Prelude.{◌≡◌, refl, ◌+◌, ◌*◌, ◌&&◌, List, ℕ, zero, suc, drop}
use Rattle.std.specs.List.{list_all, range_with_len}
use Rattle.std.proofs.Common.{ap, sym, ◌∙◌, arith, rules, tests}
use Rattle.std.proofs.lemmas.Iterator.{YieldsList-from_range}
use Rattle.std.proofs.lemmas.Iterator.Search.{all_from_yields_List}
use lib.Seq.{drop-drop}
use Rattle.site.specs.Rules.{traffic, allows}
use Rattle.site.specs.Record.{word, later_allowed}
use Rattle.site_reader.proofs.are_later_allowed.Goals as goal

all_allowed : (s : List ℕ) (at i n : ℕ) → list_all (λ k. allows traffic (word (drop (at + 2 * k) s))) (range_with_len i n) ≡ later_allowed n (drop (at + 2 * i) s)
unfolding later_allowed
all_allowed s at i zero = refl
all_allowed s at i (suc n) =
    let next : at + 2 * (i + 1) ≡ at + 2 * i + 2 = omega arith in
    ap (λ later. allows traffic (word (drop (at + 2 * i) s)) && later)
    (all_allowed s at (i + 1) n ∙ rw next (ap (later_allowed n) (sym (drop-drop 2 (at + 2 * i) s))))

pub returns : goal.returns
returns c =
    let start : c.args.at + 2 * 0 ≡ c.args.at = omega arith in
    all_from_yields_List (λ k. allows traffic (word (drop (c.args.at + 2 * k) c.args.s.now))) _ _ _ c.all.ensures.ran
    (YieldsList-from_range 0 c.args.later c.args.later refl (omega arith)) (λ x b q k. search (rules, tests))
    ∙ rw start at (all_allowed c.args.s.now c.args.at 0 c.args.later)
