-- What a line's four numbers that are lent say of the site's line.
use Rattle.line.specs.declared.Line.{Line}
use Rattle.std.specs.Prelude.{Result, Ok, Err}
use Prim.Native.Nat.{ℕ}
use mathlib.Core.Path.{◌≡◌, refl, ◌∙◌}
use mathlib.Core.Bool.{Bool, true, false, cond}
use mathlib.Core.List.{List}
use native.Mathlib.Omega.{arith}
use lib.ListN.{length}
use lib.Dec.{leb}
use borrow.Author.Tests.{le-leb}
use Rattle.site.specs.declared.values.Site.{Site}
use Rattle.site.specs.Rules.{edition_known}
use Rattle.site.specs.Writing.{sound}
use Rattle.header.specs.declared.Header.{Header}
use Rattle.header.specs.Header.{in_limits}
use Rattle.model.specs.Coefficients.{coefficients_of}
use Rattle.line.specs.declared.LineRefusal.{LineRefusal}
use Rattle.line.specs.declared.LineRefusal.TheVariants.{EditionUnknown, OutsideLimits, OutsideRange}
use Rattle.line.specs.Line.{site_line, line_answer, line_number}
use Rattle.line.specs.Stands.{LineStands, AnswerStands}
use Rattle.unit.specs.Lent.{number_within, zero_lent}
use Rattle.unit.specs.SiteNumbers.{site_from}
use Rattle.report.specs.Demand.{line_at}
use Rattle.unit.specs.LineNumbers.{line_values, line_order, LendsLine, LinesNumbers}

module _ (header : Header) (site : Site) where
  -- an answer that stands, lent with the number 0
  lent_stands : (before afterwards : List ℕ) (answer : Result Line LineRefusal) → AnswerStands (coefficients_of header.edition) header site answer
      → LendsLine answer before afterwards 0 → LineStands (coefficients_of header.edition) header site (line_at afterwards 0)
  lent_stands before afterwards (Err EditionUnknown) s l = absurd (omega (arith, (zero_lent l).0))
  lent_stands before afterwards (Err OutsideLimits) s l = absurd (omega (arith, (zero_lent l).0))
  lent_stands before afterwards (Err OutsideRange) s l = absurd (omega (arith, (zero_lent l).0))
  lent_stands before afterwards (Ok line) s l = rw (zero_lent l).2 s

  -- the number of an answer's call, case by case
  lent_order : (room : ℕ)
      → let answer = line_answer (coefficients_of header.edition) header site in
      number_within (line_number answer) (line_values answer) room ≡ line_order header site room
  unfolding line_answer line_order
  lent_order room = by (edition_known header.edition) (in_limits header) (sound header.edition header.years site)
    where
      none : (number : ℕ) → cond (leb 0 room) number 10 ≡ number
      none number = rw (le-leb 0 room (omega arith)) refl

      answer : Bool → Bool → Bool → Result Line LineRefusal
      answer x a b = cond x (cond a (cond b (Ok (site_line (coefficients_of header.edition) header site)) (Err OutsideRange)) (Err OutsideLimits)) (Err EditionUnknown)

      by : (x a b : Bool) → number_within (line_number (answer x a b)) (line_values (answer x a b)) room
          ≡ cond x (cond a (cond b (cond (leb 4 room) 0 10) 8) 4) 3
      by true true true = refl
      by true true false = none 8
      by true false b = none 4
      by false a b = none 3

pub lined : (header : Header) (numbers before afterwards : List ℕ) (number : ℕ) (site : Site) → site ≡ site_from numbers → (answer : Result Line LineRefusal)
    → answer ≡ line_answer (coefficients_of header.edition) header site → AnswerStands (coefficients_of header.edition) header site answer
    → LendsLine answer before afterwards number
    → LinesNumbers header numbers before afterwards number
lined header numbers before afterwards number site es answer ea s l =
    let lends : LendsLine (line_answer (coefficients_of header.edition) header site) before afterwards number = rw ea at l in
    record {
      lends = rw es at lends;
      in_order = rw (← es) (lends.number_is ∙ lent_order header site (length before));
      stands = λ z. rw (← es) (lent_stands header site before afterwards answer s (rw z at l));
    }
