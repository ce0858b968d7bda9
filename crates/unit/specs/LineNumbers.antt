-- A site's line left in a lent run of numbers, and the number that the call answers.
use Rattle.line.specs.declared.Line.{Line}
use Rattle.std.specs.Prelude.{Result, Ok, Err}
use Rattle.std.specs.Prelude.{ℕ, ◌≡◌, cond, List, [], length, leb}
use Rattle.site.specs.declared.values.Site.{Site}
use Rattle.site.specs.Rules.{edition_known}
use Rattle.site.specs.Writing.{sound}
use Rattle.header.specs.declared.Header.{Header}
use Rattle.header.specs.Header.{in_limits}
use Rattle.model.specs.Coefficients.{coefficients_of}
use Rattle.line.specs.declared.LineRefusal.{LineRefusal}
use Rattle.line.specs.declared.LineRefusal.TheVariants.{EditionUnknown, OutsideLimits, OutsideRange}
use Rattle.line.specs.Line.{line_answer, line_number}
use Rattle.line.specs.Stands.{LineStands}
use Rattle.report.specs.Report.{numbers_of}
use Rattle.report.specs.Demand.{line_at}
use Rattle.unit.specs.Lent.{LendsValues}
use Rattle.unit.specs.SiteNumbers.{site_from}

-- the values of an answer: "predicted low, predicted high, expected low, expected high"; a refusal has none
abbrev pub line_values : Result Line LineRefusal → List ℕ
line_values (Ok line) = numbers_of line
line_values (Err EditionUnknown) = []
line_values (Err OutsideLimits) = []
line_values (Err OutsideRange) = []

-- the answer of a line lent
abbrev pub LendsLine : (answer : Result Line LineRefusal) (before afterwards : List ℕ) (number : ℕ) → Type 0
LendsLine answer before afterwards number = LendsValues (line_number answer) (line_values answer) before afterwards number

-- THE ORDER of the call's numbers: no such edition, 3; a header value outside its limits, 4; the site outside its range, 8; too little
-- space, 10
unfoldable pub line_order : Header → Site → ℕ → ℕ
line_order header site room =
    cond (edition_known header.edition)
    (cond (in_limits header) (cond (sound header.edition header.years site) (cond (leb 4 room) 0 10) 8) 4)
    3

-- a site's line made from a lent run of numbers: the answer of the header's edition lent, in that order; where the number is 0, the
-- line that the other run starts with afterwards is right at every depth, in order, narrow, and between prediction and history
pub record LinesNumbers (header : Header) (numbers before afterwards : List ℕ) (number : ℕ) : Type 0 where
  pub lends : LendsLine (line_answer (coefficients_of header.edition) header (site_from numbers)) before afterwards number
  pub in_order : number ≡ line_order header (site_from numbers) (length before)
  pub stands : number ≡ 0 → LineStands (coefficients_of header.edition) header (site_from numbers) (line_at afterwards 0)
