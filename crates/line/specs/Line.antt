-- The line of a site, and the answer of the call that makes it.
use Rattle.std.specs.Prelude.{Result, Ok, Err}
use Rattle.std.specs.Prelude.{Option, None, Some}
use Rattle.std.specs.Prelude.{ℕ, cond}
use Rattle.estimate.specs.Fraction.{Fraction}
use Rattle.site.specs.declared.values.Site.{Site}
use Rattle.site.specs.Rules.{edition_known}
use Rattle.site.specs.Writing.{sound}
use Rattle.header.specs.declared.Header.{Header}
use Rattle.header.specs.Header.{in_limits}
use Rattle.model.specs.Coefficients.{Coefficients}
use Rattle.model.specs.Expected.{expected_low, expected_high, overdispersion_of}
use Rattle.bracket.specs.declared.Bounds.{Bounds}
use Rattle.prediction.specs.Pair.{predicted_pair}
use Rattle.line.specs.declared.Line.{Line}
use Rattle.line.specs.declared.LineRefusal.{LineRefusal}
use Rattle.line.specs.declared.LineRefusal.TheVariants.{EditionUnknown, OutsideLimits, OutsideRange}

-- "Expected low is the formula at predicted low, rounded down; expected high at predicted high, rounded up; without history they
-- are the predicted pair"
abbrev pub expected_pair : (k : Fraction) → Option ℕ → Bounds → Bounds
expected_pair k None p = p
expected_pair k (Some observed) p = record { low = expected_low k observed p.low; high = expected_high k observed p.high }

-- "predicted low, predicted high, expected low, expected high"
abbrev pub line_by : (predicted expected : Bounds) → Line
line_by predicted expected = record {
  predicted_low = predicted.low;
  predicted_high = predicted.high;
  expected_low = expected.low;
  expected_high = expected.high;
}

-- THE LINE of a site
unfoldable pub site_line : Coefficients → Header → Site → Line
site_line c header site =
    let p = predicted_pair c header site in
    line_by p (expected_pair (overdispersion_of c site) site.observed p)

-- document 01's number for each case: 0; request 6: "3 now means neither 1 nor 2"; "years, calibration or sites outside limits", 4;
-- "field outside its range", 8
abbrev pub line_number : Result Line LineRefusal → ℕ
line_number (Ok line) = 0
line_number (Err EditionUnknown) = 3
line_number (Err OutsideLimits) = 4
line_number (Err OutsideRange) = 8

-- "one outside its limits is 3 or 4 .., tried first": the edition, the header's other values, then the site
unfoldable pub line_refusal : Header → Site → ℕ
line_refusal header site = cond (edition_known header.edition) (cond (in_limits header) (cond (sound header.edition header.years site) 0 8) 4) 3

-- a line, or the first refusal
unfoldable pub line_answer : Coefficients → Header → Site → Result Line LineRefusal
line_answer c header site =
    cond (edition_known header.edition)
    (cond (in_limits header)
    (cond (sound header.edition header.years site) (Ok (site_line c header site)) (Err OutsideRange))
    (Err OutsideLimits))
    (Err EditionUnknown)
