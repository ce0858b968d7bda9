-- DEMAND 3, one claim about a project's bytes and a report: each site's line and the totals are right at every depth, in order
-- and narrow. `Demand` names the estimates and the numbers of the report, and nothing that makes them. Last, what the project
-- reader promises.
use Rattle.std.specs.Prelude.{Result, Ok, Err}
use Rattle.project.specs.declared.Refused.{Refused}
use Rattle.std.specs.Prelude.{ℕ, ◌+◌, ◌*◌, ◌≤◌, ◌<◌, ◌≡◌, List, [], length, get_or}
use Rattle.estimate.specs.Fraction.{Fraction, millionths}
use Rattle.estimate.specs.Standing.{Between}
use Rattle.wide.specs.Rounding.{Narrow}
use Rattle.site.specs.declared.values.Site.{Site}
use Rattle.site.specs.Yearly.{no_later}
use Rattle.site.specs.Record.{site_of}
use Rattle.header.specs.declared.Header.{Header}
use Rattle.header.specs.Header.{header_in, count_in}
use Rattle.model.specs.Coefficients.{Coefficients}
use Rattle.model.specs.Predicted.{predicted_under, predicted_over}
use Rattle.model.specs.Expected.{expected_under, expected_over}
use Rattle.line.specs.declared.Line.{Line}
use Rattle.model.specs.StatedWidths.{width_parts, predicted_each, expected_each, added_up, sites_counted_in, observed_in}
use Rattle.line.specs.Stands.{LineStands}
use Rattle.project.specs.File.{sites_in}
use Rattle.project.specs.Causes.{report_length, NoCause, FirstCause}
use Rattle.report.specs.Report.{coefficients_in, project_answer, answer_number, answer_value, report_after}

-- the numbers of a report by index
abbrev pub line_at : List ℕ → ℕ → Line
line_at report i = record {
  predicted_low = get_or report (4 * i) 0;
  predicted_high = get_or report (4 * i + 1) 0;
  expected_low = get_or report (4 * i + 2) 0;
  expected_high = get_or report (4 * i + 3) 0;
}

-- a site of a list
abbrev pub site_at : List Site → ℕ → Site
site_at sites i = get_or sites i (site_of 0 [] no_later no_later)

-- "A project's estimates are sums over sites"
abbrev pub sum_of_sites : (Site → ℕ → Fraction) → List Site → ℕ → Fraction
sum_of_sites estimate sites d = added_up (λ site. estimate site d) sites

-- the totals of a list of sites: at most 4 a site as it counts, or 8 for sites and crashes as they count together, rounded up once, and
-- a millionth of the high apart
pub record TotalsStand (c : Coefficients) (header : Header) (sites : List Site) (total : Line) : Type 0 where
  pub predicted_between : Between (millionths total.predicted_low) (millionths total.predicted_high)
      (sum_of_sites (predicted_under c header) sites) (sum_of_sites (predicted_over c header) sites)
  pub expected_between : Between (millionths total.expected_low) (millionths total.expected_high)
      (sum_of_sites (expected_under c header) sites) (sum_of_sites (expected_over c header) sites)
  pub predicted_in_order : total.predicted_low ≤ total.predicted_high
  pub expected_in_order : total.expected_low ≤ total.expected_high
  pub predicted_narrow : Narrow width_parts (predicted_each * sites_counted_in header.years sites) 1 total.predicted_low total.predicted_high
  pub expected_narrow : Narrow width_parts (expected_each * (sites_counted_in header.years sites + observed_in c header.years sites)) 1
      total.expected_low total.expected_high

-- THE CLAIM, with the coefficients of the project's edition
pub record Demand (bytes report : List ℕ) : Type 0 where
  pub each : (i : ℕ) → i < length (sites_in bytes) → LineStands (coefficients_in bytes) (header_in bytes) (site_at (sites_in bytes) i) (line_at report i)
  pub totals : TotalsStand (coefficients_in bytes) (header_in bytes) (sites_in bytes) (line_at report (length (sites_in bytes)))

-- what an answer says: a report is made where no cause is found in the file or its report, as long as document 01 has it, and
-- it meets the demand; a refusal is the first cause in document 01's order, and the report stays as it was
abbrev pub AnswerMeets : (bytes before report : List ℕ) → Result ℕ Refused → Type 0
AnswerMeets bytes before report (Ok count) =
    NoCause bytes (length before)
    × (answer_number (Ok count) ≡ 0)
    × (answer_value (Ok count) ≡ report_length (count_in bytes))
    × Demand bytes report
AnswerMeets bytes before report (Err refused) =
    FirstCause bytes (length before) (answer_number (Err refused)) (answer_value (Err refused)) × (report ≡ before)

-- the project reader's promise: its answer, the report afterwards number for number, and what both say
pub record ReportsProject (bytes before report : List ℕ) (answer : Result ℕ Refused) : Type 0 where
  pub answer_is : answer ≡ project_answer bytes (length before)
  pub report_is : report ≡ report_after bytes before
  pub meets : AnswerMeets bytes before report answer
