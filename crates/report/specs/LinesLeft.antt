-- A LINE IS A FUNCTION OF HEADER AND SITE, and the totals are the sums of the lines, in the report that is left for an accepted project.
use Rattle.std.specs.Prelude.{Ok}
use Rattle.std.specs.Prelude.{ℕ, zero, suc, ◌<◌, ◌≡◌, refl, List, [], ◌∷◌, ◌++◌, map, length, get_or, drop}
use Rattle.std.proofs.Common.{◌∙◌, append_assoc, arith}
use Rattle.site.specs.declared.values.Site.{Site}
use Rattle.header.specs.Header.{header_in, count_in}
use Rattle.line.specs.declared.Line.{Line}
use Rattle.line.specs.Line.{site_line}
use Rattle.project.specs.File.{sites_in}
use Rattle.project.specs.Causes.{report_length, NoCause}
use Rattle.project.proofs.SitesRead.{accepted_sites}
use Rattle.project.proofs.Acceptance.{no_cause_exactly}
use Rattle.report.specs.Report.{numbers_of, all_numbers, no_line, total_of, report_numbers, coefficients_in, lines_in, report_after}
use Rattle.report.specs.Demand.{line_at, site_at, ReportsProject}
use Rattle.report.specs.DemandLaws.{line_of_report, total_of_report, length_lines}
use Rattle.report.specs.ReaderCauses.{reported_exactly}

-- "a project is accepted when no cause in the table below is found in it or its report": the report that is left for it in a run
pub record ReportLeft (bytes before report : List ℕ) : Type 0 where
  pub accepted : NoCause bytes (length before)
  pub report_is : report ≡ report_after bytes before

-- as the project reader promises it
pub reader_leaves : {bytes before report : List ℕ} {count : ℕ} → ReportsProject bytes before report (Ok count) → ReportLeft bytes before report
reader_leaves p = record { accepted = p.meets.0; report_is = p.report_is }

line_of_site : (line_of : Site → Line) (sites : List Site) (i : ℕ) (d : Site) → i < length sites → get_or (map line_of sites) i no_line ≡ line_of (get_or sites i d)
line_of_site line_of [] i d h = absurd (omega arith)
line_of_site line_of (site ∷ sites) zero d h = refl
line_of_site line_of (site ∷ sites) (suc i) d h = line_of_site line_of sites i d (omega arith)

module _ {bytes before report : List ℕ} (left : ReportLeft bytes before report) where
  abbrev rest : List ℕ
  rest = drop (length (report_numbers (lines_in bytes))) before

  numbers_left : report ≡ all_numbers (lines_in bytes) ++ (numbers_of (total_of (lines_in bytes)) ++ rest)
  unfolding report_after
  numbers_left =
      left.report_is ∙ rw ((reported_exactly bytes (length before) (report_length (count_in bytes))).1 (left.accepted, refl))
      (append_assoc (all_numbers (lines_in bytes)) (numbers_of (total_of (lines_in bytes))) rest)

  -- as many sites as the header counts
  pub count_left : length (sites_in bytes) ≡ count_in bytes
  count_left = (accepted_sites bytes (count_in bytes) ((no_cause_exactly bytes (length before) (count_in bytes)).1 (left.accepted, refl)).0).sites.count_is

  pub line_left : (i : ℕ) → i < length (sites_in bytes)
      → line_at report i ≡ site_line (coefficients_in bytes) (header_in bytes) (site_at (sites_in bytes) i)
  line_left i h =
      let inside : i < length (lines_in bytes) = omega (arith, length_lines (coefficients_in bytes) (header_in bytes) (sites_in bytes)) in
      rw numbers_left
      (line_of_report (lines_in bytes) (numbers_of (total_of (lines_in bytes)) ++ rest) i inside
      ∙ line_of_site (site_line (coefficients_in bytes) (header_in bytes)) (sites_in bytes) i _ h)

  pub totals_left : line_at report (length (sites_in bytes)) ≡ total_of (lines_in bytes)
  totals_left =
      rw (numbers_left, ← length_lines (coefficients_in bytes) (header_in bytes) (sites_in bytes))
      (total_of_report (lines_in bytes) (total_of (lines_in bytes)) rest)
