-- Laws of Accepted in specs/.
use Rattle.std.specs.Prelude.{Ok}
use Rattle.std.specs.Prelude.{ℕ, ◌≤◌, ◌≡◌, length, drop}
use Rattle.std.proofs.Common.{sym, ap, ◌∙◌, arith}
use mathlib.Core.List.{List, ◌++◌, append_assoc}
use Rattle.std.proofs.lemmas.List.Edits.{sets}
use Rattle.laws.specs.Stores.{sets_laid}
use Rattle.header.specs.declared.Header.{Header}
use Rattle.header.specs.Header.{header_length, edition_in, header_in, count_in}
use Rattle.header.proofs.HeaderLaws.{limits_of, accepted_header}
use Rattle.model.specs.Coefficients.{coefficients_of}
use Rattle.prediction.specs.Editions.{edition_rated}
use Rattle.line.proofs.LineLaws.{edition_line, edition_counted}
use Rattle.line.specs.Weighing.{line_small}
use Rattle.project.specs.File.{years_in, scan_records, scan_file, sites_in}
use Rattle.project.specs.Scan.{scan_past_header}
use Rattle.project.proofs.ScanLaws.{accepted_exactly}
use Rattle.project.specs.SitesRead.{AcceptedFile}
use Rattle.project.proofs.SitesRead.{accepted_sites}
use Rattle.project.specs.Causes.{report_length}
use Rattle.laws.specs.Lent.{laid_over}
use Rattle.report.specs.Report.{coefficients_in, numbers_of, all_numbers, no_line, total_of, report_numbers, lines_in}
use Rattle.report.specs.Demand.{Demand}
use Rattle.report.specs.DemandLaws.{length_lines}
use Rattle.report.proofs.DemandLaws.{report_each, report_totals}
use Rattle.report.specs.Fill.{fill_from, fill_report, Fillable}
use Rattle.report.specs.Accepted.{all_valid, length_report}

module _ (s : List ℕ) (n : ℕ) (accepted : scan_file s ≡ Ok n) where
  facts : AcceptedFile s n
  facts = accepted_sites s n accepted

  scanned : scan_records (edition_in s) (years_in s) (count_in s) (count_in s) header_length s ≡ Ok (count_in s)
  scanned = sym (scan_past_header s (accepted_header s ((accepted_exactly s n).0 accepted).header)) ∙ accepted ∙ ap Ok facts.count_is

  pub count_lines : length (lines_in s) ≡ n
  count_lines = length_lines (coefficients_in s) (header_in s) (sites_in s) ∙ facts.sites.count_is

  report_fits : (before : List ℕ) → report_length n ≤ length before
      → sets before 0 (report_numbers (lines_in s)) ≡ report_numbers (lines_in s) ++ drop (length (report_numbers (lines_in s))) before
  report_fits before h = sets_laid (report_numbers (lines_in s)) before (omega (arith, length_report (lines_in s), count_lines))

  -- THE DEMAND
  pub demand_met : (rest : List ℕ) → Demand s (report_numbers (lines_in s) ++ rest)
  demand_met rest =
      let v = all_valid (edition_in s) (years_in s) (sites_in s) facts.sites.valid in
      let within = limits_of (header_in s) facts.limits in
      let stands = edition_line (edition_in s) (header_in s) within in
      let counted = edition_counted (edition_in s) (header_in s) within in
      rw (append_assoc (all_numbers (lines_in s)) (numbers_of (total_of (lines_in s))) rest)
      (record {
        each = λ i h. report_each (coefficients_in s) (header_in s) stands counted (sites_in s) v rest i (omega (arith, h));
        totals = report_totals (coefficients_in s) (header_in s) stands counted (sites_in s) v rest;
      })

  module _ (header : Header) (sites : ℕ) (header_is : header ≡ header_in s) (sites_are : sites ≡ count_in s) where
    -- WHAT A FILL ASKS is there
    pub fillable : (room : ℕ) → report_length n ≤ room → Fillable (coefficients_of header.edition) s header sites room
    fillable room h =
        rw (header_is, sites_are)
        (record {
          limits = limits_of (header_in s) facts.limits;
          lines_fit = line_small (coefficients_in s) (edition_rated (edition_in s)) (header_in s) (limits_of (header_in s) facts.limits);
          most = omega (arith, facts.count_is, facts.few);
          long = facts.long;
          scanned = scanned;
          room_for = omega (arith, facts.count_is, h);
        })

    -- what it leaves is the report laid over the run, and meets the demand
    pub filled_meets : (before after : List ℕ) → report_length n ≤ length before
        → after ≡ sets before 0 (fill_from (coefficients_of header.edition) header sites header_length no_line s)
        → (after ≡ laid_over (report_numbers (lines_in s)) before) × Demand s after
    filled_meets before after h e =
        let filled : fill_from (coefficients_of header.edition) header sites header_length no_line s ≡ report_numbers (lines_in s) =
        rw (header_is, sites_are) (fill_report s scanned) in
        let laid : after ≡ laid_over (report_numbers (lines_in s)) before = e ∙ ap (sets before 0) filled ∙ report_fits before h in
        (laid, rw laid (demand_met (drop (length (report_numbers (lines_in s))) before)))
