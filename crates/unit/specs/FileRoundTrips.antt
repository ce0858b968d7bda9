-- BOTH ROUND TRIPS of a whole project: what the writer leaves is reported with the same sites in the same order, and an accepted file
-- is written again as it was; of the functions, and of the exported calls.
use Rattle.std.specs.Prelude.{Ok}
use Rattle.std.specs.Prelude.{◌≡◌, ℕ, ◌≤◌, length, take, drop}
use Rattle.std.proofs.Math.Path.{ap}
use Rattle.std.proofs.Common.{sym, ◌∙◌}
use mathlib.Core.List.{List, ◌++◌, map}
use borrow.Author.Tests.{le-leb}
use Rattle.laws.specs.Lent.{laid_over}
use Rattle.site.specs.declared.values.Site.{Site}
use Rattle.header.specs.declared.Header.{Header}
use Rattle.header.specs.Header.{header_in}
use Rattle.model.specs.Coefficients.{coefficients_of}
use Rattle.line.specs.declared.Line.{Line}
use Rattle.line.specs.Line.{site_line}
use Rattle.project.specs.File.{sites_in}
use Rattle.project.specs.Causes.{report_length}
use Rattle.report.specs.Report.{project_answer, answer_number, answer_value, report_numbers, lines_in, report_after}
use Rattle.project_writer.specs.Promise.{WritesProject}
use Rattle.project_writer.proofs.Theorems.{buffer_accepted}
use Rattle.unit.specs.ProjectNumbers.{ReadsProject}
use Rattle.unit.specs.FileNumbers.{sites_given, WritesFile, zero_filed}

-- the lines of a header's values and a list of sites
abbrev pub lines_of : Header → List Site → List Line
lines_of header sites = map (site_line (coefficients_of header.edition) header) sites

-- WHAT IS WRITTEN IS REPORTED: "accepted by the reader, where its report has space, with the same sites in the same order"
pub record ReportedBack (header : Header) (sites : List Site) (bytes : List ℕ) (room : ℕ) : Type 0 where
  pub answer_is : project_answer bytes room ≡ Ok (report_length (length sites))
  pub header_is : header_in bytes ≡ header
  pub sites_are : sites_in bytes ≡ sites
  pub lines_are : lines_in bytes ≡ lines_of header sites

module _ {header : Header} {sites : List Site} {before afterwards : List ℕ} {n : ℕ} where
  pub written_reported : WritesProject header sites before afterwards (Ok n) → (room : ℕ) → report_length (length sites) ≤ room
      → ReportedBack header sites (take n afterwards) room
  unfolding project_answer
  written_reported w room space =
      rw w.buffer_is
      (let back = buffer_accepted header sites before n (sym w.answer_is) in
      let edition = ap (λ (h : Header). h.edition) back.header_is in
      record {
        answer_is = rw (back.accepted, le-leb (report_length (length sites)) room space);
        header_is = back.header_is;
        sites_are = back.sites_are;
        lines_are = rw (back.header_is, edition, back.sites_are);
      })

-- at the calls: the reader takes the bytes that the writer left, and makes the report of the sites that were given
pub record FileReadBack (header : Header) (numbers before report : List ℕ) (value number : ℕ) : Type 0 where
  pub number_is : number ≡ 0
  pub value_is : value ≡ report_length (length (sites_given numbers))
  pub report_is : report ≡ laid_over (report_numbers (lines_of header (sites_given numbers))) before

module _ {header : Header} {numbers buffer bytes : List ℕ} {n : ℕ} where
  pub written_file_read : WritesFile header numbers buffer bytes n 0
      → {before report : List ℕ} {value number : ℕ} → report_length (length (sites_given numbers)) ≤ length before
      → ReadsProject (take n bytes) before report value number → FileReadBack header numbers before report value number
  unfolding report_after
  written_file_read w {before} space r =
      let back = written_reported (zero_filed w) (length before) space in
      record {
        number_is = r.number_is ∙ ap answer_number back.answer_is;
        value_is = r.value_is ∙ ap answer_value back.answer_is;
        report_is =
            r.report_is ∙ rw back.answer_is (ap (λ (lines : List Line). laid_over (report_numbers lines) before) back.lines_are);
      }

-- WHAT IS READ IS WRITTEN BACK: "each accepted file is reproduced from its header and sites"
pub record FileWrittenBack (file before afterwards : List ℕ) (value number : ℕ) : Type 0 where
  pub number_is : number ≡ 0
  pub value_is : value ≡ length file
  pub buffer_is : afterwards ≡ file ++ drop (length file) before
