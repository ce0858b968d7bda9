-- The report of a project: "a lent run of 64-bit numbers: four for each site, then four totals, the exact sums; what follows them
-- is untouched".
use Rattle.site.specs.declared.refusal.Refusal.TheVariants as refused
use Rattle.site.specs.Refusals.{number_of}
use Rattle.std.specs.Prelude.{Result, Ok, Err}
use Rattle.project.specs.declared.Refused.{Refused}
use Rattle.std.specs.Prelude.{ℕ, ◌+◌, cond, List, [], ◌∷◌, ◌++◌, map, length, leb}
use Rattle.laws.specs.Lent.{laid_over}
use Rattle.header.specs.Header.{edition_in, header_in}
use Rattle.model.specs.Coefficients.{Coefficients, coefficients_of}
use Rattle.line.specs.declared.Line.{Line}
use Rattle.line.specs.Line.{site_line}
use Rattle.project.specs.File.{refused_at, sites_in, scan_file}
use Rattle.project.specs.Causes.{report_length}

-- "predicted low, predicted high, expected low, expected high"
abbrev pub numbers_of : Line → List ℕ
numbers_of line = line.predicted_low ∷ line.predicted_high ∷ line.expected_low ∷ line.expected_high ∷ []

unfoldable pub all_numbers : List Line → List ℕ
all_numbers [] = []
all_numbers (line ∷ lines) = numbers_of line ++ all_numbers lines

-- "four totals, the exact sums"
abbrev pub no_line : Line
no_line = record { predicted_low = 0; predicted_high = 0; expected_low = 0; expected_high = 0 }

abbrev pub add_line : Line → Line → Line
add_line x y = record {
  predicted_low = x.predicted_low + y.predicted_low;
  predicted_high = x.predicted_high + y.predicted_high;
  expected_low = x.expected_low + y.expected_low;
  expected_high = x.expected_high + y.expected_high;
}

unfoldable pub total_of : List Line → Line
total_of [] = no_line
total_of (line ∷ lines) = add_line line (total_of lines)

-- the numbers of a report
abbrev pub report_numbers : List Line → List ℕ
report_numbers lines = all_numbers lines ++ numbers_of (total_of lines)

-- the coefficients of a file's edition
abbrev pub coefficients_in : List ℕ → Coefficients
coefficients_in s = coefficients_of (edition_in s)

-- the lines of a file
abbrev pub lines_in : List ℕ → List Line
lines_in s = map (site_line (coefficients_in s) (header_in s)) (sites_in s)

-- "last 2, then 10. Success returns 0 and 4(sites + 1)"
abbrev pub spaced : Result ℕ Refused → (room : ℕ) → Result ℕ Refused
spaced (Err refused) room = Err refused
spaced (Ok sites) room = cond (leb (report_length sites) room) (Ok (report_length sites)) (refused_at refused.NoSpace 0)

-- what the project reader answers
unfoldable pub project_answer : List ℕ → (room : ℕ) → Result ℕ Refused
project_answer s room = spaced (scan_file s) room

-- document 01's number for an answer, its place, and the count that comes back with 0
abbrev pub answer_number : Result ℕ Refused → ℕ
answer_number (Ok count) = 0
answer_number (Err refused) = number_of refused.refusal

abbrev pub answer_value : Result ℕ Refused → ℕ
answer_value (Ok count) = count
answer_value (Err refused) = refused.place

-- the report afterwards, number for number: "Left as it was: report"
abbrev pub written : Result ℕ Refused → (numbers before : List ℕ) → List ℕ
written (Ok count) numbers before = laid_over numbers before
written (Err refused) numbers before = before

unfoldable pub report_after : List ℕ → (before : List ℕ) → List ℕ
report_after s before = written (project_answer s (length before)) (report_numbers (lines_in s)) before
