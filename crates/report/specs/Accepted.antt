-- A file that a scan accepts is filled with its report, and the report meets the demand.
use Rattle.std.specs.Prelude.{ℕ, ◌*◌, ◌≡◌, refl, length}
use Rattle.std.proofs.Common.{length-append, arith}
use mathlib.Core.List.{List, [], ◌∷◌, Memᴰ}
use Rattle.site.specs.declared.values.Site.{Site}
use Rattle.site.specs.Writing.{Valid}
use Rattle.line.specs.declared.Line.{Line}
use Rattle.project.specs.Causes.{report_length}
use Rattle.report.specs.Report.{numbers_of, all_numbers, total_of, report_numbers}
use Rattle.report.specs.DemandLaws.{AllValid}

-- a report is as long as it says
length_numbers : (lines : List Line) → length (all_numbers lines) ≡ 4 * length lines
unfolding all_numbers
length_numbers [] = refl
length_numbers (line ∷ lines) = omega (arith, length_numbers lines)

pub length_report : (lines : List Line) → length (report_numbers lines) ≡ report_length (length lines)
length_report lines = omega (arith, length-append (all_numbers lines) (numbers_of (total_of lines)), length_numbers lines)

-- every member valid, one by one
pub all_valid : (edition years : ℕ) (sites : List Site) → ((site : Site) → Memᴰ site sites → Valid edition years site) → AllValid edition years sites
all_valid edition years [] v = tt
all_valid edition years (site ∷ sites) v = (v site (Memᴰ.head refl), all_valid edition years sites (λ other m. v other (Memᴰ.tail m)))
