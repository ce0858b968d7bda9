-- The report of valid sites, read back by index, meets the demand where the line of each stands: lines that stand, and are as wide as
-- their sites and crashes count before these are rounded up, have totals that stand.
use Rattle.std.specs.Prelude.{ℕ, zero, suc, ◌+◌, ◌*◌, ◌<◌, ◌≡◌, refl, length, get_or}
use Rattle.std.proofs.Common.{ap, ◌∙◌, arith}
use mathlib.Core.List.{List, [], ◌∷◌, ◌++◌, map}
use Rattle.site.specs.declared.values.Site.{Site}
use Rattle.site.specs.Writing.{Valid}
use Rattle.header.specs.declared.Header.{Header}
use Rattle.model.specs.Coefficients.{Coefficients}
use Rattle.model.specs.StatedWidths.{width_parts, expected_each, sites_counted, crashes_counted}
use Rattle.model.specs.CountedWidth.{CountedWidth}
use Rattle.line.specs.declared.Line.{Line}
use Rattle.line.specs.Line.{site_line}
use Rattle.report.specs.Report.{numbers_of, all_numbers, no_line}
use Rattle.report.specs.Demand.{line_at}

-- the lines of a report by index: the first, and the ones after it
next_line : (line : Line) (numbers : List ℕ) (i : ℕ) → line_at (numbers_of line ++ numbers) (suc i) ≡ line_at numbers i
next_line line numbers i =
    let e : 4 * suc i ≡ suc (suc (suc (suc (4 * i)))) = omega arith in
    let f : 4 * suc i + 1 ≡ suc (suc (suc (suc (4 * i + 1)))) = omega arith in
    let g : 4 * suc i + 2 ≡ suc (suc (suc (suc (4 * i + 2)))) = omega arith in
    let h : 4 * suc i + 3 ≡ suc (suc (suc (suc (4 * i + 3)))) = omega arith in
    rw (f, g, h, e) refl

pub line_of_report : (lines : List Line) (rest : List ℕ) (i : ℕ) → i < length lines → line_at (all_numbers lines ++ rest) i ≡ get_or lines i no_line
unfolding all_numbers
line_of_report [] rest i h = absurd (omega arith)
line_of_report (line ∷ lines) rest zero h = refl
line_of_report (line ∷ lines) rest (suc i) h = next_line line (all_numbers lines ++ rest) i ∙ line_of_report lines rest i (omega arith)

pub total_of_report : (lines : List Line) (total : Line) (rest : List ℕ) → line_at (all_numbers lines ++ (numbers_of total ++ rest)) (length lines) ≡ total
unfolding all_numbers
total_of_report [] total rest = refl
total_of_report (line ∷ lines) total rest = next_line line (all_numbers lines ++ (numbers_of total ++ rest)) (length lines) ∙ total_of_report lines total rest

abbrev pub AllValid : (edition years : ℕ) → List Site → Type 0
AllValid edition years [] = Unit
AllValid edition years (site ∷ sites) = Valid edition years site × AllValid edition years sites

pub length_lines : (c : Coefficients) (header : Header) (sites : List Site) → length (map (site_line c header) sites) ≡ length sites
length_lines c header [] = refl
length_lines c header (site ∷ sites) = ap suc (length_lines c header sites)

-- what a line's expected width is before the crashes are rounded up
abbrev pub LineCounted : Coefficients → Header → Site → Type 0
LineCounted c header site =
    CountedWidth width_parts expected_each (sites_counted header.years site) (crashes_counted c header.years site)
    (site_line c header site).expected_low (site_line c header site).expected_high
