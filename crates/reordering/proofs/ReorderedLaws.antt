-- Laws of ReorderedLaws in specs/.
use Rattle.std.specs.Prelude.{Ok}
use Rattle.std.specs.Prelude.{ℕ, zero, suc, ◌+◌, ◌*◌, ◌<◌, ◌≡◌, length, get_or}
use Rattle.std.proofs.Math.Path.{refl}
use Rattle.std.proofs.Common.{sym, ap, ◌∙◌, add-zero, arith}
use mathlib.Core.List.{List, map, Permᴰ}
use Rattle.std.proofs.Math.Nat.{add_left_comm}
use Rattle.laws.proofs.ReorderingLaws.{reordering_permutes}
use Rattle.site.specs.declared.values.Site.{Site}
use Rattle.header.specs.declared.Header.{Header}
use Rattle.header.specs.Header.{header_in, count_in}
use Rattle.model.specs.Coefficients.{coefficients_of}
use Rattle.line.specs.declared.Line.{Line}
use Rattle.line.specs.Line.{site_line}
use Rattle.project.specs.File.{sites_in}
use Rattle.project.specs.Causes.{report_length}
use Rattle.report.specs.Report.{add_line, total_of, coefficients_in}
use Rattle.report.specs.Demand.{line_at, site_at, ReportsProject}
use Rattle.report.specs.LinesLeft.{ReportLeft, reader_leaves, count_left, line_left, totals_left}
use Rattle.reordering.specs.Reordered.{ReorderedProject, ReorderedReport}

-- EVERY PART IS NEEDED, number by number: two reports in which a number of a line has not moved with its site, or in which one of the
-- four totals differs, are not of two orders
numbers_of_lines : (report other : List ℕ) (i j k : ℕ) → k < 4 → line_at other j ≡ line_at report i → get_or other (4 * j + k) 0 ≡ get_or report (4 * i + k) 0
numbers_of_lines report other i j zero h e = rw (add-zero (4 * i), add-zero (4 * j)) (ap (λ (line : Line). line.predicted_low) e)
numbers_of_lines report other i j (suc zero) h e = ap (λ (line : Line). line.predicted_high) e
numbers_of_lines report other i j (suc (suc zero)) h e = ap (λ (line : Line). line.expected_low) e
numbers_of_lines report other i j (suc (suc (suc zero))) h e = ap (λ (line : Line). line.expected_high) e
numbers_of_lines report other i j (suc (suc (suc (suc k)))) h e = absurd (omega arith)

module _ {n : ℕ} {image : ℕ → ℕ} {report other : List ℕ} where
  pub line_not_moved : (i k : ℕ) → i < n → k < 4 → (get_or other (4 * image i + k) 0 ≡ get_or report (4 * i + k) 0 → ⊥)
      → ReorderedReport n image report other → ⊥
  line_not_moved i k h l differ r = differ (numbers_of_lines report other i (image i) k l (r.lines_move i h))

  pub totals_not_equal : (k : ℕ) → k < 4 → (get_or other (4 * n + k) 0 ≡ get_or report (4 * n + k) 0 → ⊥) → ReorderedReport n image report other → ⊥
  totals_not_equal k l differ r = differ (numbers_of_lines report other n n k l r.totals_equal)

-- TOTALS ARE THE SAME IN ANY ORDER
exchanged_lines : (x y z : Line) → add_line x (add_line y z) ≡ add_line y (add_line x z)
exchanged_lines x y z = rw (
  add_left_comm x.predicted_low y.predicted_low z.predicted_low,
  add_left_comm x.predicted_high y.predicted_high z.predicted_high,
  add_left_comm x.expected_low y.expected_low z.expected_low,
  add_left_comm x.expected_high y.expected_high z.expected_high,
) refl

module _ (line_of : Site → Line) where
  total_in_any_order : {sites others : List Site} → Permᴰ sites others → total_of (map line_of others) ≡ total_of (map line_of sites)
  unfolding total_of
  total_in_any_order Permᴰ.nil = refl
  total_in_any_order (Permᴰ.cons e p) = rw (e, total_in_any_order p) refl
  total_in_any_order (Permᴰ.swap e f) = rw (e, f) (exchanged_lines _ _ _)
  total_in_any_order (Permᴰ.trans p q) = total_in_any_order q ∙ total_in_any_order p

-- THE CLAIM, of the reports that are left for two accepted projects
module _ {bytes other : List ℕ} {image : ℕ → ℕ} (r : ReorderedProject bytes other image)
    {before report : List ℕ} (left : ReportLeft bytes before report)
    {other_before other_report : List ℕ} (other_left : ReportLeft other other_before other_report) where
  pub as_long : report_length (count_in other) ≡ report_length (count_in bytes)
  as_long = ap report_length (sym (count_left other_left) ∙ r.same_sites.same_length ∙ count_left left)

  lines_move : (i : ℕ) → i < length (sites_in bytes) → line_at other_report (image i) ≡ line_at report i
  lines_move i h =
      line_left other_left (image i) (r.same_sites.inside i h)
      ∙ ap (λ (header : Header). site_line (coefficients_of header.edition) header (site_at (sites_in other) (image i))) r.same_header
      ∙ ap (site_line (coefficients_in bytes) (header_in bytes)) (r.same_sites.same i _ h)
      ∙ sym (line_left left i h)

  totals_equal : line_at other_report (length (sites_in bytes)) ≡ line_at report (length (sites_in bytes))
  totals_equal =
      ap (line_at other_report) (sym r.same_sites.same_length)
      ∙ totals_left other_left
      ∙ ap (λ (header : Header). total_of (map (site_line (coefficients_of header.edition) header) (sites_in other))) r.same_header
      ∙ total_in_any_order (site_line (coefficients_in bytes) (header_in bytes)) (reordering_permutes (sites_in bytes) (sites_in other) image r.same_sites)
      ∙ sym (totals_left left)

  pub left_reordered : ReorderedReport (length (sites_in bytes)) image report other_report
  left_reordered = record { lines_move = lines_move; totals_equal = totals_equal }

-- as the project reader promises its answer and its report
pub reports_reordered : {bytes other : List ℕ} {image : ℕ → ℕ} → ReorderedProject bytes other image
    → {before report : List ℕ} {count : ℕ} → ReportsProject bytes before report (Ok count)
    → {other_before other_report : List ℕ} {other_count : ℕ} → ReportsProject other other_before other_report (Ok other_count)
    → (other_count ≡ count) × ReorderedReport (length (sites_in bytes)) image report other_report
reports_reordered r p q = (
  q.meets.2 ∙ as_long r (reader_leaves p) (reader_leaves q) ∙ sym p.meets.2,
  left_reordered r (reader_leaves p) (reader_leaves q),
)
