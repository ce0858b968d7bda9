-- Laws of ReorderedCalls in specs/.
use Rattle.std.specs.Prelude.{ℕ, ◌≡◌, refl, List, length}
use Rattle.std.proofs.Common.{sym, ◌∙◌}
use Rattle.project.specs.File.{sites_in}
use Rattle.report.specs.LinesLeft.{ReportLeft}
use Rattle.unit.specs.ProjectNumbers.{ReadsProject}
use Rattle.reordering.specs.Reordered.{ReorderedProject, ReorderedReport}
use Rattle.reordering.proofs.ReorderedLaws.{as_long, left_reordered}

-- THE CLAIM, of two calls that answer 0
call_leaves : {bytes before report : List ℕ} {value : ℕ} → ReadsProject bytes before report value 0 → ReportLeft bytes before report
call_leaves p = record { accepted = (p.reported refl).no_cause; report_is = p.report_is }

pub calls_reordered : {bytes other : List ℕ} {image : ℕ → ℕ} → ReorderedProject bytes other image
    → {before report : List ℕ} {value : ℕ} → ReadsProject bytes before report value 0
    → {other_before other_report : List ℕ} {other_value : ℕ} → ReadsProject other other_before other_report other_value 0
    → (other_value ≡ value) × ReorderedReport (length (sites_in bytes)) image report other_report
calls_reordered r p q = (
  (q.reported refl).count_is ∙ as_long r (call_leaves p) (call_leaves q) ∙ sym (p.reported refl).count_is,
  left_reordered r (call_leaves p) (call_leaves q),
)
