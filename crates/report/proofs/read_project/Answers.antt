-- Scan, space, then the fill.
use Rattle.std.proofs.Common.{◌≡◌, sym, ◌∙◌, ℕ, List, Result, Ok, Err}
use Rattle.std.specs.Result.{IsErrAnd}
use Rattle.project.specs.declared.Refused.{Refused}
use Rattle.report.specs.Demand.{ReportsProject}
use Rattle.report.specs.ReaderCauses.{refused_by_bytes, refused_by_room, reported}
use Rattle.report.proofs.read_project.Goals as goal

-- a refusal is passed on as it is
passed_on : (s before : List ℕ) (r : Refused) (answer : Result ℕ Refused) → IsErrAnd answer (λ x. x ≡ r) → ReportsProject s before before (Err r)
    → ReportsProject s before before answer
passed_on s before r (Ok n) h p = absurd h
passed_on s before r (Err x) h p = rw h p

-- the scan's refusal leaves the run as it was
pub returns-in_err-sites : goal.returns-in_err-sites
returns-in_err-sites c =
    passed_on _ _ _ _ c.from_residual.ensures.1 (refused_by_bytes _ _ _ (sym c.scan.ensures.answer_is ∙ c.in_err-sites.was))

pub returns-in_err-count : goal.returns-in_err-count
returns-in_err-count c =
    passed_on _ _ _ _ c.from_residual-in_err-count.ensures.1
    (refused_by_room _ _ _ (sym c.scan.ensures.answer_is ∙ c.in_ok-sites.was) _ (sym c.in_err-count.was ∙ c.space.ensures))

pub returns : goal.returns
returns c =
    reported _ _ _ (sym c.scan.ensures.answer_is ∙ c.in_ok-sites.was) _ _ (sym c.in_ok-count.was ∙ c.space.ensures)
    c.fill.ensures.report_after c.fill.ensures.demand
