use Rattle.crash_report.specs.Printed.{made, report_printed, refusal_printed}
use Rattle.crash_report.proofs.project_text.Goals as goal

pub returns-in-Ok : goal.returns-in-Ok
returns-in-Ok c =
    report_printed _ _ _ _ _ _ (made _ _ _ c.requires.0 c.read_project.ensures c.in-Ok.is) c.put_report.ensures

pub returns-in-Err : goal.returns-in-Err
returns-in-Err c =
    refusal_printed _ _ _ _ _ c.requires.0 c.read_project.ensures.answer_is c.in-Err.is (rw c.from.ensures at c.put_refusal.ensures)
