-- The answer of the site's line, lent.
use Rattle.unit.proofs.Lending.{refused}
use Rattle.unit.proofs.LineSteps.{lined}
use Rattle.unit.proofs.lines.crash_line.Goals as goal

pub returns-in-Err-EditionUnknown : goal.returns-in-Err-EditionUnknown
returns-in-Err-EditionUnknown c =
    let e = c.in-Err-EditionUnknown in
    lined _ _ _ _ _ _ c.site_from.ensures _ c.line_of.ensures.value c.line_of.ensures.stands (rw (e.is, e.field-0-is) (refused _ 3))

pub returns-in-Err-OutsideLimits : goal.returns-in-Err-OutsideLimits
returns-in-Err-OutsideLimits c =
    let e = c.in-Err-OutsideLimits in
    lined _ _ _ _ _ _ c.site_from.ensures _ c.line_of.ensures.value c.line_of.ensures.stands (rw (e.is, e.field-0-is) (refused _ 4))

pub returns-in-Err-OutsideRange : goal.returns-in-Err-OutsideRange
returns-in-Err-OutsideRange c =
    let e = c.in-Err-OutsideRange in
    lined _ _ _ _ _ _ c.site_from.ensures _ c.line_of.ensures.value c.line_of.ensures.stands (rw (e.is, e.field-0-is) (refused _ 8))

pub returns-in-Ok : goal.returns-in-Ok
returns-in-Ok c =
    lined _ _ _ _ _ _ c.site_from.ensures _ c.line_of.ensures.value c.line_of.ensures.stands (rw c.in-Ok.is c.lend_four.ensures)
