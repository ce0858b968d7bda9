use Rattle.std.proofs.Common.{arith, ◌∙◌}
use Rattle.report.specs.Fill.{filling_on, filling_end, always_read, line_fits, total_at_most, place_near}
use Rattle.report.proofs.fill.fill_lines.Goals as goal

-- a record of an accepted file is always read
pub returns-in_default : goal.returns-in_default
returns-in_default c = absurd (always_read c.loop-i.invariant (omega arith) c.line_at-next.ensures c.in_default.is)

pub add_line-total-requires : goal.add_line-total-requires
add_line-total-requires c =
    let k = c.loop-i.invariant in
    (total_at_most k (omega arith), line_fits k (omega arith) c.line_at-next.ensures c.in-Some.is)

pub overflow_add-at : goal.overflow_add-at
overflow_add-at c =
    let k = c.loop-i.invariant in
    omega (arith, place_near k (omega arith) c.line_at-next.ensures c.in-Some.is, k.asked.most)

pub loop-i-preserved : goal.loop-i-preserved
loop-i-preserved c =
    rw (c.put_line.ensures, c.add_line-total.ensures) (filling_on c.loop-i.invariant (omega arith) c.line_at-next.ensures c.in-Some.is)

pub returns : goal.returns
returns c = c.put_line-2.ensures ∙ filling_end c.loop-i.invariant (omega arith)
