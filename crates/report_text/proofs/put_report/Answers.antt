use Rattle.std.proofs.Common.{arith, length}
use Rattle.std.proofs.Math.Nat.{mul-div-le}
use Rattle.report_text.specs.Lines.{lines_on, lines_end}
use Rattle.report_text.proofs.put_report.Goals as goal

pub loop-a-preserved : goal.loop-a-preserved
loop-a-preserved c = lines_on _ _ _ _ _ _ _ _ c.loop-a.invariant c.as_chunks.ensures.front (omega arith) c.put_line-at.ensures

pub returns : goal.returns
returns c = (lines_end _ _ _ _ _ c.loop-a.invariant (omega arith), omega (arith, mul-div-le (length c.args.numbers.now) 4))
