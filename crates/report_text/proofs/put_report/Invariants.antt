-- With the lines that are left stored at the place reached, the buffer is as it is to be.
use Rattle.report_text.specs.Lines.{LinesLeft}
use Rattle.report_text.proofs.put_report.Given as goal

abbrev pub invariant-loop-a : goal.invariant-loop-a
invariant-loop-a l = LinesLeft l.numbers l.initial.out l.a-index l.at l.out
