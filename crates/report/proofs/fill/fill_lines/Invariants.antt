-- The lines before record i stand in the report, and those from its place on fill it to the whole.
use Rattle.model.specs.Coefficients.{coefficients_of}
use Rattle.report.specs.Fill.{Filling}
use Rattle.report.proofs.fill.fill_lines.Given as goal

abbrev pub invariant-loop-i : goal.invariant-loop-i
invariant-loop-i l = Filling (coefficients_of l.header.edition) l.file l.header l.sites l.initial.report l.i l.at l.total l.report
