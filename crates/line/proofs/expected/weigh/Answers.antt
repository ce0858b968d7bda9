-- A history is weighed, a history of none too.
use Rattle.line.proofs.expected.weigh.Goals as goal

pub returns-in-Some : goal.returns-in-Some
returns-in-Some c = simp (c.in-Some.is, ← c.weigh_low.ensures, ← c.weigh_high.ensures)
