use Rattle.unit.proofs.brackets.crash_logarithm.Goals as goal

pub returns : goal.returns
returns c = rw c.logarithm.ensures.value at c.lend.ensures
