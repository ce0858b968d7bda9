use Rattle.unit.proofs.brackets.crash_exponential.Goals as goal

pub returns : goal.returns
returns c = rw c.exponential.ensures.value at c.lend.ensures
