use Rattle.unit.proofs.brackets.crash_exponential_negative.Goals as goal

pub returns : goal.returns
returns c = rw c.exponential_negative.ensures.value at c.lend.ensures
