use Rattle.unit.proofs.brackets.crash_power.Goals as goal

pub returns : goal.returns
returns c = rw c.power.ensures.value at c.lend.ensures
