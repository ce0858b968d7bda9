use Rattle.std.proofs.Common.{◌-◌}
use Rattle.exponential.proofs.taylor.Laws.{Terms}
use Rattle.exponential.proofs.taylor.taylor.Given as goal

abbrev pub invariant-loop-k : goal.invariant-loop-k
invariant-loop-k l = Terms l.f (l.k - 1) l.low_term l.high_term l.low l.high
