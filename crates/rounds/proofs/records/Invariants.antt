-- Each record that is read leaves fewer bytes.
use Rattle.std.proofs.Common.{length}
use Rattle.rounds.proofs.records.Given as goal

abbrev pub decreases-loop-site : goal.decreases-loop-site
decreases-loop-site l = length l.rest
