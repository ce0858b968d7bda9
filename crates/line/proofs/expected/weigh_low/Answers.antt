-- It fits, because it is at most the prediction or the history.
use Rattle.line.specs.Weighing.{under_positive, low_fits}
use Rattle.line.proofs.expected.weigh_low.Goals as goal

pub times_down-requires : goal.times_down-requires
times_down-requires c =
    let sizes = c.requires in
    rw (c.over_of-over.ensures, c.under_of-under.ensures) (under_positive _ _ _ _ sizes, low_fits _ _ _ _ sizes)

pub returns : goal.returns
returns c = rw (← c.over_of-over.ensures, ← c.under_of-under.ensures) c.times_down.ensures
