use Rattle.remainder.specs.ExponentialBounds.{exponential_high_is}
use Rattle.remainder.specs.RemainderLaws.{part_small}
use Rattle.remainder.proofs.raised_high.Goals as goal

pub returns-clause-near_one : goal.returns-clause-near_one
returns-clause-near_one c =
    rw c.exponential_high.ensures (exponential_high_is _ (part_small c.requires.1 c.requires.0 c.up.ensures.rounded.near)).near_one
