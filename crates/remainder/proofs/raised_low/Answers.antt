use Rattle.laws.specs.Quotient.{down_near}
use Rattle.remainder.specs.ExponentialBounds.{exponential_low_is}
use Rattle.remainder.specs.RemainderLaws.{part_small}
use Rattle.remainder.proofs.raised_low.Goals as goal

pub returns-clause-near_one : goal.returns-clause-near_one
returns-clause-near_one c =
    rw c.exponential_low.ensures (exponential_low_is _ (part_small c.requires.1 c.requires.0 (down_near _ _ c.requires.1.positive))).near_one
