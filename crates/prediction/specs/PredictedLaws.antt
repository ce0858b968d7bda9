-- THE PREDICTED PAIR of a valid site stands to its estimates at every depth, is in order and narrow, and fits.
use Rattle.std.specs.Prelude.{ℕ, ◌+◌, ◌*◌, ◌≤◌}
use Rattle.std.proofs.Common.{arith}
use Rattle.estimate.specs.Fraction.{Fraction, fraction, ◌=ᶠ◌, ◌÷◌, millionths, ◌+ᶠ◌}
use Rattle.estimate.specs.Standing.{LowRight, HighRight}
use Rattle.wide.specs.Rounding.{Narrow}
use Rattle.model.specs.StatedWidths.{width_parts, predicted_each}
use Rattle.prediction.specs.Pair.{most_term}
use Rattle.bracket.specs.declared.Bounds.{Bounds}

-- WHAT IS SHOWN of a pair that stands for estimates, of `count` terms
pub record PairStands (count : ℕ) (under over : ℕ → Fraction) (p : Bounds) : Type 0 where
  pub low_right : LowRight (millionths p.low) over
  pub high_right : HighRight (millionths p.high) under
  pub in_order : p.low ≤ p.high
  pub narrow : Narrow width_parts (predicted_each * count) 1 p.low p.high
  pub small : p.high ≤ most_term * count

-- a sum of whole numbers of millionths
pub millionths_add : (a b : ℕ) → millionths (a + b) =ᶠ millionths a +ᶠ millionths b
unfolding millionths ◌÷◌ fraction ◌+ᶠ◌
millionths_add a b = record { cross = omega arith }
