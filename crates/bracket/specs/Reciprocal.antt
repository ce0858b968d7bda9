-- A bracket turned over, with nothing rounded: it stands to the reciprocals of the estimates, and is as wide.
use Rattle.std.specs.Prelude.{ℕ, ◌<◌}
use Rattle.std.proofs.Common.{arith}
use Rattle.estimate.specs.Fraction.{Fraction, fraction, inverse}
use Rattle.estimate.specs.FractionLaws.{inverse_antitone, positive_above}
use Rattle.estimate.specs.Standing.{reciprocal_low_right, reciprocal_high_right}
use Rattle.bracket.specs.Bracket.{Stands, RelativeWidth}
use Rattle.bracket.specs.declared.Bracket.{Bracket}

-- "reciprocals, exchanged"
abbrev pub reciprocal : Bracket → Bracket
reciprocal b = record { low_num = b.high_den; low_den = b.high_num; high_num = b.low_den; high_den = b.low_num }

pub reciprocal_stands : {b : Bracket} {under over : ℕ → Fraction} → Stands b under over → 0 < b.low_num
    → (under_positive : (d : ℕ) → 0 < (under d).num) (over_positive : (d : ℕ) → 0 < (over d).num)
    → Stands (reciprocal b) (λ d. inverse (over d) (over_positive d)) (λ d. inverse (under d) (under_positive d))
unfolding fraction inverse
reciprocal_stands s positive under_positive over_positive =
    let high_positive = positive_above positive s.in_order in
    record {
      low_den = high_positive;
      high_den = positive;
      low_right = reciprocal_low_right high_positive under_positive s.high_right;
      high_right = reciprocal_high_right positive over_positive s.low_right;
      in_order = inverse_antitone positive high_positive s.in_order;
    }

pub reciprocal_width : {R r : ℕ} {b : Bracket} → RelativeWidth R r b → RelativeWidth R r (reciprocal b)
reciprocal_width w = record { width = omega (arith, w.width) }
