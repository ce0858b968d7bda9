-- Stored bounds of ln k for k from 1 to 256: the estimates at depth 12.
use Rattle.std.specs.Prelude.{ℕ, ◌+◌, ◌-◌, ◌*◌, ◌^◌, ◌≤◌, List, ◌≡◌, get_or}
use Rattle.std.proofs.Common.{arith}
use Rattle.estimate.specs.Fraction.{◌≤ᶠ◌, fraction, whole, decimal}
use Rattle.estimate.specs.FractionLaws.{whole_mono}
use Rattle.estimate.specs.ExponentialBounds.{AtMostExp, AtLeastExp}
use Rattle.estimate.specs.Logarithm.{ln_largest, ln_smallest, ln_under, ln_over}
use Rattle.estimate.proofs.Logarithm.{ln_one}
use Rattle.estimate.proofs.LogarithmLaws.{ln_under_at_least, ln_under-≤-over, ln_under-≤-ten, ln_over-≤-ten}
use Rattle.estimate.specs.LogarithmLaws.{ln_over_at_most}
use Rattle.remainder.specs.Remainder.{scale}
use Rattle.bracket.specs.declared.Bounds.{Bounds}
use Rattle.logarithm.specs.EstimatesNear.{ln_estimates_near}

-- the under-estimate of ln k at depth 12, in units of 10^-12
unfoldable pub stored_low : ℕ → ℕ
stored_low k = ln_largest 12 (whole k)

-- and the over-estimate
unfoldable pub stored_high : ℕ → ℕ
stored_high k = ln_smallest 12 (whole k)

-- both
abbrev pub stored_bounds : ℕ → Bounds
stored_bounds k = record { low = stored_low k; high = stored_high k }

-- a table that has the lower bound at each entry; from ln 2 on, the upper bound is the next number
pub record StoredLogarithms (table : List ℕ) : Type 0 where
  pub low : (k : ℕ) → 1 ≤ k → k ≤ 256 → get_or table (k - 1) 0 ≡ stored_low k
  pub high : (k : ℕ) → 2 ≤ k → k ≤ 256 → get_or table (k - 1) 0 + 1 ≡ stored_high k

-- "ln 1: 0 and 0"
pub stored_high_one : stored_high 1 ≡ 0
unfolding stored_high
stored_high_one = let o = (ln_one 12).over in unfold ln_over decimal whole fraction in omega (arith, o.cross)

-- THEY ARE BOUNDS, FOR EVERY NUMBER UP TO 20,000

module _ (k : ℕ) (from : 1 ≤ k) (to : k ≤ 20000) where
  one : whole 1 ≤ᶠ whole k
  one = whole_mono from

  few : whole k ≤ᶠ whole (10 ^ 9)
  few = whole_mono (omega arith)

  -- e^(low) ≤ k ≤ e^(high)
  pub stored_low_at_least : AtLeastExp (whole k) (decimal 12 (stored_low k))
  unfolding stored_low ln_under
  stored_low_at_least = ln_under_at_least 12 one few

  pub stored_high_at_most : AtMostExp (whole k) (decimal 12 (stored_high k))
  unfolding stored_high ln_over
  stored_high_at_most = ln_over_at_most 12 (whole k)

  pub stored_in_order : stored_low k ≤ stored_high k
  unfolding stored_low stored_high
  stored_in_order = let l = ln_under-≤-over one few 12 12 in unfold ln_under ln_over decimal fraction in omega (arith, l.cross)

  pub stored_near : stored_high k ≤ stored_low k + 2
  unfolding stored_low stored_high
  stored_near = ln_estimates_near one (whole_mono to)

  pub stored_low_small : stored_low k ≤ 10 * scale
  unfolding stored_low
  stored_low_small = let l = ln_under-≤-ten one (whole_mono to) 12 in unfold ln_under decimal whole fraction in omega (arith, l.cross)

  pub stored_high_small : stored_high k ≤ 10 * scale
  unfolding stored_high
  stored_high_small = let l = ln_over-≤-ten (whole_mono to) 12 in unfold ln_over decimal whole fraction in omega (arith, l.cross)
