-- What a caller of powers in hundredths has of their brackets, for any exponent up to 1: they stand, and a bound from one
-- computed power.
use Rattle.std.specs.Prelude.{ℕ, ◌+◌, ◌*◌, ◌^◌, ◌≤◌, ◌<◌}
use Rattle.std.proofs.Common.{mul-le-mul_right, arith, lit<}
use Rattle.estimate.specs.WholePower.{mul_pow}
use Rattle.bracket.specs.Bracket.{power_width}
use Rattle.bracket.specs.WidthLaws.{high_below, power_width_large}
use Rattle.remainder.specs.Remainder.{Exponent}
use Rattle.power.specs.Stored.{billion}
use Rattle.power.specs.Power.{power_bracket, StandingPower}
use Rattle.power.proofs.PowerLaws.{power_low_below}
use Rattle.power.proofs.PowerStanding.{power_standing}

module _ (A p : ℕ) (from : 1 ≤ A) (to : A ≤ 20000) (part : p ≤ 100) where
  exponent : Exponent p 100
  exponent = record { at_most_one = part; positive = lit< tt }

  pub hundredths_standing : StandingPower A p 100 (power_bracket A p 100)
  hundredths_standing = power_standing A p 100 from (omega arith) exponent

  -- A^(p/100) is at most c + 1, where 20,000^p is at most c^100
  pub hundredths_below : (c : ℕ) → c < power_width → 20000 ^ p ≤ c ^ 100 → (power_bracket A p 100).high_num * 1 ≤ (c + 1) * (power_bracket A p 100).high_den
  unfolding power_bracket
  hundredths_below c few power =
      let scaled : 20000 ^ p * billion ^ 100 ≤ (c * billion) ^ 100 = rw (mul_pow c billion 100) (mul-le-mul_right (billion ^ 100) power) in
      let low = power_low_below A p 100 from (omega arith) exponent 20000 (c * billion) to scaled in
      high_below power_width (power_bracket A p 100) c (c + 1) 1 power_width_large (lit< tt) hundredths_standing.narrow (omega arith) (omega arith)
      (omega (arith, low))
