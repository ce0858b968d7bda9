-- Laws of Power in specs/.
use Rattle.std.specs.Prelude.{ℕ, ◌+◌, ◌*◌, ◌^◌, ◌<◌}
use Rattle.std.proofs.Common.{ap, arith, lit<, lit≤}
use Rattle.estimate.specs.Fraction.{decimal, ◌÷◌}
use Rattle.estimate.specs.Power.{AtMostPower, PowerValue, ThirtyTwoToSixTenths, power_largest_value, power_over, power_under}

pub power_value : (d A p q t : ℕ) → 0 < q → AtMostPower t (10 ^ d) A p q → A ^ p * (10 ^ d) ^ q < (t + 1) ^ q → PowerValue d A p q t
unfolding power_under power_over
power_value d A p q t hq h k = let is = power_largest_value d A p q t hq h k in record { under = ap (λ s. decimal d s) is; over = ap (λ s. decimal d (s + 1)) is }

thirty_two : PowerValue 1 32 60 100 80
thirty_two = power_value 1 32 60 100 _ (lit< tt) (lit≤ tt) (lit< tt)

pub thirty_two_to_six_tenths : ThirtyTwoToSixTenths
unfolding decimal ◌÷◌
thirty_two_to_six_tenths = record { under = rw thirty_two.under (omega arith); over = rw thirty_two.over (omega arith) }
