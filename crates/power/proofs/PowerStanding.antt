-- The bracket of a power stands and has its width.
use Rattle.std.specs.Prelude.{ℕ, ◌≤◌}
use Rattle.remainder.specs.Remainder.{Exponent}
use Rattle.power.specs.Power.{power_bracket, StandingPower}
use Rattle.power.proofs.PowerLaws.{power_stands, power_width_lem}

module _ (A p q : ℕ) (from : 1 ≤ A) (to : A ≤ 65536) (e : Exponent p q) where
  pub power_standing : StandingPower A p q (power_bracket A p q)
  power_standing = record { stands = power_stands A p q from to e; narrow = power_width_lem A p q from to e }
