-- The bracket of a logarithm stands and has its width.
use Rattle.std.specs.Prelude.{ℕ, ◌≤◌}
use Rattle.logarithm.specs.Logarithm.{logarithm_bracket, StandingLogarithm}
use Rattle.logarithm.proofs.LogarithmLaws.{logarithm_stands, logarithm_width_lem}

module _ (a : ℕ) (from : 1 ≤ a) (to : a ≤ 20000) where
  pub logarithm_standing : StandingLogarithm a (logarithm_bracket a)
  logarithm_standing = record { stands = logarithm_stands a from to; narrow = logarithm_width_lem a from to }
