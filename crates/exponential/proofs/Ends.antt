-- The ends of a bracket are the definition's, and fit 64 bits.
use mathlib.Core.Path.{◌≡◌, refl}
use Prim.Native.Nat.{ℕ, ◌+◌, ◌/◌, ◌%◌, ◌^◌, ◌≤◌, ◌<◌}
use native.Mathlib.Omega.{arith}
use Rattle.wide.specs.Scaling.{floor, ceiling}
use Rattle.exponential.specs.Scale.{scale}
use Rattle.exponential.specs.Stored.{stored_exp}
use Rattle.exponential.specs.StoredLaws.{stored_bounds_lem}
use Rattle.exponential.specs.Taylor.{taylor_low, taylor_high}
use Rattle.exponential.specs.Exponential.{exp_low, exp_high, at_scale, exp_bracket, exponential_limit}
use Rattle.exponential.proofs.ExponentialEnds.{exp_low_most, exp_high_most}

-- e is the stored number, l and h are the ends of the rest
pub record Ends (x e l h : ℕ) : Type 0 where
  pub low_fits : floor e l scale < 2 ^ 64
  pub high_fits : ceiling (e + 1) h scale < 2 ^ 64
  pub next_fits : e + 1 < 2 ^ 64
  pub bracket_is : at_scale (floor e l scale) (ceiling (e + 1) h scale) ≡ exp_bracket x

pub ends : {x e l h : ℕ} → x ≤ exponential_limit → e ≡ stored_exp (x / 10000) → l ≡ taylor_low (x % 10000) → h ≡ taylor_high (x % 10000) → Ends x e l h
unfolding exp_bracket exp_low exp_high
ends {x} within stored low high =
    rw (stored, low, high)
    (record {
      low_fits = omega (arith, exp_low_most x within);
      high_fits = omega (arith, exp_high_most x within);
      next_fits = omega (arith, (stored_bounds_lem (x / 10000) (omega arith)).most);
      bracket_is = refl;
    })
