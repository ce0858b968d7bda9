use Rattle.std.specs.Prelude.{ℕ, ◌+◌, ◌*◌, ◌≤◌}
use native.Mathlib.Omega.{arith}
use Rattle.bracket.specs.Bracket.{exponential_width}
use Rattle.exponential.specs.Scale.{scale}

-- apart by at most 5.6 * 10^-11 of the stored number
pub close : (e a b : ℕ) → b * scale ≤ a * scale + 56 * e → e ≤ a → exponential_width * b ≤ exponential_width * a + b
unfolding exponential_width
close e a b h k = omega arith
