use Prim.Native.Nat.{ℕ, ◌+◌, ◌*◌, ◌/◌, ◌^◌}
use mathlib.Core.Path.{◌≡◌, ap}
use native.Mathlib.Omega.{arith}
use Rattle.wide.proofs.division.quotient.Goals as goal

one_word : (high low : ℕ) → high ≡ 0 → low ≡ high * 2 ^ 64 + low
one_word high low e = omega arith

pub returns-then-w-eq0 : goal.returns-then-w-eq0
returns-then-w-eq0 c = ap (λ (n : ℕ). n / c.args.d) (one_word _ _ c.if-w-eq0.true)
