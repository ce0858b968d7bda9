-- The number's high digits by d, then its last.
use Prim.Native.Nat.{ℕ, ◌+◌, ◌*◌, ◌/◌, ◌%◌, ◌^◌}
use mathlib.Core.Path.{◌≡◌, ap, ◌∙◌}
use native.Mathlib.Omega.{arith}
use Rattle.wide.proofs.Words.{by_parts}
use Rattle.wide.proofs.division.short.Goals as goal

words : (high low : ℕ) → (high * 2 ^ 32 + low / 2 ^ 32) * 2 ^ 32 + low % 2 ^ 32 ≡ high * 2 ^ 64 + low
words high low = omega arith

pub returns : goal.returns
returns c =
    let a = c.args in
    let w = a.w in
    by_parts (w.high * 2 ^ 32 + w.low / 2 ^ 32) (2 ^ 32) (w.low % 2 ^ 32) a.d (omega (arith, c.requires))
    ∙ ap (λ (x : ℕ). x / a.d) (words w.high w.low)
