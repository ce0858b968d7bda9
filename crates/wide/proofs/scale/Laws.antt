-- Whether a quotient fits, from the high word of the number that is divided.
use Rattle.std.specs.Prelude.{None, Some}
use mathlib.Core.Path.{◌≡◌, sym, ap, ◌∙◌}
use Prim.Native.Nat.{ℕ, ◌+◌, ◌*◌, ◌/◌, ◌^◌, ◌≤◌, ◌<◌}
use native.Mathlib.Nat.{lt_of_mul-lt-mul_right, lt-div-mul-add, add-mul-div_right, div-eq_of_lt}
use native.Mathlib.Decide.{dec_lt}
use native.Mathlib.Omega.{arith}
use Rattle.wide.specs.Scaling.{answered, answered_value, answered_large, answered_zero}

pub large : (high low v d : ℕ) → high * 2 ^ 64 + low ≡ v → d ≤ high → None ≡ answered d (v / d)
large high low v d e h = either (dec_lt 0 d)
  where
    at_least : (q : ℕ) → 2 ^ 64 * d < q * d + d → 2 ^ 64 ≤ q
    at_least q l = omega (arith, lt_of_mul-lt-mul_right d {m = 2 ^ 64} {n = q + 1} (omega arith))

    either : Dec (0 < d) → None ≡ answered d (v / d)
    either (yes p) = sym (answered_large d (v / d) (at_least (v / d) (omega (arith, lt-div-mul-add {a = v} {b = d} p))))
    either (no f) = sym (answered_zero d (v / d) (omega arith))

-- a factor of 1 changes nothing
pub one : (a n d more : ℕ) → n ≡ d → more < d → a < 2 ^ 64 → Some a ≡ answered d ((a * n + more) / d)
one a n d more e h l =
    let sum : a * n + more ≡ more + a * d = ap (λ (x : ℕ). a * x + more) e ∙ omega arith in
    let none : more / d ≡ 0 = div-eq_of_lt h in
    let q : (a * n + more) / d ≡ a = ap (λ (x : ℕ). x / d) sum ∙ add-mul-div_right more a (omega arith) ∙ omega arith in
    sym (answered_value d ((a * n + more) / d) (omega arith) (omega arith) ∙ ap Some q)
