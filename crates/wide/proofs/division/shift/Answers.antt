-- The low word takes in the bits that the high one loses.
use Prim.Native.Nat.{ℕ, ◌+◌, ◌-◌, ◌*◌, ◌^◌, ◌<◌}
use mathlib.Core.Path.{◌≡◌, refl, ap, sym, ◌∙◌}
use native.Mathlib.Omega.{arith}
use lib.Pow.{pow_pos, pow-add}
use mir.Facts.{Fits-of_lt}
use Rattle.wide.proofs.division.Laws.{Carried, carried}
use Rattle.wide.proofs.division.shift.Goals as goal

-- 2 ^ s and 2 ^ (63 - s) make 2 ^ 63
halves : (s : ℕ) → s < 64 → 2 ^ s * (2 * 2 ^ (63 - s)) ≡ 2 ^ 64
halves s h =
    let sum : s + (63 - s) ≡ 63 = omega arith in
    let e : 2 ^ s * 2 ^ (63 - s) ≡ 2 ^ 63 = sym (pow-add 2 s (63 - s)) ∙ ap (λ (n : ℕ). 2 ^ n) sum in
    omega arith

split : (a s : ℕ) → s < 64 → Carried a (2 ^ s) (2 ^ (63 - s)) (2 ^ 64)
split a s h = carried a (2 ^ s) (2 ^ (63 - s)) (2 ^ 64) (halves s h) (pow_pos s) (pow_pos (63 - s))

pub overflow_add-result : goal.overflow_add-result
overflow_add-result c =
    let b = c.before.before.before in
    let k = split b.args.w.high b.args.s b.requires in
    rw k.bits (Fits-of_lt (k.room b.args.w.low (omega (arith, c.struct_known-3-1.given))))

pub returns : goal.returns
returns c =
    let b = c.before.before.before in
    let k = split b.args.w.high b.args.s b.requires in
    (refl, rw k.bits (k.shifted b.args.w.low))
