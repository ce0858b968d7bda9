-- With k its highest set bit, d's leading zeros make 63 with k.
use mathlib.Core.Path.{◌≡◌, ◌∙◌, ap}
use Prim.Native.Nat.{ℕ, suc, ◌+◌, ◌*◌, ◌%◌, ◌^◌, ◌≤◌, ◌<◌}
use native.Mathlib.Nat.{mul-le-mul_right, mul-lt-mul_of_pos_right, one-mul, mod-eq_of_lt}
use native.Mathlib.Omega.{arith}
use lib.Count.{count_leading_zeros, leading_top}
use lib.Pow.{pow_pos, pow-add, pow-lt}
use Rattle.wide.proofs.division.norm.Goals as goal

-- `1 << s` is 2 ^ s
shifted : (s : ℕ) → s < 64 → (1 * 2 ^ s) % 2 ^ 64 ≡ 2 ^ s
shifted s h = rw one-mul (mod-eq_of_lt (pow-lt {i = s} {j = 64} h))

normal : (d k s : ℕ) → 2 ^ k ≤ d → d < 2 ^ suc k → s + suc k ≡ 64 → (2 ^ 63 ≤ d * 2 ^ s) × (d * 2 ^ s < 2 ^ 64)
normal d k s lo hi e =
    let e63 : 63 ≡ k + s = omega arith in
    let e64 : 64 ≡ suc k + s = omega arith in
    let low : 2 ^ 63 ≡ 2 ^ k * 2 ^ s = ap (λ (n : ℕ). 2 ^ n) e63 ∙ pow-add 2 k s in
    let high : 2 ^ 64 ≡ 2 ^ suc k * 2 ^ s = ap (λ (n : ℕ). 2 ^ n) e64 ∙ pow-add 2 (suc k) s in
    (rw low (mul-le-mul_right (2 ^ s) lo), rw high (mul-lt-mul_of_pos_right hi (pow_pos s)))

pub returns : goal.returns
returns c =
    let t = leading_top 64 c.args.d c.requires c.ranges.d.fits in
    let s = count_leading_zeros 64 c.args.d in
    rw (shifted s (omega (arith, t.1))) (normal c.args.d t.0 s t.2 t.3 t.1)
