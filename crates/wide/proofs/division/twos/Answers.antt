-- What its trailing zeros stand for divides a number.
use Prim.Native.Nat.{ℕ, zero, suc, ◌*◌, ◌/◌, ◌%◌, ◌^◌, ◌≤◌, ◌<◌}
use mathlib.Core.Path.{◌≡◌, ap, sym, refl, ◌∙◌}
use native.Mathlib.Nat.{div-one, mul-one, div-div-eq-div-mul, mul_left_comm, div-eq_of_lt, pow-succ'}
use native.Mathlib.Decide.{dec_lt}
use native.Mathlib.Omega.{arith}
use lib.Count.{count_trailing_zeros, trailing_le, under}
use Rattle.wide.proofs.division.twos.Goals as goal

-- halved once more while it is even
divides : (k n : ℕ) → n / 2 ^ count_trailing_zeros k n * 2 ^ count_trailing_zeros k n ≡ n
unfolding count_trailing_zeros
divides zero n = mul-one (n / 1) ∙ div-one n
divides (suc k) n = either (n % 2) refl (divides k (n / 2))
  where
    either : (r : ℕ) → n % 2 ≡ r → n / 2 / 2 ^ count_trailing_zeros k (n / 2) * 2 ^ count_trailing_zeros k (n / 2) ≡ n / 2
        → n / 2 ^ under r (count_trailing_zeros k (n / 2)) * 2 ^ under r (count_trailing_zeros k (n / 2)) ≡ n
    either zero even half =
        let t = count_trailing_zeros k (n / 2) in
        ap (λ (x : ℕ). n / x * x) (pow-succ' 2 t)
        ∙ ap (λ (x : ℕ). x * (2 * 2 ^ t)) (sym (div-div-eq-div-mul n 2 (2 ^ t)))
        ∙ mul_left_comm (n / 2 / 2 ^ t) 2 (2 ^ t)
        ∙ ap (λ (x : ℕ). 2 * x) half
        ∙ omega arith
    either (suc r) odd half = mul-one (n / 1) ∙ div-one n

-- a number of 64 bits that is not 0 has fewer than 64 of them
fewer : (t d : ℕ) → t ≤ 64 → 0 < d → d < 2 ^ 64 → d / 2 ^ t * 2 ^ t ≡ d → t < 64
fewer t d le p l e = either (dec_lt t 64)
  where
    either : Dec (t < 64) → t < 64
    either (yes h) = h
    either (no f) =
        let t64 : t ≡ 64 = omega arith in
        let z : d / 2 ^ 64 ≡ 0 = div-eq_of_lt l in
        let e' : d / 2 ^ 64 * 2 ^ 64 ≡ d = ap (λ (x : ℕ). d / 2 ^ x * 2 ^ x) (sym t64) ∙ e in
        absurd (omega arith)

pub returns : goal.returns
returns c =
    let d = c.args.d in
    let e = divides 64 d in
    (fewer (count_trailing_zeros 64 d) d (trailing_le 64 d) c.requires c.ranges.d.fits e, e)
