-- Number and divisor without the divisor's twos.
use Prim.Native.Nat.{ℕ, zero, ◌+◌, ◌*◌, ◌/◌, ◌^◌, ◌<◌}
use mathlib.Core.Path.{◌≡◌, ap, sym, ◌∙◌}
use native.Mathlib.Nat.{div-div-eq-div-mul, mul_comm, div-lt_iff_lt-mul, le_of_eq, lt_of_le_of_lt, lt_of_lt_of_le}
use lib.Pow.{pow_pos}
use Rattle.wide.proofs.division.divide_by.Goals as goal

-- the high word stays below the divisor. m is 2 ^ s
still_below : (x high d m : ℕ) → zero < m → high < d → d / m * m ≡ d → x ≡ high / m → x < d / m
still_below x high d m p h e q = lt_of_le_of_lt (le_of_eq q) ((div-lt_iff_lt-mul {k = m} {x = high} {y = d / m} p).1 (lt_of_lt_of_le h (le_of_eq (sym e))))

pub short-requires : goal.short-requires
short-requires c =
    let s = c.before.before in
    let a = s.before in
    let t = s.twos-s in
    let m = 2 ^ t.result in
    (still_below _ a.args.w.high a.args.d m (pow_pos t.result) a.requires t.ensures.1 c.shift.ensures.0, c.before.if-odd-ge-BASE.false)

pub returns : goal.returns
returns c =
    let t = c.before.before.before in
    let m = 2 ^ t.twos-s.result in
    let a = t.before.args in
    c.short.ensures
    ∙ ap (λ (x : ℕ). x / (a.d / m)) c.before.shift.ensures.1
    ∙ div-div-eq-div-mul _ m (a.d / m)
    ∙ ap (λ (x : ℕ). (a.w.high * 2 ^ 64 + a.w.low) / x) (mul_comm m (a.d / m) ∙ t.twos-s.ensures.1)
