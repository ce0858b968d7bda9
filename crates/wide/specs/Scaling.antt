-- a * n / d rounded down and rounded up, and the answer of a call that gives it in 64 bits.
use Rattle.std.specs.Prelude.{Option, None, Some, ℕ, ◌+◌, ◌-◌, ◌*◌, ◌/◌, ◌^◌, ◌≤◌, ◌<◌, ◌≡◌, cond, ◌&&◌, ltb}
use Rattle.std.proofs.Math.Decide.{dec_lt}
use Rattle.std.proofs.Common.{arith, lt-ltb, le-ltb}

-- the largest whole number that is at most a * n / d
abbrev pub floor : (a n d : ℕ) → ℕ
floor a n d = (a * n) / d

-- the smallest whole number that is at least a * n / d
abbrev pub ceiling : (a n d : ℕ) → ℕ
ceiling a n d = (a * n + (d - 1)) / d

-- the first where `up` is 0, the second where it is 1
abbrev pub rounded : (up a n d : ℕ) → ℕ
rounded up a n d = (a * n + up * (d - 1)) / d

-- a quotient q by d: the value where d is not 0 and q fits 64 bits
abbrev pub answered : (d q : ℕ) → Option ℕ
answered d q = cond (ltb 0 d && ltb q (2 ^ 64)) (Some q) None

abbrev pub scaled_down : (a n d : ℕ) → Option ℕ
scaled_down a n d = answered d (floor a n d)

abbrev pub scaled_up : (a n d : ℕ) → Option ℕ
scaled_up a n d = answered d (ceiling a n d)

-- a quotient that fits is answered
pub answered_value : (d q : ℕ) → 0 < d → q < 2 ^ 64 → answered d q ≡ Some q
answered_value d q h l = simp (lt-ltb 0 d h, lt-ltb q (2 ^ 64) l)

-- one that does not fit is too large, and so is a division by 0
pub answered_large : (d q : ℕ) → 2 ^ 64 ≤ q → answered d q ≡ None
answered_large d q l = either (dec_lt 0 d)
  where
    either : Dec (0 < d) → answered d q ≡ None
    either (yes h) = simp (lt-ltb 0 d h, le-ltb q (2 ^ 64) l)
    either (no f) = simp (le-ltb 0 d (omega arith))

pub answered_zero : (d q : ℕ) → d ≡ 0 → answered d q ≡ None
answered_zero d q e = simp (le-ltb 0 d (omega arith))

-- what a value says: d is not 0, and the value is the quotient
pub record Answered (d q v : ℕ) : Type 0 where
  pub divisor : 0 < d
  pub is : v ≡ q

pub value_is : (d q v : ℕ) → answered d q ≡ Some v → Answered d q v
value_is d q v e = either (dec_lt 0 d) (dec_lt q (2 ^ 64))
  where
    never : answered d q ≡ None → ⊥
    never t = let z : ◌≡◌ {A = ℕ} 0 1 = cc in omega arith

    either : Dec (0 < d) → Dec (q < 2 ^ 64) → Answered d q v
    either (yes h) (yes l) = record { divisor = h; is = let t = answered_value d q h l in cc }
    either (yes h) (no f) = absurd (never (answered_large d q (omega arith)))
    either (no f) r = absurd (never (answered_zero d q (omega arith)))
