-- a / d, rounded down and rounded up, by its product with d.
use Rattle.std.specs.Prelude.{ℕ, ◌+◌, ◌-◌, ◌*◌, ◌/◌, ◌≤◌, ◌<◌, ◌≡◌, refl}
use Rattle.std.proofs.Common.{sym, le_antisymm, mul-le-mul, mul-le-mul_right, lt_of_mul-lt-mul_right, div-mul-le_self, arith, lit<}
use Rattle.std.proofs.Math.Nat.{lt-div-mul-add}

abbrev pub quotient_down : (a d : ℕ) → ℕ
quotient_down a d = a / d

unfoldable pub quotient_up : (a d : ℕ) → ℕ
quotient_up a d = (a + (d - 1)) / d

pub record RoundedDown (a d q : ℕ) : Type 0 where
  pub below : q * d ≤ a
  pub near : a < q * d + d

pub record RoundedUp (a d q : ℕ) : Type 0 where
  pub above : a ≤ q * d
  pub near : q * d < a + d

pub rounded_down : (a d : ℕ) → 0 < d → RoundedDown a d (quotient_down a d)
rounded_down a d h = record { below = div-mul-le_self a d; near = lt-div-mul-add h }

pub down_near : (a d : ℕ) → 0 < d → quotient_down a d * d < a + d
down_near a d h = omega (arith, div-mul-le_self a d)

pub rounded_up_lem : {a d q : ℕ} → 0 < d → q ≡ quotient_up a d → RoundedUp a d q
unfolding quotient_up
rounded_up_lem {a} {d} {q} h e =
    let x = div-mul-le_self (a + (d - 1)) d in
    let y : a + (d - 1) < (a + (d - 1)) / d * d + d = lt-div-mul-add h in
    rw e (record { above = omega arith; near = omega arith })

pub quotient_up_lem : (a d : ℕ) → 0 < d → RoundedUp a d (quotient_up a d)
quotient_up_lem a d h = rounded_up_lem h refl

-- a quotient by d is at most b where its product is below that of b + 1
pub at_most : (q d b : ℕ) → q * d < (b + 1) * d → q ≤ b
at_most q d b h = omega (arith, lt_of_mul-lt-mul_right d {m = q} {n = b + 1} h)

-- how large a product of a ≤ A and b ≤ B is, divided and rounded either way
pub product-≤ : {a b A B q m : ℕ} (d : ℕ) → a ≤ A → b ≤ B → q * d < a * b + d → A * B + d ≤ (m + 1) * d → q ≤ m
product-≤ {q = q} {m = m} d ha hb near h = at_most q d m (omega (arith, near, mul-le-mul ha hb, h))

-- a quotient rounded up is the only number that is one
pub rounded_up_is : {a d q : ℕ} → 0 < d → RoundedUp a d q → q ≡ quotient_up a d
rounded_up_is {a} {d} {q} h f = le_antisymm (least f (quotient_up_lem a d h)) (least (quotient_up_lem a d h) f)
  where
    least : {x y : ℕ} → RoundedUp a d x → RoundedUp a d y → x ≤ y
    least {x} {y} f g = at_most x d y (omega (arith, f.near, g.above))

pub quotient_up_zero : (d : ℕ) → 0 < d → quotient_up 0 d ≡ 0
quotient_up_zero d h = sym (rounded_up_is h (record { above = omega arith; near = omega arith }))

-- from the quotient rounded down
pub up_from_down : {a d q : ℕ} → RoundedDown a d q → q * d < a → RoundedUp a d (q + 1)
up_from_down f h = record { above = omega (arith, f.near); near = omega arith }

pub up_where_exact : {a d q : ℕ} → 0 < d → RoundedDown a d q → a ≤ q * d → RoundedUp a d q
up_where_exact h f k = record { above = k; near = omega (arith, f.below) }

-- from twice the quotient
halved : {a b d y z : ℕ} → b ≡ 2 * a → RoundedUp b d y → RoundedUp y 2 z → RoundedUp a d z
halved {a} {b} {d} {y} {z} e f g =
    let more : 2 * z ≤ y + 1 = omega (arith, g.near) in
    record { above = omega (arith, f.above, mul-le-mul_right d g.above); near = omega (arith, f.near, mul-le-mul_right d more) }

pub half_up : (a b d : ℕ) → 0 < d → b ≡ 2 * a → quotient_up (quotient_up b d) 2 ≡ quotient_up a d
half_up a b d h e = rounded_up_is h (halved e (quotient_up_lem b d h) (quotient_up_lem (quotient_up b d) 2 (lit< tt)))
