-- What rounded scaling keeps of a bracket, for all whole numbers: a lower bound, an upper bound, their order and their width.
-- A value x is the fraction xn / xd, a factor f is fn / fd, and a bound b stands for the fraction b / U.
use Rattle.std.specs.Prelude.{◌≡◌, ℕ, zero, ◌+◌, ◌-◌, ◌*◌, ◌/◌, ◌≤◌, ◌<◌}
use Rattle.std.proofs.Common.{ap, ◌∙◌, le_of_eq, mul-le-mul, mul-le-mul_left, mul-le-mul_right, div-mul-le_self, le_of_mul-le-mul_right, lt_of_mul-lt-mul_right, mul-pos, eq-zero-or-pos, arith, ⊎_elim}
use Rattle.std.proofs.Math.Nat.{lt-div-mul-add, div-zero}
use Rattle.wide.specs.Scaling.{floor, ceiling, rounded}

-- THE WIDTH. A bracket low .. high is at most a + (r / R) * high wide
pub record Narrow (R a r low high : ℕ) : Type 0 where
  pub width : R * high ≤ R * low + R * a + r * high

-- the two roundings by their products
pub floor_le : (a n d : ℕ) → floor a n d * d ≤ a * n
floor_le a n d = div-mul-le_self (a * n) d

pub floor_lt : (a n d : ℕ) → zero < d → a * n < floor a n d * d + d
floor_lt a n d h = lt-div-mul-add h

pub ceiling_ge : (a n d : ℕ) → zero < d → a * n ≤ ceiling a n d * d
ceiling_ge a n d h = omega (arith, lt-div-mul-add {a = a * n + (d - 1)} {b = d} h)

pub ceiling_lt : (a n d : ℕ) → zero < d → ceiling a n d * d < a * n + d
ceiling_lt a n d h = omega (arith, div-mul-le_self (a * n + (d - 1)) d)

-- both by the number that says which
pub rounded_is_floor : (a n d : ℕ) → rounded 0 a n d ≡ floor a n d
rounded_is_floor a n d = ap (λ (x : ℕ). x / d) (omega arith)

pub rounded_is_ceiling : (a n d : ℕ) → rounded 1 a n d ≡ ceiling a n d
rounded_is_ceiling a n d = ap (λ (x : ℕ). x / d) (omega arith)

-- a whole number on one side of a fraction is on that side of its roundings
module _ (a n d t : ℕ) (h : zero < d) where
  pub ≤-floor : t * d ≤ a * n → t ≤ floor a n d
  ≤-floor l = omega (arith, lt_of_mul-lt-mul_right d {m = t} {n = floor a n d + 1} (omega (arith, floor_lt a n d h)))

  pub floor-≤ : a * n ≤ t * d → floor a n d ≤ t
  floor-≤ l = le_of_mul-le-mul_right {k = d} (omega (arith, floor_le a n d)) h

  pub ≤-ceiling : t * d ≤ a * n → t ≤ ceiling a n d
  ≤-ceiling l = le_of_mul-le-mul_right {k = d} (omega (arith, ceiling_ge a n d h)) h

  pub ceiling-≤ : a * n ≤ t * d → ceiling a n d ≤ t
  ceiling-≤ l = omega (arith, lt_of_mul-lt-mul_right d {m = ceiling a n d} {n = t + 1} (omega (arith, ceiling_lt a n d h)))

-- THE LOWER BOUND. lo / U ≤ x and ln / ld ≤ f give (lo * ln / ld) / U ≤ x * f. A division by 0 gives 0, so ld may be 0
pub scaled_lower : (lo xn xd U ln ld fn fd : ℕ) → lo * xd ≤ xn * U → ln * fd ≤ fn * ld → floor lo ln ld * (xd * fd) ≤ (xn * fn) * U
scaled_lower lo xn xd U ln ld fn fd below factor =
    ⊎_elim
    (λ e. omega (arith, mul-le-mul_right (xd * fd) (le_of_eq (ap (λ (d : ℕ). (lo * ln) / d) e ∙ div-zero (lo * ln)))))
    (λ pos. le_of_mul-le-mul_right {k = ld} (omega (arith, mul-le-mul_right (xd * fd) (floor_le lo ln ld), mul-le-mul below factor)) pos)
    (eq-zero-or-pos ld)

-- THE UPPER BOUND. x ≤ hi / U and f ≤ hn / hd give x * f ≤ (hi * hn / hd, rounded up) / U
pub scaled_upper : (hi xn xd U hn hd fn fd : ℕ) → zero < hd → xn * U ≤ hi * xd → fn * hd ≤ hn * fd → (xn * fn) * U ≤ ceiling hi hn hd * (xd * fd)
scaled_upper hi xn xd U hn hd fn fd pos above factor =
    le_of_mul-le-mul_right {k = hd}
    (omega (arith, mul-le-mul_right (xd * fd) (ceiling_ge hi hn hd pos), mul-le-mul above factor))
    pos

-- the exact products of the bounds, before they are rounded. A is hn * ld, B is ln * hd and W is hd * ld
exact : (R a b r rho lo hi A B W : ℕ) → lo ≤ hi → Narrow R a r lo hi → R * A ≤ R * B + rho * A → a * A ≤ b * W
    → R * (hi * A) ≤ R * (lo * B) + R * (b * W) + (r + rho) * (hi * A)
exact R a b r rho lo hi A B W order narrow factor most =
    omega (arith, mul-le-mul_right A narrow.width, mul-le-mul_left lo factor, mul-le-mul_right (rho * A) order, mul-le-mul_left R most)

-- two fractions X / W and Y / W that are at most (b + s X / W) / R apart, rounded outward: each rounding adds at most 1
pub rounded_width : (R b s lo' hi' X Y W : ℕ) → zero < W → R * X ≤ R * Y + b * W + s * X → hi' * W ≤ X + W → X ≤ hi' * W → Y ≤ lo' * W + W
    → R * hi' ≤ R * lo' + (b + 2 * R) + s * hi'
rounded_width R b s lo' hi' X Y W pos e up most low =
    le_of_mul-le-mul_right {m = R * hi'} {n = R * lo' + (b + 2 * R) + s * hi'} {k = W}
    (omega (arith, mul-le-mul_left R up, mul-le-mul_left s most, mul-le-mul_left R low))
    pos

-- THE WIDTH. After scaling by a factor hn / hd that is itself rho / R wide, and that takes a to at most b, it is at most b + 2 + ((r + rho) / R) * hi' wide
pub scaled_width : (R a b r rho lo hi ln ld hn hd : ℕ) → zero < ld → zero < hd → lo ≤ hi → Narrow R a r lo hi
    → R * (hn * ld) ≤ R * (ln * hd) + rho * (hn * ld) → a * hn ≤ b * hd
    → Narrow R (b + 2) (r + rho) (floor lo ln ld) (ceiling hi hn hd)
scaled_width R a b r rho lo hi ln ld hn hd pl ph order narrow factor most =
    let X = hi * (hn * ld) in
    let Y = lo * (ln * hd) in
    let W = hd * ld in
    let apart : R * X ≤ R * Y + R * (b * W) + (r + rho) * X =
    exact R a b r rho lo hi (hn * ld) (ln * hd) W order narrow factor (omega (arith, mul-le-mul_right ld most)) in
    let e : R * X ≤ R * Y + R * b * W + (r + rho) * X = omega arith in
    let w = rounded_width R (R * b) (r + rho) (floor lo ln ld) (ceiling hi hn hd) X Y W (mul-pos ph pl) e
    (omega (arith, mul-le-mul_right ld (ceiling_lt hi hn hd ph)))
    (omega (arith, mul-le-mul_right ld (ceiling_ge hi hn hd ph)))
    (omega (arith, mul-le-mul_right hd (floor_lt lo ln ld pl))) in
    record { width = omega (arith, w) }

-- the order of the bounds is kept
pub scaled_order : (lo hi ln ld hn hd : ℕ) → zero < ld → zero < hd → lo ≤ hi → ln * hd ≤ hn * ld → floor lo ln ld ≤ ceiling hi hn hd
scaled_order lo hi ln ld hn hd pl ph le factor =
    le_of_mul-le-mul_right {k = ld * hd}
    (omega (arith, mul-le-mul_right hd (floor_le lo ln ld), mul-le-mul_right ld (ceiling_ge hi hn hd ph), mul-le-mul le factor))
    (mul-pos pl ph)
