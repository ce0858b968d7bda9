-- Sums and Cauchy products of sequences of whole numbers, and the Cauchy product of two sequences that go by the recurrence of x^i/i!.
use Rattle.std.specs.Prelude.{ℕ, zero, suc, ◌+◌, ◌*◌, ◌≤◌, ◌<◌, ◌≡◌, refl}
use Rattle.std.proofs.Common.{zero-le, suc-le-suc, ap, mul-pos, mul-le-mul_right, zero-add}
use Rattle.std.proofs.Math.Nat.{mul-le-mul_left, eq_of_mul-eq-mul_left}
use native.Mathlib.Omega.{arith}
use Rattle.std.proofs.Math.Decide.{le_ind}

-- u 0 + .. + u m
unfoldable pub total : (ℕ → ℕ) → ℕ → ℕ
total u zero = u 0
total u (suc m) = total u m + u (suc m)

-- the Cauchy product: u 0 * v j + u 1 * v (j - 1) + .. + u j * v 0
unfoldable pub cauchy : (ℕ → ℕ) → (ℕ → ℕ) → ℕ → ℕ
cauchy u v zero = u 0 * v 0
cauchy u v (suc j) = u 0 * v (suc j) + cauchy (λ i. u (suc i)) v j

-- below M, u goes by the recurrence of (a/D)^i/i!
abbrev pub ExpRecurrence : ℕ → ℕ → ℕ → (ℕ → ℕ) → Type 0
ExpRecurrence D a M u = (i : ℕ) → i < M → D * (suc i * u (suc i)) ≡ a * u i

abbrev next : (ℕ → ℕ) → ℕ → ℕ
next u i = u (suc i)

cauchy_from_right : (u v : ℕ → ℕ) (j : ℕ) → cauchy u v (suc j) ≡ u (suc j) * v 0 + cauchy u (next v) j
unfolding cauchy
cauchy_from_right u v zero = omega arith
cauchy_from_right u v (suc j) = omega (arith, cauchy_from_right (next u) v j)

-- weights that come to c at each place
cauchy_weighted :
    (u v f g : ℕ → ℕ) (c j : ℕ) → ((i k : ℕ) → i + k ≡ j → f i + g k ≡ c) → cauchy (λ i. f i * u i) v j + cauchy u (λ i. g i * v i) j ≡ c * cauchy u v j
unfolding cauchy
cauchy_weighted u v f g c zero h = omega (arith, ap (λ z. z * (u 0 * v 0)) (h 0 0 refl))
cauchy_weighted u v f g c (suc j) h =
    let later = cauchy_weighted (next u) v (next f) g c j (λ i k e. h (suc i) k (omega arith)) in
    omega (arith, ap (λ z. z * (u 0 * v (suc j))) (h 0 (suc j) (zero-add (suc j))))

cauchy_scaled_left : (D a : ℕ) (u u' v : ℕ → ℕ) (j : ℕ) → ((i : ℕ) → i ≤ j → D * u' i ≡ a * u i) → D * cauchy u' v j ≡ a * cauchy u v j
unfolding cauchy
cauchy_scaled_left D a u u' v zero h = omega (arith, ap (λ z. z * v 0) (h 0 zero-le))
cauchy_scaled_left D a u u' v (suc j) h =
    omega (arith, ap (λ z. z * v (suc j)) (h 0 zero-le), cauchy_scaled_left D a (next u) (next u') v j (λ i l. h (suc i) (suc-le-suc l)))

cauchy_scaled_right : (D b : ℕ) (u v v' : ℕ → ℕ) (j : ℕ) → ((i : ℕ) → i ≤ j → D * v' i ≡ b * v i) → D * cauchy u v' j ≡ b * cauchy u v j
unfolding cauchy
cauchy_scaled_right D b u v v' zero h = omega (arith, ap (λ z. z * u 0) (h 0 zero-le))
cauchy_scaled_right D b u v v' (suc j) h =
    omega (arith, ap (λ z. z * u 0) (h (suc j) (omega arith)), cauchy_scaled_right D b (next u) v v' j (λ i l. h i (omega arith)))

-- e^x times e^y goes by the recurrence of e^(x+y)
cauchy_recurrence : (D a b M : ℕ) (u v : ℕ → ℕ) → ExpRecurrence D a M u → ExpRecurrence D b M v → ExpRecurrence D (a + b) M (cauchy u v)
unfolding cauchy
cauchy_recurrence D a b M u v hu hv j l =
    let p = cauchy_weighted u v (λ i. i) (λ i. i) (suc j) (suc j) (λ i k e. e) in
    let q = cauchy_from_right u (λ i. i * v i) j in
    let r = cauchy_scaled_left D a u (λ i. suc i * u (suc i)) v j (λ i k. hu i (omega arith)) in
    let s = cauchy_scaled_right D b u v (λ i. suc i * v (suc i)) j (λ i k. hv i (omega arith)) in
    omega (arith, ap (λ z. D * z) p, ap (λ z. D * z) q)

-- two sequences with one recurrence are proportional
proportional : (D a M : ℕ) (u v : ℕ → ℕ) → 0 < D → ExpRecurrence D a M u → ExpRecurrence D a M v → (j : ℕ) → j ≤ M → u j * v 0 ≡ v j * u 0
proportional D a M u v p hu hv zero l = omega arith
proportional D a M u v p hu hv (suc j) l =
    eq_of_mul-eq-mul_left (D * suc j) (mul-pos p (omega arith)) _ _
    (omega (arith, ap (λ z. a * z) (proportional D a M u v p hu hv j (omega arith)), ap (λ z. z * v 0) (hu j l), ap (λ z. z * u 0) (hv j l)))

total_proportional : (c e M : ℕ) (u v : ℕ → ℕ) → ((j : ℕ) → j ≤ M → u j * c ≡ v j * e) → (m : ℕ) → m ≤ M → total u m * c ≡ total v m * e
unfolding total
total_proportional c e M u v h zero l = h 0 l
total_proportional c e M u v h (suc m) l = omega (arith, h (suc m) l, total_proportional c e M u v h m (omega arith))

total_from_left : (u : ℕ → ℕ) (m : ℕ) → total u (suc m) ≡ u 0 + total (next u) m
unfolding total
total_from_left u zero = refl
total_from_left u (suc m) = omega (arith, total_from_left u m)

total_cauchy : (u v : ℕ → ℕ) (m : ℕ) → total (cauchy u v) (suc m) ≡ u 0 * total v (suc m) + total (cauchy (next u) v) m
unfolding cauchy total
total_cauchy u v zero = omega arith
total_cauchy u v (suc m) = omega (arith, total_cauchy u v m)

total_grows : (u : ℕ → ℕ) (m n : ℕ) → m ≤ n → total u m ≤ total u n
unfolding total
total_grows u m n l = le_ind (λ i. total u m ≤ total u i) (omega arith) (λ i k h. omega arith) n l

-- the products u i * v k with i + k ≤ m are within those with i ≤ m and k ≤ m
triangle_within_square : (u v : ℕ → ℕ) (m : ℕ) → total (cauchy u v) m ≤ total u m * total v m
triangle_within_square u v zero = unfold total cauchy in omega arith
triangle_within_square u v (suc m) =
    rw (total_cauchy u v m, total_from_left u m)
    (omega (arith, triangle_within_square (next u) v m, mul-le-mul_left (total (next u) m) (total_grows v m (suc m) (omega arith))))

-- and hold those with i ≤ m and k ≤ n, where m + n is at most their side
rectangle_within_triangle : (u v : ℕ → ℕ) (m n k : ℕ) → m + n ≤ k → total u m * total v n ≤ total (cauchy u v) k
rectangle_within_triangle u v zero zero zero l = unfold total cauchy in omega arith
rectangle_within_triangle u v zero (suc n) zero l = absurd (omega arith)
rectangle_within_triangle u v zero n (suc k) l =
    rw (total_cauchy u v k) (unfold total in omega (arith, mul-le-mul_left (u 0) (total_grows v n (suc k) (omega arith))))
rectangle_within_triangle u v (suc m) n zero l = absurd (omega arith)
rectangle_within_triangle u v (suc m) n (suc k) l =
    rw (total_cauchy u v k, total_from_left u m)
    (omega (arith, rectangle_within_triangle (next u) v m n k (omega arith), mul-le-mul_left (u 0) (total_grows v n (suc k) (omega arith))))

-- u, v and w go by the recurrences of a/D, b/D and (a + b)/D: the product laws of their totals, each times what makes its first term 1
module _ (D a b M : ℕ) (u v w : ℕ → ℕ) (p : 0 < D) (hu : ExpRecurrence D a M u) (hv : ExpRecurrence D b M v) (hw : ExpRecurrence D (a + b) M w) where
  product_is : total (cauchy u v) M * w 0 ≡ total w M * (u 0 * v 0)
  unfolding cauchy
  product_is =
      total_proportional (w 0) (u 0 * v 0) M (cauchy u v) w (proportional D (a + b) M (cauchy u v) w p (cauchy_recurrence D a b M u v hu hv) hw) M (omega arith)

  pub totals_submultiplicative : total w M * (u 0 * v 0) ≤ total u M * total v M * w 0
  totals_submultiplicative = omega (arith, product_is, mul-le-mul_right (w 0) (triangle_within_square u v M))

  pub totals_supermultiplicative : (m n : ℕ) → m + n ≤ M → total u m * total v n * w 0 ≤ total w M * (u 0 * v 0)
  totals_supermultiplicative m n l = omega (arith, product_is, mul-le-mul_right (w 0) (rectangle_within_triangle u v m n M l))
