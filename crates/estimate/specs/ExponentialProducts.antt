-- The product laws of the partial sums S_m of e^x: S_m(x+y) ≤ S_m(x) S_m(y) and S_m(x) S_n(y) ≤ S_(m+n)(x+y), and their iterates.
use Rattle.std.specs.Prelude.{ℕ, zero, suc, ◌+◌, ◌*◌, ◌-◌, ◌≤◌, ◌<◌, ◌≡◌}
use Rattle.std.proofs.Common.{ap, ap₂, mul-pos, mul-le-mul_right, le_of_mul-le-mul_right, add-zero, pow-suc, zero-mul, suc-mul}
use Rattle.std.proofs.Math.Nat.{pow-zero}
use native.Mathlib.Omega.{arith}
use Rattle.estimate.specs.Fraction.{Fraction, ◌≤ᶠ◌, ◌=ᶠ◌, whole, ◌+ᶠ◌, ◌*ᶠ◌, ◌^ᶠ◌}
use Rattle.estimate.specs.FractionLaws.{≤ᶠ-trans, ≤ᶠ-refl, =ᶠ-≤ᶠ, =ᶠ-≥ᶠ, *ᶠ-mono}
use Rattle.estimate.specs.Sequences.{ExpRecurrence, total, totals_submultiplicative, totals_supermultiplicative}
use Rattle.estimate.specs.Exponential.{term_num, term_den, sum_num, partial_sum, term_den_positive}
use Rattle.estimate.specs.ExponentialLaws.{partial_sum_mono, partial_sum_zero}

-- THE TERMS AS A SEQUENCE, over one denominator

-- term_den D (i + r) / term_den D i
rest : ℕ → ℕ → ℕ → ℕ
rest D i zero = 1
rest D i (suc r) = D * suc i * rest D (suc i) r

rest_completes : (D i r M : ℕ) → i + r ≡ M → term_den D i * rest D i r ≡ term_den D M
unfolding term_den rest
rest_completes D i zero M e = omega (arith, ap (term_den D) (add-zero i), ap (term_den D) e)
rest_completes D i (suc r) M e = omega (arith, rest_completes D (suc i) r M (omega arith))

-- (a/D)^i/i! over the denominator term_den D M, for i ≤ M
scaled_term : ℕ → ℕ → ℕ → ℕ → ℕ
scaled_term a D M i = term_num a i * rest D i (M - i)

scaled_terms_recurrence : (a D M : ℕ) → ExpRecurrence D a M (scaled_term a D M)
unfolding term_num rest scaled_term
scaled_terms_recurrence a D M i l = let e : M - i ≡ suc (M - suc i) = omega arith in rw e (omega arith)

scaled_terms_total : (a D M m : ℕ) → m ≤ M → total (scaled_term a D M) m * term_den D m ≡ sum_num a D m * term_den D M
unfolding term_num term_den sum_num total scaled_term
scaled_terms_total a D M zero l = omega (arith, rest_completes D 0 (M - 0) M (omega arith))
scaled_terms_total a D M (suc m) l =
    omega (
      arith,
      ap (λ z. z * (D * suc m)) (scaled_terms_total a D M m (omega arith)),
      ap (λ z. term_num a m * a * z) (rest_completes D (suc m) (M - suc m) M (omega arith)),
    )

scaled_terms_first : (a D M : ℕ) → scaled_term a D M 0 ≡ term_den D M
unfolding term_num term_den scaled_term
scaled_terms_first a D M = omega (arith, rest_completes D 0 (M - 0) M (omega arith))

-- THE LAWS OVER ONE DENOMINATOR

-- from totals over the one denominator K to sums over their own
sub_unscaled : (tu tv tw sa sb sw K : ℕ) → 0 < K → tu * K ≡ sa * K → tv * K ≡ sb * K → tw * K ≡ sw * K → tw * (K * K) ≤ tu * tv * K →
    sw * (K * K) ≤ sa * sb * K
sub_unscaled tu tv tw sa sb sw K p e f g h =
    le_of_mul-le-mul_right {k = K * K} (omega (arith, ap₂ (λ x y. x * y * K) e f, ap (λ z. z * (K * K * K)) g, mul-le-mul_right (K * K) h)) (mul-pos p p)

super_unscaled : (tu tv tw sa sb sw bm bn K : ℕ) → 0 < K → tu * bm ≡ sa * K → tv * bn ≡ sb * K → tw * K ≡ sw * K → tu * tv * K ≤ tw * (K * K) →
    sa * sb * K ≤ sw * (bm * bn)
super_unscaled tu tv tw sa sb sw bm bn K p e f g h =
    le_of_mul-le-mul_right {k = K * K} (omega (arith, ap₂ (λ x y. x * y * K) e f, ap (λ z. z * (K * bm * bn)) g, mul-le-mul_right (bm * bn) h)) (mul-pos p p)

sums_sub : (a b D m : ℕ) → 0 < D → sum_num (a + b) D m * (term_den D m * term_den D m) ≤ sum_num a D m * sum_num b D m * term_den D m
sums_sub a b D m p =
    sub_unscaled _ _ _ _ _ _ (term_den D m) (term_den_positive D m p)
    (scaled_terms_total a D m m (omega arith)) (scaled_terms_total b D m m (omega arith)) (scaled_terms_total (a + b) D m m (omega arith))
    (rw (scaled_terms_first a D m, scaled_terms_first b D m, scaled_terms_first (a + b) D m) at
    (totals_submultiplicative D a b m (scaled_term a D m) (scaled_term b D m) (scaled_term (a + b) D m) p
    (scaled_terms_recurrence a D m) (scaled_terms_recurrence b D m) (scaled_terms_recurrence (a + b) D m)))

sums_super : (a b D m n : ℕ) → 0 < D → sum_num a D m * sum_num b D n * term_den D (m + n) ≤ sum_num (a + b) D (m + n) * (term_den D m * term_den D n)
sums_super a b D m n p =
    let M = m + n in
    super_unscaled _ _ _ _ _ _ (term_den D m) (term_den D n) (term_den D M) (term_den_positive D M p)
    (scaled_terms_total a D M m (omega arith)) (scaled_terms_total b D M n (omega arith)) (scaled_terms_total (a + b) D M M (omega arith))
    (rw (scaled_terms_first a D M, scaled_terms_first b D M, scaled_terms_first (a + b) D M) at
    (totals_supermultiplicative D a b M (scaled_term a D M) (scaled_term b D M) (scaled_term (a + b) D M) p
    (scaled_terms_recurrence a D M) (scaled_terms_recurrence b D M) (scaled_terms_recurrence (a + b) D M) m n (omega arith)))

-- THE LAWS

-- n over the denominator of x + y, and x and y so written
common : Fraction → Fraction → ℕ → Fraction
common x y n = record { num = n; den = x.den * y.den; pos = mul-pos x.pos y.pos }

module _ (x y : Fraction) where
  left : Fraction
  left = common x y (x.num * y.den)

  right : Fraction
  right = common x y (y.num * x.den)

  left_is : left =ᶠ x
  unfolding left common
  left_is = omega arith

  right_is : right =ᶠ y
  unfolding right common
  right_is = omega arith

  -- S_m(x+y) ≤ S_m(x) S_m(y)
  pub partial_sum_submultiplicative : (m : ℕ) → partial_sum m (x +ᶠ y) ≤ᶠ partial_sum m x *ᶠ partial_sum m y
  partial_sum_submultiplicative m =
      ≤ᶠ-trans {b = partial_sum m left *ᶠ partial_sum m right}
      (unfold partial_sum left right common ◌+ᶠ◌ ◌*ᶠ◌ in
      record { cross = sums_sub (x.num * y.den) (y.num * x.den) (x.den * y.den) m (mul-pos x.pos y.pos) })
      (*ᶠ-mono (partial_sum_mono (=ᶠ-≤ᶠ left_is) m) (partial_sum_mono (=ᶠ-≤ᶠ right_is) m))

  -- S_m(x) S_n(y) ≤ S_(m+n)(x+y)
  pub partial_sum_supermultiplicative : (m n : ℕ) → partial_sum m x *ᶠ partial_sum n y ≤ᶠ partial_sum (m + n) (x +ᶠ y)
  partial_sum_supermultiplicative m n =
      ≤ᶠ-trans {b = partial_sum m left *ᶠ partial_sum n right}
      (*ᶠ-mono (partial_sum_mono (=ᶠ-≥ᶠ left_is) m) (partial_sum_mono (=ᶠ-≥ᶠ right_is) n))
      (unfold partial_sum left right common ◌+ᶠ◌ ◌*ᶠ◌ in
      record { cross = sums_super (x.num * y.den) (y.num * x.den) (x.den * y.den) m n (mul-pos x.pos y.pos) })

-- THEIR ITERATES

-- one factor more, and one x more
power_more : (a : Fraction) (k : ℕ) → a ^ᶠ suc k =ᶠ a ^ᶠ k *ᶠ a
unfolding ◌^ᶠ◌ ◌*ᶠ◌
power_more a k = record { cross = rw (pow-suc a.num k, pow-suc a.den k) (omega arith) }

multiple_more : (x : Fraction) (k : ℕ) → whole (suc k) *ᶠ x =ᶠ whole k *ᶠ x +ᶠ x
unfolding whole ◌*ᶠ◌ ◌+ᶠ◌
multiple_more x k = omega arith

power_zero : (a : Fraction) → a ^ᶠ 0 =ᶠ whole 1
unfolding ◌^ᶠ◌ whole
power_zero a = record { cross = rw (pow-zero a.num, pow-zero a.den) (omega arith) }

sum_at_no_multiple : (x : Fraction) (m : ℕ) → partial_sum m (whole 0 *ᶠ x) =ᶠ whole 1
unfolding whole ◌*ᶠ◌
sum_at_no_multiple x m = partial_sum_zero m (whole 0 *ᶠ x) (zero-mul x.num)

-- S_m(k x) ≤ S_m(x)^k
pub partial_sum_of_multiple : (x : Fraction) (m k : ℕ) → partial_sum m (whole k *ᶠ x) ≤ᶠ partial_sum m x ^ᶠ k
partial_sum_of_multiple x m zero = ≤ᶠ-trans (=ᶠ-≤ᶠ (sum_at_no_multiple x m)) (=ᶠ-≥ᶠ (power_zero (partial_sum m x)))
partial_sum_of_multiple x m (suc k) =
    ≤ᶠ-trans (partial_sum_mono (=ᶠ-≤ᶠ (multiple_more x k)) m)
    (≤ᶠ-trans (partial_sum_submultiplicative (whole k *ᶠ x) x m)
    (≤ᶠ-trans (*ᶠ-mono (partial_sum_of_multiple x m k) (≤ᶠ-refl (partial_sum m x))) (=ᶠ-≥ᶠ (power_more (partial_sum m x) k))))

-- S_m(x)^k ≤ S_(k m)(k x)
pub power_of_partial_sum : (x : Fraction) (m k : ℕ) → partial_sum m x ^ᶠ k ≤ᶠ partial_sum (k * m) (whole k *ᶠ x)
power_of_partial_sum x m zero = ≤ᶠ-trans (=ᶠ-≤ᶠ (power_zero (partial_sum m x))) (=ᶠ-≥ᶠ (sum_at_no_multiple x (0 * m)))
power_of_partial_sum x m (suc k) =
    rw suc-mul
    (≤ᶠ-trans (=ᶠ-≤ᶠ (power_more (partial_sum m x) k))
    (≤ᶠ-trans (*ᶠ-mono (power_of_partial_sum x m k) (≤ᶠ-refl (partial_sum m x)))
    (≤ᶠ-trans (partial_sum_supermultiplicative (whole k *ᶠ x) x (k * m) m) (partial_sum_mono (=ᶠ-≥ᶠ (multiple_more x k)) (k * m + m)))))
