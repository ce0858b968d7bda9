-- What the loop over the terms holds after k of them, how a turn keeps it, and that every number on the way fits.
use mathlib.Core.Path.{◌≡◌, refl, ap, ap₂, ◌∙◌}
use Prim.Native.Nat.{ℕ, zero, suc, ◌+◌, ◌-◌, ◌*◌, ◌≤◌, ◌<◌}
use native.Mathlib.Nat.{mul-le-mul}
use native.Mathlib.Numerals.{add-one}
use native.Mathlib.Omega.{arith}
use Rattle.wide.specs.Scaling.{floor, ceiling}
use Rattle.exponential.specs.Scale.{scale}
use Rattle.exponential.specs.Taylor.{term_low, term_high, sum_low, sum_high, taylor_low, taylor_high}
use Rattle.exponential.specs.TaylorLaws.{terms_sized}

pub record Terms (f k low_term high_term low high : ℕ) : Type 0 where
  pub low_term_is : low_term ≡ term_low f k
  pub high_term_is : high_term ≡ term_high f k
  pub low_is : low ≡ sum_low f k
  pub high_is : high ≡ sum_high f k
  pub last : k ≤ 16
  pub within : f ≤ 10000

pub first : {f : ℕ} → f ≤ 10000 → Terms f 0 scale scale scale scale
unfolding term_low term_high sum_low sum_high
first l = record { low_term_is = refl; high_term_is = refl; low_is = refl; high_is = refl; last = omega arith; within = l }

next_term : (f k : ℕ) → ceiling (term_high f k) f (10000 * suc k) ≡ term_high f (suc k)
unfolding term_high
next_term f k = refl

module _ {f k low_term high_term low high : ℕ} (h : Terms f k low_term high_term low high) where
  next : k < 16 → let t = floor low_term f (10000 * suc k) in let u = ceiling high_term f (10000 * suc k) in Terms f (suc k) t u (low + t) (high + u)
  unfolding term_low sum_low sum_high
  next l =
      let t = ap (λ (z : ℕ). floor z f (10000 * suc k)) h.low_term_is in
      let u = ap (λ (z : ℕ). ceiling z f (10000 * suc k)) h.high_term_is ∙ next_term f k in
      record { low_term_is = t; high_term_is = u; low_is = ap₂ ◌+◌ h.low_is t; high_is = ap₂ ◌+◌ h.high_is u; last = l; within = h.within }

  pub record Fit : Type 0 where
    pub low_product : low_term * f ≤ scale * 10000
    pub high_product : high_term * f ≤ scale * 10000
    pub low_sum : low ≤ 17 * scale
    pub high_sum : high ≤ 17 * scale

  pub fit : Fit
  fit =
      let s = terms_sized f h.within k in
      record {
        low_product = mul-le-mul {n₁ = low_term} {n₂ = scale} (omega arith) h.within;
        high_product = mul-le-mul {n₁ = high_term} {n₂ = scale} (omega arith) h.within;
        low_sum = omega arith;
        high_sum = omega arith;
      }

less_one : (k : ℕ) → suc k - 1 ≡ k
less_one k = omega arith

-- a turn: before it the terms below n are in the sums, and after it the term n is
pub turn : {f n low_term high_term low high : ℕ} → Terms f (n - 1) low_term high_term low high → 1 ≤ n → n < 17
    → let t = floor low_term f (10000 * n) in let u = ceiling high_term f (10000 * n) in Terms f (n + 1 - 1) t u (low + t) (high + u)
turn {n = zero} h from below = absurd (omega arith)
turn {n = suc k} h from below = rw (add-one, less_one (suc k)) (next (rw (less_one k) at h) (omega arith))

pub done : {f low_term high_term low high : ℕ} → Terms f 16 low_term high_term low high
    → (low ≡ taylor_low f) × (high + 2 * ceiling high_term f 170000 ≡ taylor_high f)
unfolding taylor_low taylor_high
done {f} h = (h.low_is, ap₂ (λ (s t : ℕ). s + 2 * t) h.high_is (ap (λ (z : ℕ). ceiling z f 170000) h.high_term_is ∙ next_term f 16))

-- of e^0, by computation
pub none : {f : ℕ} → f ≡ 0 → (scale ≡ taylor_low f) × (scale ≡ taylor_high f)
unfolding taylor_low taylor_high sum_low sum_high term_low term_high
none e = rw e (refl, refl)
