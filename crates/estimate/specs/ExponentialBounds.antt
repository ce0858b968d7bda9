-- Numbers at most and at least e^x, told by partial sums alone; what they make, and why they stand against the estimates of e^x at every depth.
use Rattle.std.specs.Prelude.{ℕ, ◌+◌, ◌*◌, ◌≡◌}
use Rattle.std.proofs.Common.{arith}
use Rattle.estimate.specs.Fraction.{Fraction, ◌≤ᶠ◌, ◌<ᶠ◌, ◌=ᶠ◌, whole, ◌+ᶠ◌, ◌*ᶠ◌, ◌^ᶠ◌}
use Rattle.estimate.specs.FractionLaws.{≤ᶠ-trans, ≤ᶠ-refl, *ᶠ-mono, ^ᶠ-mono}
use Rattle.estimate.specs.Standing.{HighRight}
use Rattle.estimate.specs.Exponential.{partial_sum, last_term, exp_under, exp_over}
use Rattle.estimate.specs.ExponentialLaws.{partial_sum_mono, sum_with_tail_mono, partial_sum_strict, sum_with_tail_strict}
use Rattle.estimate.specs.ExponentialLaws.{sum-≤-with_tail, one-≤-partial_sum, one_plus-≤-partial_sum, sum_with_tail_zero}
use Rattle.estimate.specs.ExponentialProducts.{partial_sum_submultiplicative, partial_sum_supermultiplicative}
use Rattle.estimate.specs.ExponentialProducts.{partial_sum_of_multiple, power_of_partial_sum}

-- w is at most e^x: it is at most some partial sum
pub record AtMostExp (w x : Fraction) : Type 0 where
  pub terms : ℕ
  pub reached : w ≤ᶠ partial_sum terms x

-- w is at least e^x: it is at least every partial sum
pub record AtLeastExp (w x : Fraction) : Type 0 where
  pub bounds : (m : ℕ) → partial_sum m x ≤ᶠ w

-- by computation: one sum, and one sum with its tail
pub at_most_by_sum : {w x : Fraction} (m : ℕ) → w ≤ᶠ partial_sum m x → AtMostExp w x
at_most_by_sum m h = record { terms = m; reached = h }

-- ORDER

pub exp_bounds_in_order : {v w x y : Fraction} → AtMostExp v x → AtLeastExp w y → x ≤ᶠ y → v ≤ᶠ w
exp_bounds_in_order h k l = ≤ᶠ-trans h.reached (≤ᶠ-trans (partial_sum_mono l h.terms) (k.bounds h.terms))

pub at_most_weaker : {v w x y : Fraction} → v ≤ᶠ w → x ≤ᶠ y → AtMostExp w x → AtMostExp v y
at_most_weaker l k h = record { terms = h.terms; reached = ≤ᶠ-trans l (≤ᶠ-trans h.reached (partial_sum_mono k h.terms)) }

pub at_least_weaker : {v w x y : Fraction} → v ≤ᶠ w → y ≤ᶠ x → AtLeastExp v x → AtLeastExp w y
at_least_weaker l k h = record { bounds = λ m. ≤ᶠ-trans (partial_sum_mono k m) (≤ᶠ-trans (h.bounds m) l) }

-- PRODUCTS AND POWERS

pub at_most_product : {v w x y : Fraction} → AtMostExp v x → AtMostExp w y → AtMostExp (v *ᶠ w) (x +ᶠ y)
at_most_product {v} {w} {x} {y} h k = record {
  terms = h.terms + k.terms;
  reached = ≤ᶠ-trans (*ᶠ-mono h.reached k.reached) (partial_sum_supermultiplicative x y h.terms k.terms);
}

pub at_least_product : {v w x y : Fraction} → AtLeastExp v x → AtLeastExp w y → AtLeastExp (v *ᶠ w) (x +ᶠ y)
at_least_product {v} {w} {x} {y} h k = record { bounds = λ m. ≤ᶠ-trans (partial_sum_submultiplicative x y m) (*ᶠ-mono (h.bounds m) (k.bounds m)) }

pub at_most_power : {w x : Fraction} (k : ℕ) → AtMostExp w x → AtMostExp (w ^ᶠ k) (whole k *ᶠ x)
at_most_power {w} {x} k h = record { terms = k * h.terms; reached = ≤ᶠ-trans (^ᶠ-mono k h.reached) (power_of_partial_sum x h.terms k) }

pub at_least_power : {w x : Fraction} (k : ℕ) → AtLeastExp w x → AtLeastExp (w ^ᶠ k) (whole k *ᶠ x)
at_least_power {w} {x} k h = record { bounds = λ m. ≤ᶠ-trans (partial_sum_of_multiple x m k) (^ᶠ-mono k (h.bounds m)) }

-- v ≤ e^x, e^y ≤ w and q x ≤ p y: then v^q ≤ w^p
pub exp_powers_in_order : {v w x y : Fraction} (p q : ℕ) → AtMostExp v x → AtLeastExp w y → whole q *ᶠ x ≤ᶠ whole p *ᶠ y → v ^ᶠ q ≤ᶠ w ^ᶠ p
exp_powers_in_order p q h k l = exp_bounds_in_order (at_most_power q h) (at_least_power p k) l

-- THE ESTIMATES

pub exp_under_at_most : (d : ℕ) (x : Fraction) → AtMostExp (exp_under d x) x
unfolding exp_under
exp_under_at_most d x = at_most_by_sum (last_term d) (≤ᶠ-refl (partial_sum (last_term d) x))

pub exp_under-≥-one : (d : ℕ) (x : Fraction) → whole 1 ≤ᶠ exp_under d x
unfolding exp_under
exp_under-≥-one d x = one-≤-partial_sum (last_term d) x

pub exp_over_zero : (d : ℕ) (x : Fraction) → x.num ≡ 0 → exp_over d x =ᶠ whole 1
unfolding exp_over
exp_over_zero d x e = sum_with_tail_zero (last_term d) x e

pub exp_under-≥-one_plus : (d : ℕ) (x : Fraction) → whole 1 +ᶠ x ≤ᶠ exp_under d x
unfolding exp_under
exp_under-≥-one_plus d x = one_plus-≤-partial_sum (last_term d) x (omega arith)

-- at one depth no limit on x is needed
pub exp_under-≤-own_over : (d : ℕ) (x : Fraction) → exp_under d x ≤ᶠ exp_over d x
unfolding exp_under exp_over
exp_under-≤-own_over d x = sum-≤-with_tail (last_term d) x

pub exp_under_mono : (d : ℕ) {x y : Fraction} → x ≤ᶠ y → exp_under d x ≤ᶠ exp_under d y
unfolding exp_under
exp_under_mono d h = partial_sum_mono h (last_term d)

pub exp_over_mono : (d : ℕ) {x y : Fraction} → x ≤ᶠ y → exp_over d x ≤ᶠ exp_over d y
unfolding exp_over
exp_over_mono d h = sum_with_tail_mono h (last_term d)

pub exp_under_strict : (d : ℕ) {x y : Fraction} → x <ᶠ y → exp_under d x <ᶠ exp_under d y
unfolding exp_under
exp_under_strict d h = partial_sum_strict h (last_term d) (omega arith)

pub exp_over_strict : (d : ℕ) {x y : Fraction} → x <ᶠ y → exp_over d x <ᶠ exp_over d y
unfolding exp_over
exp_over_strict d h = sum_with_tail_strict h (last_term d) (omega arith)

pub exp_high_stands : {w x : Fraction} → AtLeastExp w x → HighRight w (λ d. exp_under d x)
exp_high_stands {w} {x} h = record { at = λ d _. exp_bounds_in_order (exp_under_at_most d x) h (≤ᶠ-refl x) }
