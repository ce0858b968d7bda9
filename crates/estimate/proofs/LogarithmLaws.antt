-- Laws of LogarithmLaws in specs/.
use Rattle.std.specs.Prelude.{ℕ, ◌*◌, ◌^◌}
use native.Mathlib.Omega.{arith}
use Rattle.std.proofs.Common.{lit≤}
use Rattle.estimate.specs.Fraction.{Fraction, ◌≤ᶠ◌, whole, decimal}
use Rattle.estimate.specs.FractionLaws.{≤ᶠ-trans, ≤ᶠ-refl, <ᶠ-≤ᶠ-trans, ≤ᶠ-<ᶠ-trans, ≤ᶠ-of-not-<ᶠ, not-≤ᶠ-and-<ᶠ, decimal_mono}
use Rattle.estimate.specs.Standing.{HighRight}
use Rattle.estimate.specs.Exponential.{partial_sum, last_term, exp_under, exp_over, sum_num, term_num, term_den}
use Rattle.estimate.specs.ExponentialLaws.{partial_sums_grow, partial_sum_mono}
use Rattle.estimate.specs.ExponentialBounds.{AtMostExp, AtLeastExp, at_least_weaker, exp_bounds_in_order}
use Rattle.estimate.specs.ExponentialBounds.{exp_under_strict, exp_over_strict, exp_under-≤-own_over}
use Rattle.estimate.proofs.ExponentialOver.{exp_over_at_least}
use Rattle.estimate.specs.Logarithm.{ln_under, ln_over, ln_smallest_is}
use Rattle.estimate.proofs.Logarithm.{ln_largest_is}
use Rattle.estimate.specs.LogarithmLaws.{below_ln_over}

-- the two estimates do what their definitions ask
ln_under_holds : (d : ℕ) (A : Fraction) → whole 1 ≤ᶠ A → exp_over d (ln_under d A) ≤ᶠ A
unfolding ln_under
ln_under_holds d A one = (ln_largest_is d A one).holds

-- A ≤ e^x: then x is at least each under-estimate of ln A
pub above_ln_under : {A x : Fraction} → whole 1 ≤ᶠ A → x ≤ᶠ whole 21 → AtMostExp A x → (d : ℕ) → ln_under d A ≤ᶠ x
above_ln_under {A} {x} one b h d =
    ≤ᶠ-of-not-<ᶠ λ k. not-≤ᶠ-and-<ᶠ (ln_under_holds d A one) (≤ᶠ-<ᶠ-trans (exp_bounds_in_order h (exp_over_at_least d x b) (≤ᶠ-refl x)) (exp_over_strict d k))

pub ln_high_stands : {A x : Fraction} → whole 1 ≤ᶠ A → x ≤ᶠ whole 21 → AtMostExp A x → HighRight x (λ d. ln_under d A)
ln_high_stands one b h = record { at = λ d _. above_ln_under one b h d }

-- HOW LARGE THEY ARE

-- A at most a sum at b: ln A is at most b
module _ {A : Fraction} (b : ℕ) (h : A ≤ᶠ partial_sum 40 (whole b)) where
  at_depth : (d : ℕ) → A ≤ᶠ exp_under d (whole b)
  unfolding exp_under
  at_depth d = ≤ᶠ-trans h (partial_sums_grow (whole b) 40 (last_term d) (omega arith))

  pub ln_under-≤-whole : whole 1 ≤ᶠ A → (d : ℕ) → ln_under d A ≤ᶠ whole b
  ln_under-≤-whole one d =
      ≤ᶠ-of-not-<ᶠ
      λ k. not-≤ᶠ-and-<ᶠ (ln_under_holds d A one) (≤ᶠ-<ᶠ-trans (at_depth d) (<ᶠ-≤ᶠ-trans (exp_under_strict d k) (exp_under-≤-own_over d (ln_under d A))))

  pub ln_over-≤-whole : (d : ℕ) → ln_over d A ≤ᶠ whole b
  unfolding ln_over
  ln_over-≤-whole d =
      let same : whole b ≤ᶠ decimal d (b * 10 ^ d) = unfold whole decimal in omega arith in
      let back : decimal d (b * 10 ^ d) ≤ᶠ whole b = unfold whole decimal in omega arith in
      ≤ᶠ-trans (decimal_mono d ((ln_smallest_is d A).least (b * 10 ^ d) (≤ᶠ-trans (at_depth d) (unfold exp_under in partial_sum_mono same (last_term d))))) back

-- 10^9 is less than e^21, and 20000 less than e^10
ten_to_nine : whole (10 ^ 9) ≤ᶠ partial_sum 40 (whole 21)
unfolding partial_sum sum_num term_num term_den whole
ten_to_nine = record { cross = lit≤ tt }

twenty_thousand : whole 20000 ≤ᶠ partial_sum 40 (whole 10)
unfolding partial_sum sum_num term_num term_den whole
twenty_thousand = record { cross = lit≤ tt }

pub ln_over-≤-ten : {A : Fraction} → A ≤ᶠ whole 20000 → (d : ℕ) → ln_over d A ≤ᶠ whole 10
ln_over-≤-ten b d = ln_over-≤-whole 10 (≤ᶠ-trans b twenty_thousand) d

pub ln_under-≤-ten : {A : Fraction} → whole 1 ≤ᶠ A → A ≤ᶠ whole 20000 → (d : ℕ) → ln_under d A ≤ᶠ whole 10
ln_under-≤-ten one b d = ln_under-≤-whole 10 (≤ᶠ-trans b twenty_thousand) one d

pub ln_under-≤-twenty_one : {A : Fraction} → whole 1 ≤ᶠ A → A ≤ᶠ whole (10 ^ 9) → (d : ℕ) → ln_under d A ≤ᶠ whole 21
ln_under-≤-twenty_one one b d = ln_under-≤-whole 21 (≤ᶠ-trans b ten_to_nine) one d

pub ln_under_at_least : (d : ℕ) {A : Fraction} → whole 1 ≤ᶠ A → A ≤ᶠ whole (10 ^ 9) → AtLeastExp A (ln_under d A)
ln_under_at_least d {A} one b =
    at_least_weaker (ln_under_holds d A one) (≤ᶠ-refl (ln_under d A)) (exp_over_at_least d (ln_under d A) (ln_under-≤-twenty_one one b d))

pub ln_under-≤-over : {A : Fraction} → whole 1 ≤ᶠ A → A ≤ᶠ whole (10 ^ 9) → (d e : ℕ) → ln_under d A ≤ᶠ ln_over e A
ln_under-≤-over one b d e = below_ln_over (ln_under_at_least d one b) e
