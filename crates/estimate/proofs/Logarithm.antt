-- Laws of Logarithm in specs/.
use Rattle.std.specs.Prelude.{ℕ, suc, ◌*◌, ◌^◌, ◌≤◌, ◌≡◌, refl}
use Rattle.std.proofs.Math.Nat.{le-mul_of_pos_right}
use native.Mathlib.Omega.{arith}
use Rattle.estimate.specs.Fraction.{Fraction, ◌≤ᶠ◌, ◌<ᶠ◌, ◌=ᶠ◌, whole, decimal, ◌+ᶠ◌}
use Rattle.estimate.specs.FractionLaws.{≤ᶠ-trans, =ᶠ-≤ᶠ, ≤ᶠ-refl, not-≤ᶠ-and-<ᶠ, leᶠ-sound, leᶠ-complete, decimal_mono}
use Rattle.estimate.specs.Search.{Largest, largest_of_all}
use Rattle.estimate.specs.Search.{largest_unique, largest_by_neighbour}
use Rattle.estimate.specs.Exponential.{exp_over}
use Rattle.estimate.specs.ExponentialBounds.{exp_under-≥-one, exp_under-≥-one_plus, exp_under-≤-own_over, exp_over_mono, exp_over_zero}
use Rattle.estimate.specs.Logarithm.{LnOne, OverAtMost, ln_largest, ln_over, ln_smallest_is, ln_under}

-- THEY ARE THE LARGEST AND THE SMALLEST OF ALL WHOLE NUMBERS

-- 1 + x is at most e^x, so what passes is within the bound
one_plus_passes : (d t : ℕ) {A : Fraction} → OverAtMost d A t → whole 1 +ᶠ decimal d t ≤ᶠ A
one_plus_passes d t h = ≤ᶠ-trans (exp_under-≥-one_plus d (decimal d t)) (≤ᶠ-trans (exp_under-≤-own_over d (decimal d t)) h)

within : (d : ℕ) (A : Fraction) (t : ℕ) → OverAtMost d A t → t ≤ A.num * 10 ^ d
within d A t h = let b = one_plus_passes d t h in unfold whole ◌+ᶠ◌ decimal in omega (arith, b.cross, le-mul_of_pos_right t A.pos)

zero_passes : (d : ℕ) (A : Fraction) → whole 1 ≤ᶠ A → OverAtMost d A 0
zero_passes d A one = ≤ᶠ-trans (=ᶠ-≤ᶠ (exp_over_zero d (decimal d 0) (unfold decimal in refl))) one

pub ln_largest_is : (d : ℕ) (A : Fraction) → whole 1 ≤ᶠ A → Largest (OverAtMost d A) (ln_largest d A)
unfolding ln_largest
ln_largest_is d A one =
    largest_of_all (OverAtMost d A) _ (λ t. leᶠ-sound _ _) (λ t. leᶠ-complete) (A.num * 10 ^ d) (zero_passes d A one) (within d A)

-- by certificate: t passes and its neighbour does not
pub ln_largest_value : (d : ℕ) (A : Fraction) (t : ℕ) → whole 1 ≤ᶠ A → OverAtMost d A t → A <ᶠ exp_over d (decimal d (suc t)) → ln_largest d A ≡ t
ln_largest_value d A t one h k =
    largest_unique (ln_largest_is d A one)
    (largest_by_neighbour (λ r s l g. ≤ᶠ-trans (exp_over_mono d (decimal_mono d l)) g) h (λ g. not-≤ᶠ-and-<ᶠ g k))

pub ln_one : (d : ℕ) → LnOne d
unfolding ln_under ln_over
ln_one d = record { under = is_zero _ none_passes; over = is_zero _ ((ln_smallest_is d (whole 1)).least 0 (exp_under-≥-one d (decimal d 0))) }
  where
    is_zero : (t : ℕ) → t ≤ 0 → decimal d t =ᶠ whole 0
    is_zero t l = unfold decimal whole in omega arith

    none_passes : ln_largest d (whole 1) ≤ 0
    none_passes =
        let b = one_plus_passes d _ (ln_largest_is d (whole 1) (≤ᶠ-refl (whole 1))).holds in
        unfold whole ◌+ᶠ◌ decimal in omega (arith, b.cross)
