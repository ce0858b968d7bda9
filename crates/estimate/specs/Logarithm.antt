-- ln A at depth d, for a fraction A from 1 (document 01's A is `whole A`).
use Rattle.std.specs.Prelude.{ℕ, suc, ◌*◌, ◌^◌, ◌≡◌}
use Rattle.std.proofs.Math.Nat.{le-mul_of_pos_right}
use native.Mathlib.Omega.{arith}
use Rattle.estimate.specs.Fraction.{Fraction, ◌≤ᶠ◌, ◌<ᶠ◌, ◌=ᶠ◌, leᶠ, whole, decimal, ◌+ᶠ◌}
use Rattle.estimate.specs.FractionLaws.{≤ᶠ-trans, not-≤ᶠ-and-<ᶠ, leᶠ-sound, leᶠ-complete, decimal_mono}
use Rattle.estimate.specs.Search.{largest, smallest, Smallest}
use Rattle.estimate.specs.Search.{smallest_of_all, smallest_unique, smallest_by_neighbour}
use Rattle.estimate.specs.Exponential.{exp_under, exp_over}
use Rattle.estimate.specs.ExponentialBounds.{exp_under-≥-one_plus, exp_under_mono}

-- "whose e-power has its over at most A"
abbrev pub OverAtMost : (d : ℕ) (A : Fraction) (t : ℕ) → Type 0
OverAtMost d A t = exp_over d (decimal d t) ≤ᶠ A

-- "whose e-power has its under at least A"
abbrev pub UnderAtLeast : (d : ℕ) (A : Fraction) (t : ℕ) → Type 0
UnderAtLeast d A t = A ≤ᶠ exp_under d (decimal d t)

-- the largest t of the first kind, found up to A's numerator times 10^d
unfoldable pub ln_largest : (d : ℕ) → Fraction → ℕ
ln_largest d A = largest (λ t. leᶠ (exp_over d (decimal d t)) A) (A.num * 10 ^ d)

-- the smallest t of the second kind, found up to the same bound
unfoldable pub ln_smallest : (d : ℕ) → Fraction → ℕ
ln_smallest d A = smallest (λ t. leᶠ A (exp_under d (decimal d t))) (A.num * 10 ^ d)

-- "under is the largest t/10^d (t whole, from 0)"
unfoldable pub ln_under : (d : ℕ) → Fraction → Fraction
ln_under d A = decimal d (ln_largest d A)

-- "over is the smallest"
unfoldable pub ln_over : (d : ℕ) → Fraction → Fraction
ln_over d A = decimal d (ln_smallest d A)

bound_passes : (d : ℕ) (A : Fraction) → UnderAtLeast d A (A.num * 10 ^ d)
bound_passes d A =
    ≤ᶠ-trans {b = whole 1 +ᶠ decimal d (A.num * 10 ^ d)}
    (unfold whole ◌+ᶠ◌ decimal in omega (arith, le-mul_of_pos_right (A.num * 10 ^ d) A.pos))
    (exp_under-≥-one_plus d (decimal d (A.num * 10 ^ d)))

pub ln_smallest_is : (d : ℕ) (A : Fraction) → Smallest (UnderAtLeast d A) (ln_smallest d A)
unfolding ln_smallest
ln_smallest_is d A =
    smallest_of_all (UnderAtLeast d A) _ (λ t. leᶠ-sound _ _) (λ t. leᶠ-complete) (A.num * 10 ^ d) (bound_passes d A)

pub ln_smallest_value : (d : ℕ) (A : Fraction) (t : ℕ) → UnderAtLeast d A (suc t) → exp_under d (decimal d t) <ᶠ A → ln_smallest d A ≡ suc t
ln_smallest_value d A t h k =
    smallest_unique (ln_smallest_is d A)
    (smallest_by_neighbour (λ r s l g. ≤ᶠ-trans g (exp_under_mono d (decimal_mono d l))) h (λ g. not-≤ᶠ-and-<ᶠ g k))

-- "ln 1: 0 and 0", at every depth
pub record LnOne (d : ℕ) : Type 0 where
  pub under : ln_under d (whole 1) =ᶠ whole 0
  pub over : ln_over d (whole 1) =ᶠ whole 0
