-- Laws of fractions: their order, and how sums, products, powers and reciprocals keep it.
use Rattle.std.specs.Prelude.{ℕ, zero, suc, ◌*◌, ◌^◌, ◌≤◌, ◌<◌, Bool, ◌≡◌, T}
use Rattle.std.proofs.Math.Bool.{true, false}
use Rattle.std.proofs.Math.Path.{refl}
use Rattle.std.proofs.Common.{not-suc-le-zero, mul-le-mul, mul-le-mul_right, mul-lt-mul_of_pos_right, le_of_mul-le-mul_right, lt_of_mul-lt-mul_right, arith, leb→le, le→leb}
use Rattle.std.proofs.Math.Nat.{pow-le-pow_left}
use Rattle.std.proofs.Math.Decide.{le_ind}
use borrow.Author.Tests.{leb-true, leb-false}
use Rattle.estimate.specs.Fraction.{Fraction, ◌≤ᶠ◌, ◌<ᶠ◌, ◌=ᶠ◌, fraction, ◌÷◌, whole, decimal, ◌+ᶠ◌, ◌*ᶠ◌, ◌^ᶠ◌, inverse, leᶠ, lesser, greater}
use Rattle.estimate.specs.WholePower.{mul_pow}

-- THE ORDER

pub ≤ᶠ-refl : (a : Fraction) → a ≤ᶠ a
≤ᶠ-refl a = omega arith

pub ≤ᶠ-trans : {a b c : Fraction} → a ≤ᶠ b → b ≤ᶠ c → a ≤ᶠ c
≤ᶠ-trans {a} {b} {c} h k = record {
  cross = le_of_mul-le-mul_right {k = b.den} (omega (arith, mul-le-mul_right c.den h.cross, mul-le-mul_right a.den k.cross)) b.pos;
}

pub <ᶠ-≤ᶠ-trans : {a b c : Fraction} → a <ᶠ b → b ≤ᶠ c → a <ᶠ c
<ᶠ-≤ᶠ-trans {a} {b} {c} h k = record {
  cross = lt_of_mul-lt-mul_right b.den (omega (arith, mul-lt-mul_of_pos_right h.cross c.pos, mul-le-mul_right a.den k.cross));
}

pub ≤ᶠ-<ᶠ-trans : {a b c : Fraction} → a ≤ᶠ b → b <ᶠ c → a <ᶠ c
≤ᶠ-<ᶠ-trans {a} {b} {c} h k = record {
  cross = lt_of_mul-lt-mul_right b.den (omega (arith, mul-le-mul_right c.den h.cross, mul-lt-mul_of_pos_right k.cross a.pos));
}

pub <ᶠ-≤ᶠ : {a b : Fraction} → a <ᶠ b → a ≤ᶠ b
<ᶠ-≤ᶠ h = omega arith

pub not-≤ᶠ-and-<ᶠ : {a b : Fraction} → a ≤ᶠ b → b <ᶠ a → ⊥
not-≤ᶠ-and-<ᶠ h k = omega arith

pub ≤ᶠ-of-not-<ᶠ : {a b : Fraction} → (b <ᶠ a → ⊥) → a ≤ᶠ b
≤ᶠ-of-not-<ᶠ {a} {b} h = record { cross = not_less (λ k. h (record { cross = k })) }
  where
    not_less : (b.num * a.den < a.num * b.den → ⊥) → a.num * b.den ≤ b.num * a.den
    not_less h = omega arith

pub =ᶠ-≤ᶠ : {a b : Fraction} → a =ᶠ b → a ≤ᶠ b
=ᶠ-≤ᶠ h = omega arith

pub =ᶠ-≥ᶠ : {a b : Fraction} → a =ᶠ b → b ≤ᶠ a
=ᶠ-≥ᶠ h = omega arith

-- a sequence that does not fall at any step from k on, and one that does not rise
pub rises_by_steps : (f : ℕ → Fraction) (k : ℕ) → ((i : ℕ) → k ≤ i → f i ≤ᶠ f (suc i)) → (m : ℕ) → k ≤ m → f k ≤ᶠ f m
rises_by_steps f k step m h = le_ind (λ i. f k ≤ᶠ f i) (≤ᶠ-refl (f k)) (λ i ki ih. ≤ᶠ-trans ih (step i ki)) m h

pub falls_by_steps : (f : ℕ → Fraction) (k : ℕ) → ((i : ℕ) → k ≤ i → f (suc i) ≤ᶠ f i) → (m : ℕ) → k ≤ m → f m ≤ᶠ f k
falls_by_steps f k step m h = le_ind (λ i. f i ≤ᶠ f k) (≤ᶠ-refl (f k)) (λ i ki ih. ≤ᶠ-trans (step i ki) ih) m h

-- THE TEST

pub leᶠ-sound : (a b : Fraction) → T (leᶠ a b) → a ≤ᶠ b
unfolding leᶠ
leᶠ-sound a b t = record { cross = leb→le _ _ t }

pub leᶠ-complete : {a b : Fraction} → a ≤ᶠ b → T (leᶠ a b)
unfolding leᶠ
leᶠ-complete h = le→leb _ _ h.cross

-- the lesser and the greater are one of the two, and that one is the lesser, or the greater
module _ (a b : Fraction) (P : Fraction → Type 0) where
  pub lesser_by : (a ≤ᶠ b → P a) → (b ≤ᶠ a → P b) → P (lesser a b)
  unfolding lesser leᶠ
  lesser_by f g = by_test (leᶠ a b) refl
    where
      by_test : (v : Bool) → leᶠ a b ≡ v → P (elim v [ true ↦ a | false ↦ b ])
      by_test true e = f (record { cross = leb-true _ _ e })
      by_test false e = g (<ᶠ-≤ᶠ (record { cross = leb-false _ _ e }))

  pub greater_by : (b ≤ᶠ a → P a) → (a ≤ᶠ b → P b) → P (greater a b)
  unfolding greater leᶠ
  greater_by f g = by_test (leᶠ a b) refl
    where
      by_test : (v : Bool) → leᶠ a b ≡ v → P (elim v [ true ↦ b | false ↦ a ])
      by_test true e = g (record { cross = leb-true _ _ e })
      by_test false e = f (<ᶠ-≤ᶠ (record { cross = leb-false _ _ e }))

module _ (a b : Fraction) where
  pub lesser-≤-left : lesser a b ≤ᶠ a
  lesser-≤-left = lesser_by a b (λ z. z ≤ᶠ a) (λ _. ≤ᶠ-refl a) (λ h. h)

  pub lesser-≤-right : lesser a b ≤ᶠ b
  lesser-≤-right = lesser_by a b (λ z. z ≤ᶠ b) (λ h. h) (λ _. ≤ᶠ-refl b)

  pub greater-≥-left : a ≤ᶠ greater a b
  greater-≥-left = greater_by a b (λ z. a ≤ᶠ z) (λ _. ≤ᶠ-refl a) (λ h. h)

  pub greater-≥-right : b ≤ᶠ greater a b
  greater-≥-right = greater_by a b (λ z. b ≤ᶠ z) (λ h. h) (λ _. ≤ᶠ-refl b)

-- THE OPERATIONS

-- n ÷ d is n over d, where d is not 0
pub ÷-num : (n d : ℕ) → (n ÷ d).num ≡ n
unfolding ◌÷◌ fraction
÷-num n zero = refl
÷-num n (suc d) = refl

pub ÷-den : (n d : ℕ) → 0 < d → (n ÷ d).den ≡ d
unfolding ◌÷◌ fraction
÷-den n zero h = absurd (not-suc-le-zero h)
÷-den n (suc d) h = refl

pub whole_mono : {m n : ℕ} → m ≤ n → whole m ≤ᶠ whole n
unfolding whole
whole_mono l = omega arith

pub decimal_mono : (d : ℕ) {s t : ℕ} → s ≤ t → decimal d s ≤ᶠ decimal d t
unfolding decimal
decimal_mono d l = record { cross = mul-le-mul_right (10 ^ d) l }

pub +ᶠ-mono : {a b c d : Fraction} → a ≤ᶠ b → c ≤ᶠ d → a +ᶠ c ≤ᶠ b +ᶠ d
unfolding ◌+ᶠ◌
+ᶠ-mono {a} {b} {c} {d} h k = omega (arith, mul-le-mul_right (c.den * d.den) h.cross, mul-le-mul_right (a.den * b.den) k.cross)

pub *ᶠ-mono : {a b c d : Fraction} → a ≤ᶠ b → c ≤ᶠ d → a *ᶠ c ≤ᶠ b *ᶠ d
unfolding ◌*ᶠ◌
*ᶠ-mono h k = omega (arith, mul-le-mul h.cross k.cross)

pub ^ᶠ-mono : {a b : Fraction} (k : ℕ) → a ≤ᶠ b → a ^ᶠ k ≤ᶠ b ^ᶠ k
unfolding ◌^ᶠ◌
^ᶠ-mono {a} {b} k h = record { cross = rw (← mul_pow a.num b.den k, ← mul_pow b.num a.den k) (pow-le-pow_left h.cross k) }

pub inverse_antitone : {a b : Fraction} (h : 0 < a.num) (k : 0 < b.num) → a ≤ᶠ b → inverse b k ≤ᶠ inverse a h
unfolding inverse
inverse_antitone h k l = omega arith

pub positive_above : {a b : Fraction} → 0 < a.num → a ≤ᶠ b → 0 < b.num
positive_above {a} {b} h l = lt_of_mul-lt-mul_right a.den (omega (arith, l.cross, mul-lt-mul_of_pos_right h b.pos))
