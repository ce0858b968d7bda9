-- Fractions. Document 01: "In statements a fraction is two whole numbers, compared by cross products."
use Rattle.std.specs.Prelude.{ℕ, zero, suc, ◌+◌, ◌*◌, ◌^◌, ◌≤◌, ◌<◌, Bool, true, false, ◌≡◌, leb}
use Rattle.std.proofs.Common.{mul-pos, zero-lt-suc, lit<}
use Rattle.std.proofs.Math.Nat.{one-le-pow}

-- num / den, over a denominator that is not 0
pub record Fraction : Type 0 where
  pub num : ℕ
  pub den : ℕ
  pub pos : 0 < den

-- "compared by cross products"
infix 50 ◌≤ᶠ◌
pub record ◌≤ᶠ◌ (a b : Fraction) : Type 0 where
  pub cross : a.num * b.den ≤ b.num * a.den

-- strictly
infix 50 ◌<ᶠ◌
pub record ◌<ᶠ◌ (a b : Fraction) : Type 0 where
  pub cross : a.num * b.den < b.num * a.den

-- as numbers
infix 50 ◌=ᶠ◌
pub record ◌=ᶠ◌ (a b : Fraction) : Type 0 where
  pub cross : a.num * b.den ≡ b.num * a.den

-- n / d
unfoldable pub fraction : (n d : ℕ) → 0 < d → Fraction
fraction n d h = record { num = n; den = d; pos = h }

-- n / d, for a d that is not 0; ÷-den says that it is then the denominator (n ÷ 0 is n)
infix 75 ◌÷◌
unfoldable pub ◌÷◌ : ℕ → ℕ → Fraction
unfolding fraction
n ÷ zero = fraction n 1 (zero-lt-suc 0)
n ÷ suc d = fraction n (suc d) (zero-lt-suc d)

-- the whole number n
unfoldable pub whole : ℕ → Fraction
unfolding fraction
whole n = fraction n 1 (lit< tt)

-- "in millionths"
unfoldable pub millionths : ℕ → Fraction
unfolding ◌÷◌
millionths n = n ÷ 1000000

-- an exponent of e is in ten-thousandths
unfoldable pub ten_thousandths : ℕ → Fraction
unfolding fraction
ten_thousandths x = fraction x 10000 (lit< tt)

-- "t/10^d, t whole"
unfoldable pub decimal : (d t : ℕ) → Fraction
unfolding fraction
decimal d t = fraction t (10 ^ d) (one-le-pow d 10 (lit< tt))

-- sum
infixl 60 ◌+ᶠ◌
unfoldable pub ◌+ᶠ◌ : Fraction → Fraction → Fraction
a +ᶠ b = record { num = a.num * b.den + b.num * a.den; den = a.den * b.den; pos = mul-pos a.pos b.pos }

-- product
infixl 70 ◌*ᶠ◌
unfoldable pub ◌*ᶠ◌ : Fraction → Fraction → Fraction
a *ᶠ b = record { num = a.num * b.num; den = a.den * b.den; pos = mul-pos a.pos b.pos }

-- whole power
infixl 80 ◌^ᶠ◌
unfoldable pub ◌^ᶠ◌ : Fraction → ℕ → Fraction
a ^ᶠ k = record { num = a.num ^ k; den = a.den ^ k; pos = one-le-pow k a.den a.pos }

-- 1 / a, for an a that is not 0
unfoldable pub inverse : (a : Fraction) → 0 < a.num → Fraction
inverse a h = record { num = a.den; den = a.num; pos = h }

-- the comparison as a test
unfoldable pub leᶠ : Fraction → Fraction → Bool
leᶠ a b = leb (a.num * b.den) (b.num * a.den)

-- "the lesser of its two values"
unfoldable pub lesser : Fraction → Fraction → Fraction
lesser a b = elim (leᶠ a b) [ true ↦ a | false ↦ b ]

-- "the greater of the two"
unfoldable pub greater : Fraction → Fraction → Fraction
greater a b = elim (leᶠ a b) [ true ↦ b | false ↦ a ]
