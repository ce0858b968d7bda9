-- What a bracket's relative width gives: the same width in finer parts, and a bound of the high end from one of the low.
use Rattle.std.specs.Prelude.{ℕ, zero, suc, ◌+◌, ◌*◌, ◌≤◌, ◌<◌}
use Rattle.std.proofs.Common.{mul-le-mul_right, mul-le-mul_left, le_of_mul-le-mul_right, arith, lit<}
use Rattle.bracket.specs.declared.Bracket.{Bracket}
use Rattle.wide.specs.Rounding.{Narrow}
use Rattle.bracket.specs.Bracket.{RelativeWidth, power_width, exponential_width}

-- r / R is s r / (s R)
pub in_parts : {R r : ℕ} {b : Bracket} (s : ℕ) → RelativeWidth R r b → RelativeWidth (s * R) (s * r) b
in_parts s w = record { width = omega (arith, mul-le-mul_left s w.width) }

-- a width of r / R is one of 1 / W, where W r is at most R
pub narrow_in : (R W a r l h : ℕ) → 0 < R → W * r ≤ R → Narrow R a r l h → Narrow W a 1 l h
narrow_in R W a r l h positive few n = record {
  width = le_of_mul-le-mul_right {k = R} (omega (arith, mul-le-mul_left W n.width, mul-le-mul_right h few)) positive;
}

-- R a + b ≤ R b + a is (R - 1) a ≤ (R - 1) b
cancelled : (R a b : ℕ) → 1 < R → R * a + b ≤ R * b + a → a ≤ b
cancelled zero a b h l = absurd (omega arith)
cancelled (suc zero) a b h l = absurd (omega arith)
cancelled (suc (suc R)) a b h l = le_of_mul-le-mul_right {k = suc R} (omega arith) (omega arith)

near : (R ln ld hn hd v w D : ℕ) → 1 < R → 0 < ld → R * (hn * ld) ≤ R * (ln * hd) + 1 * (hn * ld) → v < w → w ≤ R → ln * D ≤ v * ld → hn * D ≤ w * hd
near R ln ld hn hd v w D large positive narrow below few low =
    le_of_mul-le-mul_right {k = ld}
    (cancelled R (hn * D * ld) (w * hd * ld) large
    (omega (arith, mul-le-mul_right D narrow, mul-le-mul_left (R * hd) low, mul-le-mul_left (R * hd * ld) below, mul-le-mul_left (hd * ld) few)))
    positive

-- a bracket 1 / R wide whose low is at most v / D has a high of at most w / D, where w is more than v and at most R
pub high_below : (R : ℕ) (b : Bracket) (v w D : ℕ) → 1 < R → 0 < b.low_den → RelativeWidth R 1 b → v < w → w ≤ R
    → b.low_num * D ≤ v * b.low_den → b.high_num * D ≤ w * b.high_den
high_below R b v w D large positive narrow below few low =
    near R b.low_num b.low_den b.high_num b.high_den v w D large positive narrow.width below few low

-- THE STATED WIDTHS are below 1
pub power_width_large : 1 < power_width
unfolding power_width
power_width_large = lit< tt

pub exponential_width_large : 1 < exponential_width
unfolding exponential_width
exponential_width_large = lit< tt
