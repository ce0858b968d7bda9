-- When a low and a high are right, over estimates that are functions of the depth.
use Rattle.std.specs.Prelude.{ℕ, ◌≤◌, ◌<◌}
use Rattle.estimate.specs.Fraction.{Fraction, ◌≤ᶠ◌, ◌+ᶠ◌, inverse}
use Rattle.estimate.specs.FractionLaws.{≤ᶠ-refl, ≤ᶠ-trans, +ᶠ-mono, inverse_antitone}

-- "A low is right when it is at most the over-estimate at every depth", "depth d, d at least 1"
pub record LowRight (low : Fraction) (over : ℕ → Fraction) : Type 0 where
  pub at : (d : ℕ) → 1 ≤ d → low ≤ᶠ over d

-- "a high when it is at least the under-estimate at every depth"
pub record HighRight (high : Fraction) (under : ℕ → Fraction) : Type 0 where
  pub at : (d : ℕ) → 1 ≤ d → under d ≤ᶠ high

-- "an exact figure stands between two numbers when both are right"
pub record Between (low high : Fraction) (under over : ℕ → Fraction) : Type 0 where
  pub low_right : LowRight low over
  pub high_right : HighRight high under

-- an exact part has itself for both estimates
pub exact_low_right : (a : Fraction) → LowRight a (λ d. a)
exact_low_right a = record { at = λ d l. ≤ᶠ-refl a }

pub exact_high_right : (a : Fraction) → HighRight a (λ d. a)
exact_high_right a = record { at = λ d l. ≤ᶠ-refl a }

pub smaller_low_right : {a b : Fraction} {over : ℕ → Fraction} → a ≤ᶠ b → LowRight b over → LowRight a over
smaller_low_right l h = record { at = λ d k. ≤ᶠ-trans l (h.at d k) }

pub larger_high_right : {a b : Fraction} {under : ℕ → Fraction} → a ≤ᶠ b → HighRight a under → HighRight b under
larger_high_right l h = record { at = λ d k. ≤ᶠ-trans (h.at d k) l }

module _ {a b : Fraction} {f g : ℕ → Fraction} where
  pub low_sum_right : LowRight a f → LowRight b g → LowRight (a +ᶠ b) (λ d. f d +ᶠ g d)
  low_sum_right h k = record { at = λ d l. +ᶠ-mono (h.at d l) (k.at d l) }

  pub high_sum_right : HighRight a f → HighRight b g → HighRight (a +ᶠ b) (λ d. f d +ᶠ g d)
  high_sum_right h k = record { at = λ d l. +ᶠ-mono (h.at d l) (k.at d l) }

-- "reciprocals, exchanged"
module _ {a : Fraction} {f : ℕ → Fraction} (pa : 0 < a.num) (pf : (d : ℕ) → 0 < (f d).num) where
  pub reciprocal_low_right : HighRight a f → LowRight (inverse a pa) (λ d. inverse (f d) (pf d))
  reciprocal_low_right h = record { at = λ d l. inverse_antitone (pf d) pa (h.at d l) }

  pub reciprocal_high_right : LowRight a f → HighRight (inverse a pa) (λ d. inverse (f d) (pf d))
  reciprocal_high_right h = record { at = λ d l. inverse_antitone pa (pf d) (h.at d l) }
