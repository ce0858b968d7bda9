-- A fraction as the code holds it, and the bracket between two of them.
use Rattle.std.specs.Prelude.{ℕ, ◌<◌, ◌≡◌}
use Rattle.std.proofs.Common.{ap}
use Rattle.estimate.specs.Fraction.{Fraction, fraction, ◌÷◌, ◌≤ᶠ◌}
use Rattle.estimate.specs.FractionLaws.{÷-num, ÷-den, ≤ᶠ-refl}
use Rattle.estimate.specs.Standing.{LowRight, HighRight, exact_low_right, exact_high_right}
use Rattle.bracket.specs.Bracket.{Stands}
use Rattle.bracket.specs.declared.Bracket.{Bracket}
use Rattle.bracket.specs.declared.Ratio.{Ratio}

abbrev pub coded : Fraction → Ratio
coded x = record { num = x.num; den = x.den }

abbrev pub spanned : (low high : Ratio) → Bracket
spanned low high = record { low_num = low.num; low_den = low.den; high_num = high.num; high_den = high.den }

-- the bracket of an exact figure
unfoldable pub exactly : Fraction → Bracket
exactly x = spanned (coded x) (coded x)

-- a quotient is held as its two numbers
pub coded_quotient : (n d : ℕ) → 0 < d → coded (n ÷ d) ≡ record { num = n; den = d }
coded_quotient n d h = rw (÷-num n d, ÷-den n d h)

pub exact_is : {ratio : Ratio} (x : Fraction) → ratio ≡ coded x → spanned ratio ratio ≡ exactly x
unfolding exactly
exact_is x e = ap (λ (r : Ratio). spanned r r) e

-- two fractions as a bracket
pub spanned_stands : {low high : Fraction} {under over : ℕ → Fraction} → LowRight low over → HighRight high under → low ≤ᶠ high
    → Stands (spanned (coded low) (coded high)) under over
unfolding fraction
spanned_stands {low} {high} l h o = record { low_den = low.pos; high_den = high.pos; low_right = l; high_right = h; in_order = o }

pub exactly_stands : (x : Fraction) → Stands (exactly x) (λ d. x) (λ d. x)
unfolding exactly
exactly_stands x = spanned_stands (exact_low_right x) (exact_high_right x) (≤ᶠ-refl x)
