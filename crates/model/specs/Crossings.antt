-- Factors of a crossing. The turn-lane tables are the edition's.
use Rattle.std.specs.Prelude.{ℕ, ◌+◌, ◌*◌}
use Rattle.estimate.specs.Fraction.{Fraction, ◌÷◌}
use Rattle.model.specs.Coefficients.{Coefficients, by_kind}

unfoldable pub left_turn : Coefficients → (kind lanes : ℕ) → Fraction
left_turn k kind lanes = k.left_turn kind lanes ÷ 1000

unfoldable pub right_turn : Coefficients → (kind lanes : ℕ) → Fraction
right_turn k kind lanes = k.right_turn kind lanes ÷ 1000

-- "Sight: 1 + 0.05 for each quadrant"
unfoldable pub sight : ℕ → Fraction
sight quadrants = (100 + 5 * quadrants) ÷ 100

-- "A^0.79 × B^0.49", "0.60, 0.61", "0.60, 0.20": the exponents of major and minor traffic in hundredths, by kind
abbrev pub major_exponent : ℕ → ℕ
major_exponent = by_kind 0 79 60 60

abbrev pub minor_exponent : ℕ → ℕ
minor_exponent = by_kind 0 49 61 20

-- "e^(0.0040 skew)", "0.0054", "no skew": x for each degree, in ten-thousandths
abbrev pub skew_exponent : ℕ → ℕ
skew_exponent = by_kind 0 40 54 0
