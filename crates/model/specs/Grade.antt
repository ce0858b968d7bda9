-- The two factors of edition 1's grade are one power of 1.016.
use Rattle.std.specs.Prelude.{ℕ, ◌+◌, ◌-◌, min, ◌≡◌}
use Rattle.std.proofs.Common.{arith, pow-add}
use Rattle.estimate.specs.Fraction.{Fraction, ◌÷◌, ◌*ᶠ◌, ◌^ᶠ◌, ◌=ᶠ◌}
use Rattle.model.specs.Coefficients.{edition_one}

-- powers of one fraction multiply by adding their exponents
power_pieces : (x : Fraction) (i j : ℕ) → x ^ᶠ i *ᶠ x ^ᶠ j =ᶠ x ^ᶠ (i + j)
unfolding ◌^ᶠ◌ ◌*ᶠ◌
power_pieces x i j = record { cross = rw (pow-add x.num i j, pow-add x.den i j) }

-- "Grade: 1.016 to the power G"
pub grade_is : (percent : ℕ) → edition_one.grade percent *ᶠ edition_one.steep_grade percent =ᶠ (127 ÷ 125) ^ᶠ percent
unfolding edition_one
grade_is percent =
    let e : min percent 6 + (percent - 6) ≡ percent = omega arith in
    rw e at (power_pieces (127 ÷ 125) (min percent 6) (percent - 6))
