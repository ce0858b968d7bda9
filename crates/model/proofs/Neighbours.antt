-- Laws of Neighbours in specs/.
use Rattle.std.specs.Prelude.{ℕ, ◌+◌, ◌*◌, ◌/◌, ◌≤◌, ◌<◌, Bool, true, false, ◌≡◌, refl, leb}
use Rattle.std.proofs.Common.{arith, le-leb, leb-true, leb-false}
use Rattle.laws.specs.Table.{all_below, agree_below}
use Rattle.estimate.specs.Fraction.{Fraction, fraction, ◌÷◌, ◌=ᶠ◌}
use Rattle.model.specs.Coefficients.{Coefficients}
use Rattle.model.specs.Widths.{column_below, column_above, twice_mean, width_unit, width_at, type_at, shoulder_value, type_value, of_related, shoulder}
use Rattle.model.specs.Neighbours.{Between}

-- up to 8 feet, and from 8 feet on
pub narrow : (feet : ℕ) → feet < 9 → Between feet (feet / 2) ((feet + 1) / 2)
unfolding all_below
narrow feet h = (agree_below column_below (λ feet. feet / 2) 9 tt feet h, agree_below column_above (λ feet. (feet + 1) / 2) 9 tt feet h)

pub wide : (feet : ℕ) → 8 ≤ feet → Between feet 4 4
wide feet h = (simp (le-leb 8 feet h), simp (le-leb 8 (feet + 1) (omega arith)))

-- either way the two are among the five
few : (test : Bool) (feet : ℕ) → leb 8 feet ≡ test → (column_below feet < 5) × (column_above feet < 5)
few true feet e = let four = wide feet (leb-true 8 feet e) in (omega (arith, four.0), omega (arith, four.1))
few false feet e =
    let small : feet < 8 = leb-false 8 feet e in
    let half = narrow feet (omega arith) in
    (omega (arith, half.0), omega (arith, half.1))

pub columns_few : (feet : ℕ) → (column_below feet < 5) × (column_above feet < 5)
columns_few feet = few (leb 8 feet) feet refl

-- the i-th column is that of 2i feet, and 2i + 1 feet stand between it and the next
even : (i : ℕ) → i < 5 → Between (2 * i) i i
even i h = let half = narrow (2 * i) (omega arith) in (omega (arith, half.0), omega (arith, half.1))

odd : (i : ℕ) → i < 4 → Between (2 * i + 1) i (i + 1)
odd i h = let half = narrow (2 * i + 1) (omega arith) in (omega (arith, half.0), omega (arith, half.1))

-- ANY TABLE
module _ (value : ℕ → ℕ) where
  pub own_column : (i : ℕ) → i < 5 → twice_mean value (2 * i) ≡ 2 * value i
  own_column i h = rw ((even i h).0, (even i h).1) (omega arith)

  pub between_columns : (i : ℕ) → i < 4 → twice_mean value (2 * i + 1) ≡ value i + value (i + 1)
  between_columns i h = rw ((odd i h).0, (odd i h).1)

  pub last_column : (feet : ℕ) → 8 ≤ feet → twice_mean value feet ≡ 2 * value 4
  last_column feet h = rw ((wide feet h).0, (wide feet h).1) (omega arith)

-- THE FACTOR, in any edition
module _ (k : Coefficients) (surface traffic : ℕ) where
  -- document 01's, of the values at one column
  abbrev pub factor_at : ℕ → Fraction
  factor_at i = of_related k.related_share (width_at traffic i * type_at surface i) (width_unit * 100)

  -- a column twice: four times the product, over four times the unit
  one_column : (feet i : ℕ) → Between feet i i → shoulder k feet surface traffic =ᶠ factor_at i
  unfolding shoulder shoulder_value type_value ◌÷◌ fraction
  one_column feet i e = record { cross = rw (e.0, e.1) (omega arith) }

  pub own_factor : (i : ℕ) → i < 5 → shoulder k (2 * i) surface traffic =ᶠ factor_at i
  own_factor i h = one_column (2 * i) i (even i h)

  pub last_factor : (feet : ℕ) → 8 ≤ feet → shoulder k feet surface traffic =ᶠ factor_at 4
  last_factor feet h = one_column feet 4 (wide feet h)

  -- the mean width times the mean type, each mean a sum over twice its unit
  pub between_factor : (i : ℕ) → i < 4 → shoulder k (2 * i + 1) surface traffic
      ≡ of_related k.related_share ((width_at traffic i + width_at traffic (i + 1)) * (type_at surface i + type_at surface (i + 1)))
      ((2 * width_unit) * (2 * 100))
  unfolding shoulder shoulder_value type_value
  between_factor i h = rw ((odd i h).0, (odd i h).1)
