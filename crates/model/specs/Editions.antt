-- WHAT HOLDS OF BOTH EDITIONS holds of the coefficients of any.
use Rattle.std.specs.Prelude.{ℕ, ◌≤◌, ◌<◌, ◌≡◌, Bool, true, false, cond, leb}
use Rattle.std.proofs.Common.{le-leb}
use Rattle.std.proofs.lemmas.Bool.{lt-leb}
use Rattle.model.specs.Coefficients.{Coefficients, edition_one, edition_two, coefficients_of}

pub by_edition : (P : Coefficients → Type 0) → P edition_one → P edition_two → (edition : ℕ) → P (coefficients_of edition)
unfolding coefficients_of
by_edition P first second edition = by (leb edition 1)
  where
    by : (b : Bool) → P (cond b edition_one edition_two)
    by true = first
    by false = second

-- and which it is
pub first_edition : (edition : ℕ) → edition ≤ 1 → coefficients_of edition ≡ edition_one
unfolding coefficients_of
first_edition edition h = rw (le-leb edition 1 h)

pub second_edition : (edition : ℕ) → 1 < edition → coefficients_of edition ≡ edition_two
unfolding coefficients_of
second_edition edition h = rw (lt-leb edition 1 h)
