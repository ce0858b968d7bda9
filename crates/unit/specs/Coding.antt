-- A site as numbers and back: the numbers of a valid site are read as that site, and a site that is outside no range has the
-- numbers that it was read from.
use Rattle.std.specs.Prelude.{Option, None, Some}
use Rattle.std.specs.Prelude.{◌≡◌, Bool, true, ℕ, ◌<◌, ltb}
use Rattle.std.proofs.Common.{le-ltb, ne_eqb}
use native.Mathlib.Omega.{arith}
use Rattle.unit.specs.SiteNumbers.{slot_from}

-- a larger number stands for one that no rule takes
pub too_large : (number : ℕ) → 65536 < number → slot_from number ≡ Some 65535
too_large number h = rw (le-ltb number 65536 (omega arith), ne_eqb number 65536 (λ e. omega arith))

-- a slot that holds no number above 65,534, which a number that is no code stands for
abbrev pub low : Option ℕ → Bool
low None = true
low (Some value) = ltb value 65535
