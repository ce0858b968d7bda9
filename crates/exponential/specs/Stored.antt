-- The stored e^i for whole i from 0 to 14: what each is, and what a table of them is.
use Rattle.std.specs.Prelude.{ℕ, ◌<◌, ◌≡◌, List, get_or}
use Rattle.estimate.specs.Fraction.{whole}
use Rattle.estimate.specs.Exponential.{exp_under}
use Rattle.wide.specs.Scaling.{floor}
use Rattle.exponential.specs.Scale.{scale}

-- e^i at the scale: its under-estimate at depth 20, rounded down
unfoldable pub stored_exp : ℕ → ℕ
stored_exp i = floor scale (exp_under 20 (whole i)).num (exp_under 20 (whole i)).den

-- a table of the stored numbers, as `stored_exponentials` makes it and a call that is lent it asks
pub record StoredExponentials (table : List ℕ) : Type 0 where
  pub entry : (i : ℕ) → i < 15 → get_or table i 0 ≡ stored_exp i
