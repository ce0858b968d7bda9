-- The bracket of A^(p/q), and the answer of the call that makes it. With A = n m + r it is stored(n) * stored(m) * ((n m + r)/(n m))^(p/q).
use Rattle.std.specs.Prelude.{Option, ℕ, ◌*◌, ◌≤◌, ◌<◌, Bool, ◌≡◌, leb, ltb, eqb}
use Rattle.laws.specs.Table.{both}
use Rattle.estimate.specs.Power.{power_under, power_over}
use Rattle.wide.specs.Scaling.{floor, ceiling}
use Rattle.bracket.specs.Bracket.{Stands, RelativeWidth, power_width}
use Rattle.bracket.specs.Answer.{answer_where, AnswerPromised}
use Rattle.bracket.specs.declared.Bracket.{Bracket}
use Rattle.remainder.specs.Split.{first_factor, second_factor, split_rest}
use Rattle.remainder.specs.Remainder.{scale, remainder_low, remainder_high}
use Rattle.power.specs.Exponents.{place_of}
use Rattle.power.specs.Stored.{billion, stored_low, stored_high}

-- the low end in billionths, rounded down twice
unfoldable pub power_low : (A p q : ℕ) → ℕ
power_low A p q =
    floor (floor (stored_low (first_factor A) p q) (stored_low (second_factor A) p q) billion)
    (remainder_low (first_factor A * second_factor A) (split_rest A) p q) scale

-- the high end, rounded up twice
unfoldable pub power_high : (A p q : ℕ) → ℕ
power_high A p q =
    ceiling (ceiling (stored_high (first_factor A) p q) (stored_high (second_factor A) p q) billion)
    (remainder_high (first_factor A * second_factor A) (split_rest A) p q) scale

unfoldable pub power_bracket : (A p q : ℕ) → Bracket
power_bracket A p q = record { low_num = power_low A p q; low_den = billion; high_num = power_high A p q; high_den = billion }

-- THE PUBLIC CALL

-- the range stated for a bracket of a power: a base from 1 to 20,000 and a stored exponent, spelled in hundredths
pub record PowerRange (base num den : ℕ) : Type 0 where
  pub from_one : 1 ≤ base
  pub to_20000 : base ≤ 20000
  pub hundredths : den ≡ 100
  pub stored : place_of num < 5

-- the same as a test
unfoldable pub in_range : (base num den : ℕ) → Bool
in_range base num den = both (leb 1 base) (both (leb base 20000) (both (eqb den 100) (ltb (place_of num) 5)))

-- what the call answers
unfoldable pub power_answer : (base num den : ℕ) → Option Bracket
power_answer base num den = answer_where (in_range base num den) (power_bracket base num den)

-- "brackets of the shared arithmetic, which stand to the estimates as a pair does and have a stated width"
pub record StandingPower (A p q : ℕ) (b : Bracket) : Type 0 where
  pub stands : Stands b (λ d. power_under d A p q) (λ d. power_over d A p q)
  pub narrow : RelativeWidth power_width 1 b

-- a bracket stands; no bracket is answered outside the range only
abbrev pub PowerStands : (base num den : ℕ) → Option Bracket → Type 0
PowerStands base num den = AnswerPromised (StandingPower base num den) (PowerRange base num den → ⊥)
