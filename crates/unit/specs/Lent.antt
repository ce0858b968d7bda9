-- Values left in a lent run of numbers, a bracket's among them, and the number that the call answers. Standing and width of the
-- answers that the exported calls name are laws of their crates: `power_answer_stands`, `logarithm_answer_stands`,
-- `exponential_stands` and `exponential_negative_stands`.
use Rattle.bracket.specs.declared.Bracket.{Bracket}
use Rattle.std.specs.Prelude.{Option, None, Some}
use Rattle.std.specs.Prelude.{ℕ, ◌≤◌, ◌≡◌, refl, cond, List, [], ◌∷◌, length, leb}
use Rattle.std.proofs.Common.{sym, ◌∙◌, arith, leb-true}
use Rattle.laws.specs.Lent.{laid, laid_over}
use Rattle.laws.specs.Truth.{chosen}

-- the number of a call that leaves an answer's values: the answer's own, and 10 where they do not fit, tried last. A refusal has
-- no values
abbrev pub number_within : ℕ → List ℕ → ℕ → ℕ
number_within number values room = cond (leb (length values) room) number 10

-- an answer's number and values lent: the number that the call answers, and the run afterwards
pub record LendsValues (number : ℕ) (values before afterwards : List ℕ) (answered : ℕ) : Type 0 where
  pub number_is : answered ≡ number_within number values (length before)
  pub run_is : afterwards ≡ laid values before

-- a call that answers 0 has an answer of 0, and all of its values have space
pub zero_lent : {number : ℕ} {values before afterwards : List ℕ} → LendsValues number values before afterwards 0
    → (number ≡ 0) × (length values ≤ length before) × (afterwards ≡ laid_over values before)
zero_lent {number} {values} {before} l =
    let held = chosen (leb (length values) (length before)) number 10 0 (λ e. omega arith) (sym l.number_is) in
    (held.1, leb-true _ _ held.0, l.run_is ∙ rw held.0 refl)

-- the two fractions, low before high, each its numerator before its denominator
abbrev pub bracket_values : Option Bracket → List ℕ
bracket_values None = []
bracket_values (Some b) = b.low_num ∷ b.low_den ∷ b.high_num ∷ b.high_den ∷ []

-- "an argument outside the range stated for such a bracket is answered as that": 8
abbrev pub bracket_number : Option Bracket → ℕ
bracket_number None = 8
bracket_number (Some b) = 0

-- the answer of a bracket lent
abbrev pub Lends : (answer : Option Bracket) (before afterwards : List ℕ) (number : ℕ) → Type 0
Lends answer before afterwards number = LendsValues (bracket_number answer) (bracket_values answer) before afterwards number
