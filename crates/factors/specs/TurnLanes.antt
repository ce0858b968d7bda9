-- A table of turn-lane factors as the code holds it: the edition's rows, each filled up with ones to none, one and two lanes.
use Rattle.std.specs.Prelude.{ℕ, ◌≤◌, ◌≡◌, List, [], ◌∷◌, map, get_or, T, eqb}
use Rattle.std.proofs.Common.{arith}
use Rattle.laws.specs.Table.{all_below, agree_below_both}
use Rattle.estimate.specs.Fraction.{fraction, ◌÷◌}
use Rattle.bracket.specs.declared.Ratio.{Ratio}
use Rattle.bracket.specs.Ratio.{coded}
use Rattle.model.specs.Coefficients.{at_lanes}

-- a factor of a table, in thousandths
abbrev factor_in : List (List ℕ) → (kind lanes : ℕ) → ℕ
factor_in table kind lanes = get_or (get_or table kind []) lanes 0

abbrev pub ratio_in : List (List ℕ) → (kind lanes : ℕ) → Ratio
ratio_in table kind lanes = record { num = factor_in table kind lanes; den = 1000 }

-- an edition's rows, filled up
abbrev pub filled : List (List ℕ) → List (List ℕ)
filled rows = map (λ row. get_or row 0 1000 ∷ get_or row 1 1000 ∷ get_or row 2 1000 ∷ []) rows

-- by one test over every kind and count of lanes
pub turn_lanes_lem : (rows : List (List ℕ)) → T (all_below (λ i. all_below (λ j. eqb (factor_in (filled rows) i j) (at_lanes rows i j)) 3) 4)
    → (kind lanes : ℕ) → (kind ≤ 3) × (lanes ≤ 2) → ratio_in (filled rows) kind lanes ≡ coded (at_lanes rows kind lanes ÷ 1000)
unfolding ◌÷◌ fraction
turn_lanes_lem rows t kind lanes h = rw (agree_below_both (factor_in (filled rows)) (at_lanes rows) 4 3 t kind lanes (omega arith) (omega arith))
