-- A bracket of whole numbers carried through a list of factors: the low rounded down at each, the high rounded up.
use Rattle.std.specs.Prelude.{Option, None, Some, ℕ, ◌+◌, ◌*◌, ◌≤◌, List, [], ◌∷◌}
use Rattle.estimate.specs.Fraction.{Fraction}
use Rattle.wide.specs.Scaling.{scaled_down, scaled_up, ceiling}
use Rattle.bracket.specs.Bracket.{RelativeWidth}
use Rattle.bracket.specs.declared.Bracket.{Bracket}

-- what follows a step, where both its ends fit
abbrev pub onward : Option ℕ → Option ℕ → (ℕ → ℕ → Option (ℕ × ℕ)) → Option (ℕ × ℕ)
onward (Some x) (Some y) k = k x y
onward (Some x) None k = None
onward None s k = None

abbrev pub carried : ℕ → ℕ → List Bracket → Option (ℕ × ℕ)
carried low high [] = Some (low, high)
carried low high (f ∷ fs) =
    onward (scaled_down low f.low_num f.low_den) (scaled_up high f.high_num f.high_den) (λ x y. carried x y fs)

-- from what earlier factors answered: what did not fit stays so
abbrev pub carried_on : Option (ℕ × ℕ) → List Bracket → Option (ℕ × ℕ)
carried_on (Some (low, high)) fs = carried low high fs
carried_on None fs = None

-- a list's factors taken one at a time, as code goes through them
abbrev pub one_by_one : Option (ℕ × ℕ) → List Bracket → Option (ℕ × ℕ)
one_by_one a [] = a
one_by_one a (f ∷ fs) = one_by_one (carried_on a (f ∷ [])) fs

-- each factor's low is at most the fraction beside it
abbrev pub LowsBelow : List Bracket → List Fraction → Type 0
LowsBelow [] [] = Unit
LowsBelow [] (x ∷ xs) = ⊥
LowsBelow (f ∷ fs) [] = ⊥
LowsBelow (f ∷ fs) (x ∷ xs) = (f.low_num * x.den ≤ x.num * f.low_den) × LowsBelow fs xs

-- each factor's high is at least the fraction beside it
abbrev pub HighsAbove : List Bracket → List Fraction → Type 0
HighsAbove [] [] = Unit
HighsAbove [] (x ∷ xs) = ⊥
HighsAbove (f ∷ fs) [] = ⊥
HighsAbove (f ∷ fs) (x ∷ xs) = (x.num * f.high_den ≤ f.high_num * x.den) × HighsAbove fs xs

-- the numerator and the denominator of n / d times a list of fractions
abbrev pub product_num : ℕ → List Fraction → ℕ
product_num n [] = n
product_num n (x ∷ xs) = product_num (n * x.num) xs

abbrev pub product_den : ℕ → List Fraction → ℕ
product_den d [] = d
product_den d (x ∷ xs) = product_den (d * x.den) xs

-- each factor's ends are in order, and it is at most r / R wide, with an r of its own
abbrev pub Widths : (R : ℕ) → List Bracket → List ℕ → Type 0
Widths R [] [] = Unit
Widths R [] (r ∷ rs) = ⊥
Widths R (f ∷ fs) [] = ⊥
Widths R (f ∷ fs) (r ∷ rs) = (f.low_num * f.high_den ≤ f.high_num * f.low_den) × RelativeWidth R r f × Widths R fs rs

-- the absolute part of a width after a list of factors: scaled up by each, and 2 more for the two roundings
abbrev pub absolute_part : ℕ → List Bracket → ℕ
absolute_part a [] = a
absolute_part a (f ∷ fs) = absolute_part (ceiling a f.high_num f.high_den + 2) fs

-- and the relative part: they add up
abbrev pub relative_part : ℕ → List ℕ → ℕ
relative_part r [] = r
relative_part r (p ∷ ps) = relative_part (r + p) ps
