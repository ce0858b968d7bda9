-- The bracket of the driveway part from a bracket of ln A: the model's value at each end of it.
use Rattle.std.specs.Prelude.{ℕ, ◌+◌, cond, ltb}
use Rattle.estimate.specs.Fraction.{Fraction, ◌÷◌, whole}
use Rattle.bracket.specs.declared.Bracket.{Bracket}
use Rattle.bracket.specs.Ratio.{coded, spanned}
use Rattle.logarithm.specs.Logarithm.{logarithm_bracket}
use Rattle.model.specs.Access.{driveway_at}

-- the ends of a bracket as fractions
abbrev pub low_end : Bracket → Fraction
low_end b = b.low_num ÷ b.low_den

abbrev pub high_end : Bracket → Fraction
high_end b = b.high_num ÷ b.high_den

-- the ends where the part rises with ln A, and where it falls: there its low is at the high of ln A
abbrev pub rising : (constant driveways : ℕ) → Bracket → Bracket
rising constant driveways ln = spanned (coded (driveway_at constant driveways (low_end ln))) (coded (driveway_at constant driveways (high_end ln)))

abbrev pub falling : (constant driveways : ℕ) → Bracket → Bracket
falling constant driveways ln = spanned (coded (driveway_at constant driveways (high_end ln))) (coded (driveway_at constant driveways (low_end ln)))

-- "(0.2 + c·DD)/(0.2 + 5c), c = 0.05 − 0.005 ln A" rises with ln A below 5 driveways and falls from 5 on
unfoldable pub driveway_bracket : (constant fewest driveways : ℕ) → Bracket → Bracket
driveway_bracket constant fewest driveways ln =
    cond (ltb driveways fewest)
    (spanned (coded (whole 1)) (coded (whole 1)))
    (cond (ltb driveways 5) (rising constant driveways ln) (falling constant driveways ln))

-- at a traffic
abbrev pub driveways_of : (constant fewest driveways traffic : ℕ) → Bracket
driveways_of constant fewest driveways traffic = driveway_bracket constant fewest driveways (logarithm_bracket traffic)

-- its bound: 50 driveways a mile where ln A is 0, over thousandths
abbrev pub driveways_most : (constant : ℕ) → Fraction
driveways_most constant = (constant + 2500) ÷ (constant + 250)
