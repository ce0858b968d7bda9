-- Driveways, two-way left-turn lane and passing lane of a segment.
use Rattle.std.specs.Prelude.{ℕ, ◌+◌, ◌-◌, ◌*◌, cond, ◌&&◌, [], ◌∷◌, get_or, ltb, leb, eqb}
use Rattle.estimate.specs.Fraction.{Fraction, ◌÷◌, whole}
use Rattle.model.specs.Coefficients.{Coefficients}

-- "Q = 0.0047 DD + 0.0024 DD²", in ten-thousandths
abbrev pub access_density : ℕ → ℕ
access_density driveways = 47 * driveways + 24 * (driveways * driveways)

-- "Two-way lane present and DD at least 5: 1 − 0.35 P, P = Q/(1.199 + Q) .. else 1": over 1.199 + Q, 1.199 + 0.65 Q is left
unfoldable pub two_way_lane : (present driveways : ℕ) → Fraction
two_way_lane present driveways =
    cond (eqb present 1 && leb 5 driveways)
    ((1199000 + 65 * access_density driveways) ÷ (1199000 + 100 * access_density driveways))
    (whole 1)

-- "Passing: 1, 0.75, 0.65", in hundredths
unfoldable pub passing : ℕ → Fraction
passing kind = get_or (100 ∷ 75 ∷ 65 ∷ []) kind 100 ÷ 100

-- "(0.2 + c·DD)/(0.2 + 5c), c = 0.05 − 0.005 ln A" at a value of ln A, both sides times 1,000: c is 50 − 5 ln A thousandths, and
-- over the denominator of ln A it is 50 den − 5 num
abbrev pub driveway_slope : Fraction → ℕ
driveway_slope ln = 50 * ln.den - 5 * ln.num

abbrev pub driveway_at : (constant driveways : ℕ) → Fraction → Fraction
driveway_at constant driveways ln =
    (constant * ln.den + driveways * driveway_slope ln) ÷ (constant * ln.den + 5 * driveway_slope ln)

-- the part at a value of ln A: 1 below the edition's fewest driveways
unfoldable pub driveway_part : Coefficients → ℕ → Fraction → Fraction
driveway_part k driveways ln = cond (ltb driveways k.fewest_driveways) (whole 1) (driveway_at k.driveway_constant driveways ln)
