-- Curve, superelevation and grade of a segment. The grade's factor is the edition's.
use Rattle.std.specs.Prelude.{ℕ, ◌+◌, ◌-◌, ◌*◌, cond, ltb, leb}
use Rattle.estimate.specs.Fraction.{Fraction, ◌÷◌, whole}

-- "Curve: (1.55 Lc + 80.2/R − 0.012 S) / (1.55 Lc), Lc in miles, S half the spiral ends; below 1 it is 1 (house)": both sides
-- times 100,000 R, with Lc in thousandths of a mile
unfoldable pub curve : (length radius spirals : ℕ) → Fraction
curve length radius spirals =
    cond (ltb 8020000 (600 * spirals * radius)) (whole 1)
    ((155 * length * radius + (8020000 - 600 * spirals * radius)) ÷ (155 * length * radius))

-- "D in whole units: under 0.01, 1; to 0.02, 1 + 6(D − 0.01); above, 1.06 + 3(D − 0.02)", D in thousandths
unfoldable pub superelevation : ℕ → Fraction
superelevation deficiency =
    cond (ltb deficiency 10) (whole 1)
    (cond (leb deficiency 20) ((940 + 6 * deficiency) ÷ 1000) ((1000 + 3 * deficiency) ÷ 1000))
