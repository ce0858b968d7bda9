-- The history: "Expected = N(1 + kO)/(1 + kN)", for any fraction k, and a site's estimates of it.
use Rattle.std.specs.Prelude.{Option, None, Some}
use Rattle.std.specs.Prelude.{ℕ, ◌+◌, ◌*◌}
use Rattle.std.proofs.Common.{mul-pos, arith}
use Rattle.estimate.specs.Fraction.{Fraction, millionths}
use Rattle.wide.specs.Scaling.{floor, ceiling}
use Rattle.site.specs.declared.values.Site.{Site}
use Rattle.header.specs.declared.Header.{Header}
use Rattle.model.specs.Coefficients.{Coefficients}
use Rattle.site.specs.Numbers.{number}
use Rattle.model.specs.Predicted.{predicted_under, predicted_over}

-- with N = n / m and k = a / b it is n (b + a O) / (b m + a n)
unfoldable pub weighed : (k : Fraction) (observed : ℕ) (N : Fraction) → Fraction
weighed k observed N = record {
  num = N.num * (k.den + k.num * observed);
  den = k.den * N.den + k.num * N.num;
  pos = omega (arith, mul-pos k.pos N.pos);
}

-- "Expected low is the formula at predicted low, rounded down; expected high at predicted high, rounded up", in millionths
unfoldable pub expected_low : (k : Fraction) (observed low : ℕ) → ℕ
expected_low k observed low = let x = weighed k observed (millionths low) in floor 1000000 x.num x.den

unfoldable pub expected_high : (k : Fraction) (observed high : ℕ) → ℕ
expected_high k observed high = let x = weighed k observed (millionths high) in ceiling 1000000 x.num x.den

-- "its estimates are this at N's estimates, and N's own where there is no history"; a standing 0 is a history
abbrev pub with_history : Fraction → Option ℕ → Fraction → Fraction
with_history k None N = N
with_history k (Some observed) N = weighed k observed N

-- k of a site
abbrev pub overdispersion_of : Coefficients → Site → Fraction
overdispersion_of c site = c.overdispersion site.kind (number site.length)

unfoldable pub expected_under : Coefficients → Header → Site → ℕ → Fraction
expected_under c header site d = with_history (overdispersion_of c site) site.observed (predicted_under c header site d)

unfoldable pub expected_over : Coefficients → Header → Site → ℕ → Fraction
expected_over c header site d = with_history (overdispersion_of c site) site.observed (predicted_over c header site d)
