-- Laws of OneReport in specs/.
use Rattle.std.specs.Prelude.{ℕ, ◌*◌, ◌≤◌, ◌≡◌, refl, true, List, [], ◌∷◌}
use Rattle.std.proofs.Common.{mul-le-mul, mul-pos, arith, lit<, lit≤}
use Rattle.estimate.specs.Fraction.{fraction, ◌÷◌, whole, millionths, decimal, ◌<ᶠ◌, ◌+ᶠ◌, ◌*ᶠ◌}
use Rattle.estimate.specs.Power.{PowerValue}
use Rattle.estimate.proofs.Power.{power_value}
use Rattle.estimate.specs.SignedExponent.{SignedExponent, Plus, Minus, signed_exp_under, signed_exp_over}
use Rattle.exponential.specs.StoredBrackets.{exp_rounded}
use Rattle.exponential.proofs.StoredBracketLaws.{rounded_low-≤, rounded_high-≥}
use Rattle.site.specs.Rules.{years_known}
use Rattle.site.specs.Known.{signal, signal_read}
use Rattle.header.specs.Header.{header_of}
use Rattle.model.specs.Coefficients.{edition_one, coefficients_of}
use Rattle.model.specs.Crossings.{left_turn, right_turn, sight}
use Rattle.model.specs.Parts.{crossing_parts, crossing_factors}
use Rattle.model.specs.Predicted.{product_under, product_over, terms_of, sum_under, sum_over, predicted_under, predicted_over}
use Rattle.project.specs.File.{sites_from, sites_in}
use Rattle.report.specs.Demand.{Demand}
use Rattle.report.proofs.NeededParts.{one_report_for_two}
use Rattle.report.specs.OneReport.{signal_project}

one_site : (years high low : ℕ) → years_known years ≡ true → sites_in (signal_project years high low) ≡ signal ∷ []
unfolding sites_in sites_from
one_site years high low known = rw (signal_read 1 years refl known) refl

-- 10,000^0.60 is 251.1 and 1,000^0.20 is 3.9 at depth 1
major : PowerValue 1 10000 60 100 2511
major = power_value 1 10000 60 100 _ (lit< tt) (lit≤ tt) (lit< tt)

minor : PowerValue 1 1000 20 100 39
minor = power_value 1 1000 20 100 _ (lit< tt) (lit≤ tt) (lit< tt)

-- e^(-5.73) is from 0.003247 to 0.003248 there, and e^0 is 1
record Within (low high : ℕ) (x : SignedExponent) : Type 0 where
  least : low * (signed_exp_under 1 x).den ≤ (signed_exp_under 1 x).num * 1000000
  most : (signed_exp_over 1 x).num * 1000000 ≤ high * (signed_exp_over 1 x).den

within : (x : SignedExponent) → let b = exp_rounded 1000000 1 x in Within b.low_num b.high_num x
unfolding fraction
within x = record { least = (rounded_low-≤ 1000000 (lit< tt) 1 x).cross; most = (rounded_high-≥ 1000000 (lit< tt) 1 x).cross }

base : Within 3247 3248 (Minus 57300)
unfolding exp_rounded
base = within (Minus 57300)

no_skew : Within 1000000 1000000 (Plus 0)
unfolding exp_rounded
no_skew = within (Plus 0)

-- under 0.004 crashes, and over 200
few : predicted_over (coefficients_of 1) (header_of 1 1 1 1) signal 1 <ᶠ millionths 4000
unfolding predicted_over sum_over terms_of product_over crossing_parts crossing_factors coefficients_of edition_one
    decimal left_turn right_turn sight ◌*ᶠ◌ ◌+ᶠ◌ whole fraction ◌÷◌ millionths signal
few =
    let b = signed_exp_over 1 (Minus 57300) in
    let s = signed_exp_over 1 (Plus 0) in
    rw (major.over, minor.over) (record { cross = omega (arith, mul-le-mul no_skew.most base.most, mul-pos s.pos b.pos) })

many : millionths 200000000 <ᶠ predicted_under (coefficients_of 1) (header_of 1 10 9999 9999) signal 1
unfolding predicted_under sum_under terms_of product_under crossing_parts crossing_factors coefficients_of edition_one
    decimal left_turn right_turn sight ◌*ᶠ◌ ◌+ᶠ◌ whole fraction ◌÷◌ millionths signal
many =
    let b = signed_exp_under 1 (Minus 57300) in
    let s = signed_exp_under 1 (Plus 0) in
    rw (major.under, minor.under) (record { cross = omega (arith, mul-le-mul no_skew.least base.least, mul-pos s.pos b.pos) })

pub one_report_for_all : (report : List ℕ) → Demand (signal_project 1 0 1) report → Demand (signal_project 10 39 15) report → ⊥
unfolding signal
one_report_for_all report =
    one_report_for_two (signal_project 1 0 1) (signal_project 10 39 15) report
    (rw (one_site 1 0 1 refl) (lit< tt)) (rw (one_site 10 39 15 refl) (lit< tt)) 1 4000 200000000 (lit≤ tt)
    (rw (one_site 1 0 1 refl) few) (rw (one_site 10 39 15 refl) many) (rw (one_site 1 0 1 refl) (lit< tt))
