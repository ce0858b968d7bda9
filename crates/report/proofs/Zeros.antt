-- A REPORT OF ZEROS: the under-estimate of a valid site is above 0 at every depth (`predicted_positive`), so no site of an accepted
-- project has a predicted high of 0.
use Rattle.std.specs.Prelude.{Ok}
use Rattle.std.specs.Prelude.{ℕ, zero, suc, ◌+◌, ◌*◌, ◌<◌, ◌≡◌, List, [], ◌∷◌, length, get_or}
use Rattle.std.proofs.Common.{lit≤, arith}
use Rattle.estimate.specs.Fraction.{Fraction, fraction, ◌÷◌, millionths, ◌<ᶠ◌}
use Rattle.site.specs.declared.values.Site.{Site}
use Rattle.site.specs.Writing.{Valid}
use Rattle.header.specs.Header.{edition_in, header_in}
use Rattle.header.proofs.HeaderLaws.{limits_of}
use Rattle.prediction.specs.Editions.{edition_rated}
use Rattle.prediction.specs.Positive.{predicted_positive}
use Rattle.project.specs.File.{years_in, scan_file, sites_in}
use Rattle.project.proofs.SitesRead.{accepted_sites}
use Rattle.report.specs.Report.{coefficients_in}
use Rattle.report.specs.Demand.{Demand, site_at}
use Rattle.report.specs.DemandLaws.{AllValid}
use Rattle.report.specs.Accepted.{all_valid}
use Rattle.report.proofs.NeededParts.{site_predicted_high_too_low}

valid_at : (edition years : ℕ) (sites : List Site) → AllValid edition years sites → (i : ℕ) → i < length sites → Valid edition years (site_at sites i)
valid_at edition years [] v i h = absurd (omega arith)
valid_at edition years (site ∷ sites) v zero h = v.0
valid_at edition years (site ∷ sites) v (suc i) h = valid_at edition years sites v.1 i (omega arith)

below_positive : (x : ℕ) (y : Fraction) → x ≡ 0 → 0 < y.num → millionths x <ᶠ y
unfolding millionths ◌÷◌ fraction
below_positive x y e h = rw e (record { cross = omega arith })

module _ (bytes report : List ℕ) (n : ℕ) (accepted : scan_file bytes ≡ Ok n) where
  pub high_of_zero : (i : ℕ) → i < n → get_or report (4 * i + 1) 0 ≡ 0 → Demand bytes report → ⊥
  high_of_zero i h e =
      let facts = accepted_sites bytes n accepted in
      let inside : i < length (sites_in bytes) = omega (arith, facts.sites.count_is) in
      let valid = valid_at (edition_in bytes) (years_in bytes) (sites_in bytes) (all_valid (edition_in bytes) (years_in bytes) (sites_in bytes) facts.sites.valid) i inside in
      site_predicted_high_too_low bytes report i inside 1 (lit≤ tt)
      (below_positive _ _ e
      (predicted_positive (coefficients_in bytes) (edition_rated (edition_in bytes)) (header_in bytes)
      (limits_of (header_in bytes) facts.limits) (site_at (sites_in bytes) i) valid 1))

  pub report_of_zeros : 0 < n → ((i : ℕ) → get_or report i 0 ≡ 0) → Demand bytes report → ⊥
  report_of_zeros h zeros = high_of_zero 0 h (zeros 1)
