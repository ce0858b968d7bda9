-- Laws of NeededParts in specs/.
use Rattle.std.specs.Prelude.{Some}
use Rattle.std.specs.Prelude.{ℕ, ◌+◌, ◌*◌, ◌≤◌, ◌<◌, ◌≡◌, true, false, cond, ◌⊎◌, List, length, get_or}
use Rattle.std.proofs.Common.{arith}
use Rattle.wide.specs.Scaling.{ceiling}
use Rattle.estimate.specs.Fraction.{fraction, ◌÷◌, whole, millionths, ◌≤ᶠ◌, ◌<ᶠ◌}
use Rattle.estimate.specs.FractionLaws.{not-≤ᶠ-and-<ᶠ, <ᶠ-≤ᶠ-trans, ≤ᶠ-<ᶠ-trans}
use Rattle.site.specs.declared.values.Site.{Site}
use Rattle.header.specs.Header.{edition_in, header_in}
use Rattle.site.specs.Yearly.{yearly}
use Rattle.site.specs.Numbers.{number}
use Rattle.model.specs.Predicted.{predicted_under, predicted_over}
use Rattle.model.specs.Expected.{expected_under, expected_over}
use Rattle.model.specs.StatedWidths.{sites_counted}
use Rattle.model.specs.CrashCounts.{sites_over, crashes_over}
use Rattle.model.proofs.CrashCounts.{sites_over_lem, counted_at_most}
use Rattle.line.proofs.NeededParts as line
use Rattle.project.specs.File.{years_in, sites_in}
use Rattle.report.specs.Report.{coefficients_in}
use Rattle.report.specs.Demand.{Demand, site_at, sum_of_sites}

-- ONE SITE'S LINE, the numbers from 4 i on
module _ (bytes report : List ℕ) (i : ℕ) (h : i < length (sites_in bytes)) where
  abbrev site : Site
  site = site_at (sites_in bytes) i

  abbrev predicted_low : ℕ
  predicted_low = get_or report (4 * i) 0

  abbrev predicted_high : ℕ
  predicted_high = get_or report (4 * i + 1) 0

  abbrev expected_low : ℕ
  expected_low = get_or report (4 * i + 2) 0

  abbrev expected_high : ℕ
  expected_high = get_or report (4 * i + 3) 0

  abbrev Fails : Type 0
  Fails = Demand bytes report → ⊥

  pub site_predicted_low_too_high : (d : ℕ) → 1 ≤ d → predicted_over (coefficients_in bytes) (header_in bytes) site d <ᶠ millionths predicted_low → Fails
  site_predicted_low_too_high d k l m = line.predicted_low_too_high _ _ _ _ d k l (m.each i h)

  pub site_predicted_high_too_low : (d : ℕ) → 1 ≤ d → millionths predicted_high <ᶠ predicted_under (coefficients_in bytes) (header_in bytes) site d → Fails
  site_predicted_high_too_low d k l m = line.predicted_high_too_low _ _ _ _ d k l (m.each i h)

  pub site_expected_low_too_high : (d : ℕ) → 1 ≤ d → expected_over (coefficients_in bytes) (header_in bytes) site d <ᶠ millionths expected_low → Fails
  site_expected_low_too_high d k l m = line.expected_low_too_high _ _ _ _ d k l (m.each i h)

  pub site_expected_high_too_low : (d : ℕ) → 1 ≤ d → millionths expected_high <ᶠ expected_under (coefficients_in bytes) (header_in bytes) site d → Fails
  site_expected_high_too_low d k l m = line.expected_high_too_low _ _ _ _ d k l (m.each i h)

  pub site_predicted_exchanged : predicted_high < predicted_low → Fails
  site_predicted_exchanged l m = line.predicted_exchanged _ _ _ _ l (m.each i h)

  pub site_expected_exchanged : expected_high < expected_low → Fails
  site_expected_exchanged l m = line.expected_exchanged _ _ _ _ l (m.each i h)

  -- a site with one traffic, and a site with a traffic for each of Y years
  pub site_predicted_too_wide : yearly site ≡ false → 1000000 * (predicted_low + 4) + predicted_high < 1000000 * predicted_high → Fails
  site_predicted_too_wide plain l m = line.predicted_too_wide _ _ _ _ plain l (m.each i h)

  pub yearly_site_predicted_too_wide : yearly site ≡ true → 1000000 * (predicted_low + 4 * years_in bytes) + predicted_high < 1000000 * predicted_high → Fails
  yearly_site_predicted_too_wide each l m = line.yearly_predicted_too_wide _ _ _ _ each l (m.each i h)

  -- in edition 1 and at a crossing each crash counts once
  module _ (once : (edition_in bytes ≤ 1) ⊎ (site.kind ≡ 0 → ⊥)) where
    pub site_expected_too_wide : yearly site ≡ false
        → 1000000 * (expected_low + 8 * (1 + number site.observed)) + expected_high < 1000000 * expected_high → Fails
    site_expected_too_wide plain l m = line.expected_too_wide _ _ _ _ once plain l (m.each i h)

    pub yearly_site_expected_too_wide : yearly site ≡ true
        → 1000000 * (expected_low + 8 * (years_in bytes + years_in bytes * number site.observed)) + expected_high < 1000000 * expected_high → Fails
    yearly_site_expected_too_wide each l m = line.yearly_expected_too_wide _ _ _ _ once each l (m.each i h)

  -- on a segment of edition 2, of length L, (L + 236) / L times, rounded up once
  module _ (later : 1 < edition_in bytes) (segment : site.kind ≡ 0) (long : 0 < number site.length) where
    pub segment_expected_too_wide : yearly site ≡ false
        → 1000000 * (expected_low + 8 * (1 + ceiling (number site.observed) (number site.length + 236) (number site.length))) + expected_high
        < 1000000 * expected_high → Fails
    segment_expected_too_wide plain l m = line.segment_expected_too_wide _ _ _ _ later segment long plain l (m.each i h)

    pub yearly_segment_expected_too_wide : yearly site ≡ true
        → 1000000 * (expected_low + 8 * (years_in bytes + ceiling (years_in bytes * number site.observed) (number site.length + 236) (number site.length)))
        + expected_high < 1000000 * expected_high → Fails
    yearly_segment_expected_too_wide each l m = line.yearly_segment_expected_too_wide _ _ _ _ later segment long each l (m.each i h)

  module _ (observed : ℕ) (history : site.observed ≡ Some observed) where
    pub site_expected_low_below_both : expected_low < predicted_low → expected_low < observed * 1000000 → Fails
    site_expected_low_below_both l k m = line.expected_low_below_both _ _ _ _ observed history l k (m.each i h)

    pub site_expected_low_above_both : predicted_low < expected_low → observed * 1000000 < expected_low → Fails
    site_expected_low_above_both l k m = line.expected_low_above_both _ _ _ _ observed history l k (m.each i h)

    pub site_expected_high_below_both : expected_high < predicted_high → expected_high < observed * 1000000 → Fails
    site_expected_high_below_both l k m = line.expected_high_below_both _ _ _ _ observed history l k (m.each i h)

    pub site_expected_high_above_both : predicted_high < expected_high → observed * 1000000 < expected_high → Fails
    site_expected_high_above_both l k m = line.expected_high_above_both _ _ _ _ observed history l k (m.each i h)

-- THE TOTALS, the four numbers after the lines of n sites
module _ (bytes report : List ℕ) where
  abbrev n : ℕ
  n = length (sites_in bytes)

  abbrev low : ℕ
  low = get_or report (4 * n) 0

  abbrev high : ℕ
  high = get_or report (4 * n + 1) 0

  abbrev low_expected : ℕ
  low_expected = get_or report (4 * n + 2) 0

  abbrev high_expected : ℕ
  high_expected = get_or report (4 * n + 3) 0

  abbrev Wrong : Type 0
  Wrong = Demand bytes report → ⊥

  pub total_predicted_low_too_high : (d : ℕ) → 1 ≤ d
      → sum_of_sites (predicted_over (coefficients_in bytes) (header_in bytes)) (sites_in bytes) d <ᶠ millionths low → Wrong
  total_predicted_low_too_high d k l m = not-≤ᶠ-and-<ᶠ (m.totals.predicted_between.low_right.at d k) l

  pub total_predicted_high_too_low : (d : ℕ) → 1 ≤ d
      → millionths high <ᶠ sum_of_sites (predicted_under (coefficients_in bytes) (header_in bytes)) (sites_in bytes) d → Wrong
  total_predicted_high_too_low d k l m = not-≤ᶠ-and-<ᶠ (m.totals.predicted_between.high_right.at d k) l

  pub total_expected_low_too_high : (d : ℕ) → 1 ≤ d
      → sum_of_sites (expected_over (coefficients_in bytes) (header_in bytes)) (sites_in bytes) d <ᶠ millionths low_expected → Wrong
  total_expected_low_too_high d k l m = not-≤ᶠ-and-<ᶠ (m.totals.expected_between.low_right.at d k) l

  pub total_expected_high_too_low : (d : ℕ) → 1 ≤ d
      → millionths high_expected <ᶠ sum_of_sites (expected_under (coefficients_in bytes) (header_in bytes)) (sites_in bytes) d → Wrong
  total_expected_high_too_low d k l m = not-≤ᶠ-and-<ᶠ (m.totals.expected_between.high_right.at d k) l

  pub total_predicted_exchanged : high < low → Wrong
  total_predicted_exchanged l m = omega (arith, m.totals.predicted_in_order)

  pub total_expected_exchanged : high_expected < low_expected → Wrong
  total_expected_exchanged l m = omega (arith, m.totals.expected_in_order)

  pub total_predicted_too_wide : 1000000 * (low + 4 * sites_over (years_in bytes) (sites_in bytes)) + high < 1000000 * high → Wrong
  total_predicted_too_wide l m = omega (arith, m.totals.predicted_narrow.width, sites_over_lem (years_in bytes) (sites_in bytes))

  -- more than 8 for each site and for each of t crashes, t being any whole number that is not below what the crashes count for
  pub total_expected_too_wide : (t : ℕ) → crashes_over (edition_in bytes) (years_in bytes) (sites_in bytes) ≤ᶠ whole t
      → 1000000 * (low_expected + 8 * (sites_over (years_in bytes) (sites_in bytes) + t)) + high_expected < 1000000 * high_expected → Wrong
  total_expected_too_wide t most l m =
      omega (
        arith,
        m.totals.expected_narrow.width,
        sites_over_lem (years_in bytes) (sites_in bytes),
        counted_at_most (edition_in bytes) (years_in bytes) (sites_in bytes) t most,
      )

-- ONE REPORT FOR TWO PROJECTS: none meets both demands where the first site's over-estimate in the one is below a millionths,
-- its under-estimate in the other above b, and a and b further apart than the width
order : (a b : ℕ) → millionths a <ᶠ millionths b → a < b
unfolding millionths ◌÷◌ fraction
order a b h = omega (arith, h.cross)

pub one_report_for_two : (bytes others report : List ℕ) → 0 < length (sites_in bytes) → 0 < length (sites_in others) → (d a b : ℕ) → 1 ≤ d
    → predicted_over (coefficients_in bytes) (header_in bytes) (site_at (sites_in bytes) 0) d <ᶠ millionths a
    → millionths b <ᶠ predicted_under (coefficients_in others) (header_in others) (site_at (sites_in others) 0) d
    → 1000000 * (a + 4 * cond (yearly (site_at (sites_in bytes) 0)) (years_in bytes) 1) + b < 1000000 * b → Demand bytes report → Demand others report → ⊥
unfolding sites_counted
one_report_for_two bytes others report h k d a b l over under apart m o =
    let first = m.each 0 h in
    let second = o.each 0 k in
    let low : get_or report 0 0 < a = order (get_or report 0 0) a (≤ᶠ-<ᶠ-trans (first.predicted_between.low_right.at d l) over) in
    let high : b < get_or report 1 0 = order b (get_or report 1 0) (<ᶠ-≤ᶠ-trans under (second.predicted_between.high_right.at d l)) in
    omega (arith, low, high, first.predicted_narrow.width)
