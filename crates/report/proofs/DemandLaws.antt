-- Laws of DemandLaws in specs/.
use Rattle.std.specs.Prelude.{ℕ, zero, suc, ◌+◌, ◌<◌, length, get_or}
use Rattle.std.proofs.Common.{arith}
use mathlib.Core.List.{List, [], ◌∷◌, ◌++◌, map}
use Rattle.std.proofs.Math.Dec.{lit≤}
use Rattle.estimate.specs.Fraction.{Fraction, fraction, ◌÷◌, whole, millionths, ◌+ᶠ◌}
use Rattle.estimate.specs.FractionLaws.{=ᶠ-≤ᶠ, =ᶠ-≥ᶠ}
use Rattle.estimate.specs.Standing.{Between, smaller_low_right, larger_high_right, low_sum_right, high_sum_right}
use Rattle.site.specs.declared.values.Site.{Site}
use Rattle.site.specs.Writing.{Valid}
use Rattle.header.specs.declared.Header.{Header}
use Rattle.model.specs.Coefficients.{Coefficients}
use Rattle.model.specs.StatedWidths.{width_parts, expected_each, crashes_counted, added_up, count_over, sites_counted_in}
use Rattle.model.specs.CountedWidth.{CountedWidth, none_counted, counted_adds, counted_narrow}
use Rattle.prediction.specs.PredictedLaws.{millionths_add}
use Rattle.line.specs.declared.Line.{Line}
use Rattle.line.specs.Line.{site_line}
use Rattle.line.specs.Stands.{LineStands}
use Rattle.report.specs.Report.{numbers_of, all_numbers, no_line, total_of}
use Rattle.report.specs.Demand.{line_at, site_at, TotalsStand}
use Rattle.report.specs.DemandLaws.{AllValid, LineCounted, length_lines, line_of_report, total_of_report}

-- two figures between their numbers have a sum between the sums of these; a sum of none is between 0 and 0
between_adds : (a b x y : ℕ) {f g u v : ℕ → Fraction} → Between (millionths a) (millionths b) f g → Between (millionths x) (millionths y) u v
    → Between (millionths (a + x)) (millionths (b + y)) (λ d. f d +ᶠ u d) (λ d. g d +ᶠ v d)
between_adds a b x y h k = record {
  low_right = smaller_low_right (=ᶠ-≤ᶠ (millionths_add a x)) (low_sum_right h.low_right k.low_right);
  high_right = larger_high_right (=ᶠ-≥ᶠ (millionths_add b y)) (high_sum_right h.high_right k.high_right);
}

none_between : Between (millionths 0) (millionths 0) (λ d. whole 0) (λ d. whole 0)
unfolding millionths ◌÷◌ whole fraction
none_between = record { low_right = record { at = λ d l. record { cross = lit≤ tt } }; high_right = record { at = λ d l. record { cross = lit≤ tt } } }

-- THE REPORT of valid sites, whatever follows it, where the line of each stands and is as wide as its sites and crashes count
module _ (c : Coefficients) (header : Header)
    (stands : (site : Site) → Valid header.edition header.years site → LineStands c header site (site_line c header site))
    (counted : (site : Site) → Valid header.edition header.years site → LineCounted c header site) where
  abbrev lines_of : List Site → List Line
  lines_of sites = map (site_line c header) sites

  each_stands : (sites : List Site) → AllValid header.edition header.years sites → (i : ℕ) → i < length sites
      → LineStands c header (site_at sites i) (get_or (lines_of sites) i no_line)
  each_stands [] v i h = absurd (omega arith)
  each_stands (site ∷ sites) v zero h = stands site v.0
  each_stands (site ∷ sites) v (suc i) h = each_stands sites v.1 i (omega arith)

  -- the width of the totals before the crashes are rounded up
  totals_counted : (sites : List Site) → AllValid header.edition header.years sites → let total = total_of (lines_of sites) in
      CountedWidth width_parts expected_each (sites_counted_in header.years sites) (added_up (crashes_counted c header.years) sites)
      total.expected_low total.expected_high
  unfolding total_of added_up count_over
  totals_counted [] v = none_counted width_parts expected_each
  totals_counted (site ∷ sites) v = counted_adds width_parts expected_each _ _ _ _ _ _ _ _ (counted site v.0) (totals_counted sites v.1)

  pub totals_stand : (sites : List Site) → AllValid header.edition header.years sites → TotalsStand c header sites (total_of (lines_of sites))
  unfolding total_of added_up count_over
  totals_stand [] v = record {
    predicted_between = none_between;
    expected_between = none_between;
    predicted_in_order = lit≤ tt;
    expected_in_order = lit≤ tt;
    predicted_narrow = record { width = lit≤ tt };
    expected_narrow = counted_narrow width_parts expected_each _ _ _ _ (totals_counted [] v);
  }
  totals_stand (site ∷ sites) v =
      let s = stands site v.0 in
      let r = totals_stand sites v.1 in
      record {
        predicted_between = between_adds _ _ _ _ s.predicted_between r.predicted_between;
        expected_between = between_adds _ _ _ _ s.expected_between r.expected_between;
        predicted_in_order = omega (arith, s.predicted_in_order, r.predicted_in_order);
        expected_in_order = omega (arith, s.expected_in_order, r.expected_in_order);
        predicted_narrow = record { width = omega (arith, s.predicted_narrow.width, r.predicted_narrow.width) };
        expected_narrow = counted_narrow width_parts expected_each _ _ _ _ (totals_counted (site ∷ sites) v);
      }

  module _ (sites : List Site) (valid : AllValid header.edition header.years sites) (rest : List ℕ) where
    abbrev numbers : List ℕ
    numbers = all_numbers (lines_of sites) ++ (numbers_of (total_of (lines_of sites)) ++ rest)

    pub report_each : (i : ℕ) → i < length sites → LineStands c header (site_at sites i) (line_at numbers i)
    report_each i h =
        rw (line_of_report (lines_of sites) (numbers_of (total_of (lines_of sites)) ++ rest) i (omega (arith, length_lines c header sites)))
        (each_stands sites valid i h)

    pub report_totals : TotalsStand c header sites (line_at numbers (length sites))
    report_totals =
        rw (← length_lines c header sites, total_of_report (lines_of sites) (total_of (lines_of sites)) rest) (totals_stand sites valid)
