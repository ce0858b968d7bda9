-- Laws of LineLaws in specs/.
use Rattle.std.specs.Prelude.{Option, None, Some}
use Rattle.std.specs.Prelude.{ℕ, ◌+◌, ◌*◌, ◌≤◌, ◌<◌, ◌≡◌}
use Rattle.std.proofs.Common.{ap, mul-le-mul_left, mul-le-mul_right, le_of_mul-le-mul_right, arith}
use Rattle.estimate.specs.Fraction.{Fraction, millionths}
use Rattle.estimate.specs.Standing.{Between}
use Rattle.site.specs.declared.values.Site.{Site}
use Rattle.site.specs.Writing.{Valid}
use Rattle.header.specs.declared.Header.{Header}
use Rattle.header.specs.HeaderLaws.{HeaderWithin}
use Rattle.model.specs.Coefficients.{Coefficients, coefficients_of}
use Rattle.site.specs.Numbers.{number}
use Rattle.model.specs.Expected.{with_history, expected_low, expected_high, overdispersion_of, expected_under, expected_over}
use Rattle.model.proofs.ExpectedLaws.{expected_low_right, expected_high_right, expected_in_order, expected_width}
use Rattle.model.specs.StatedWidths.{width_parts, predicted_each, expected_each, sites_counted, crashes_counted}
use Rattle.model.specs.CountedWidth.{CountedWidth, counted_narrow}
use Rattle.model.specs.Predicted.{predicted_under, predicted_over}
use Rattle.bracket.specs.declared.Bounds.{Bounds}
use Rattle.prediction.specs.Pair.{predicted_pair}
use Rattle.prediction.specs.Kept.{Rated}
use Rattle.prediction.specs.Editions.{edition_rated}
use Rattle.prediction.specs.PredictedLaws.{PairStands}
use Rattle.prediction.proofs.PredictedLaws.{predicted_stands}
use Rattle.line.specs.declared.Line.{Line}
use Rattle.line.specs.Line.{expected_pair, site_line}
use Rattle.line.specs.Stands.{Amid, LineStands}
use Rattle.line.specs.Dispersion.{Weighs, Dispersed, weighs, edition_dispersed}
use Rattle.line.specs.LineLaws.{high_between, low_between}

-- WITH A HISTORY OR WITHOUT: what the expected pair keeps of a predicted pair that stands, where the site counts as n and its crashes
-- for a fraction
record ExpectedStands (k : Fraction) (slot : Option ℕ) (n : ℕ) (crashes : Fraction) (under over : ℕ → Fraction) (p e : Bounds) : Type 0 where
  between : Between (millionths e.low) (millionths e.high) (λ d. with_history k slot (under d)) (λ d. with_history k slot (over d))
  in_order : e.low ≤ e.high
  narrow : CountedWidth width_parts expected_each n crashes e.low e.high
  low_amid : (O : ℕ) → slot ≡ Some O → Amid p.low (O * 1000000) e.low
  high_amid : (O : ℕ) → slot ≡ Some O → Amid p.high (O * 1000000) e.high

number_of : (m O : ℕ) → ◌≡◌ {A = Option ℕ} (Some m) (Some O) → m ≡ O
number_of m O e = ap number e

-- without a history, the width of n sites is that of a predicted pair and more
wide_enough : (n wn wd low high : ℕ) → width_parts * high ≤ width_parts * low + width_parts * (predicted_each * n) + 1 * high
    → width_parts * high * wd ≤ width_parts * low * wd + width_parts * expected_each * (n * wd + wn) + high * wd
wide_enough n wn wd low high h = omega (arith, mul-le-mul_right wd h)

-- with one, a width w / d within W / D
within_width : (R d w D W low high : ℕ) → 0 < d → R * d * high ≤ R * d * low + R * w + 1 * d * high → w * D ≤ W * d
    → R * high * D ≤ R * low * D + R * W + high * D
within_width R d w D W low high pos h k =
    le_of_mul-le-mul_right {k = d} (omega (arith, mul-le-mul_right D h, mul-le-mul_left R k)) pos

expected_stands : (k : Fraction) (slot : Option ℕ) (n : ℕ) (crashes : Fraction) → Weighs k.num k.den (number slot) n crashes
    → (under over : ℕ → Fraction) (p : Bounds) → PairStands n under over p → ExpectedStands k slot n crashes under over p (expected_pair k slot p)
expected_stands k None n crashes enough under over p s = record {
  between = record { low_right = record { at = s.low_right.at }; high_right = record { at = s.high_right.at } };
  in_order = s.in_order;
  narrow = record { width = wide_enough n crashes.num crashes.den p.low p.high s.narrow.width };
  low_amid = λ O e. let z : ◌≡◌ {A = ℕ} 0 1 = cc in absurd (omega arith);
  high_amid = λ O e. let z : ◌≡◌ {A = ℕ} 0 1 = cc in absurd (omega arith);
}
expected_stands k (Some m) n crashes enough under over p s = record {
  between = record { low_right = expected_low_right k m p.low s.low_right; high_right = expected_high_right k m p.high s.high_right };
  in_order = expected_in_order k m p.low p.high s.in_order;
  narrow =
      let w = predicted_each * n * (k.den + k.num * m) + 2 * k.den in
      let most = expected_each * (n * crashes.den + crashes.num) in
      let low = expected_low k m p.low in
      let high = expected_high k m p.high in
      let wide : width_parts * k.den * high ≤ width_parts * k.den * low + width_parts * w + 1 * k.den * high =
      omega (arith, expected_width k m width_parts (predicted_each * n) 1 p.low p.high s.narrow) in
      let known = within_width width_parts k.den w crashes.den most low high k.pos wide enough.enough in
      record { width = omega (arith, known) };
  low_amid = λ O e. rw (← number_of m O e) (low_between k m p.low);
  high_amid = λ O e. rw (← number_of m O e) (high_between k m p.high);
}

-- THE THEOREM, for any edition whose numbers are within bounds
module _ (c : Coefficients) (rated : Rated c) (dispersed : Dispersed c) (header : Header) (limits : HeaderWithin header)
    (site : Site) (valid : Valid header.edition header.years site) where
  abbrev n : ℕ
  n = sites_counted header.years site

  abbrev crashes : Fraction
  crashes = crashes_counted c header.years site

  abbrev line : Line
  line = site_line c header site

  expected : let k = overdispersion_of c site in let pair = predicted_pair c header site in
      ExpectedStands k site.observed n crashes (predicted_under c header site) (predicted_over c header site) pair (expected_pair k site.observed pair)
  expected =
      expected_stands (overdispersion_of c site) site.observed n crashes (weighs dispersed header.years site limits.years_least) _ _
      (predicted_pair c header site) (predicted_stands c rated header limits site valid)

  -- the width of the expected pair before the crashes are rounded up
  pub line_counted : CountedWidth width_parts expected_each n crashes line.expected_low line.expected_high
  unfolding site_line
  line_counted = record { width = expected.narrow.width }

  pub line_stands : LineStands c header site line
  unfolding site_line expected_under expected_over
  line_stands =
      let p = predicted_stands c rated header limits site valid in
      let e = expected in
      record {
        predicted_between = record { low_right = p.low_right; high_right = p.high_right };
        expected_between = e.between;
        predicted_in_order = omega (arith, p.in_order);
        expected_in_order = omega (arith, e.in_order);
        predicted_narrow = record { width = omega (arith, p.narrow.width) };
        expected_narrow = counted_narrow width_parts expected_each n crashes _ _ line_counted;
        low_amid = e.low_amid;
        high_amid = e.high_amid;
      }

-- OF EACH EDITION
module _ (edition : ℕ) (header : Header) (limits : HeaderWithin header) (site : Site) (valid : Valid header.edition header.years site) where
  abbrev line_of_edition : Line
  line_of_edition = site_line (coefficients_of edition) header site

  pub edition_line : LineStands (coefficients_of edition) header site line_of_edition
  edition_line = line_stands (coefficients_of edition) (edition_rated edition) (edition_dispersed edition) header limits site valid

  pub edition_counted : CountedWidth width_parts expected_each (sites_counted header.years site) (crashes_counted (coefficients_of edition) header.years site)
      line_of_edition.expected_low line_of_edition.expected_high
  edition_counted = line_counted (coefficients_of edition) (edition_rated edition) (edition_dispersed edition) header limits site valid
