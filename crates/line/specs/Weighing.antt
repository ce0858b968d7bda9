-- The expected numbers as the code makes them, one scaling each, and the sizes of what a line is made from and of its numbers: all
-- fit 64 bits, for any edition whose numbers are within bounds.
use Rattle.std.specs.Prelude.{Option, None, Some}
use Rattle.std.specs.Prelude.{ℕ, ◌+◌, ◌*◌, ◌^◌, ◌/◌, ◌-◌, ◌≤◌, ◌<◌, ◌≡◌, refl}
use Rattle.std.proofs.Math.Path.{ap}
use Rattle.std.proofs.Common.{arith}
use Rattle.wide.specs.Scaling.{floor, ceiling}
use Rattle.estimate.specs.Fraction.{Fraction, fraction, millionths, ◌÷◌}
use Rattle.site.specs.declared.values.Site.{Site}
use Rattle.site.specs.Writing.{Valid}
use Rattle.header.specs.declared.Header.{Header}
use Rattle.header.specs.HeaderLaws.{HeaderWithin}
use Rattle.model.specs.Coefficients.{Coefficients}
use Rattle.model.specs.Expected.{weighed, expected_low, expected_high, overdispersion_of}
use Rattle.prediction.specs.Pair.{most_predicted, predicted_pair}
use Rattle.site.specs.Numbers.{number, observed_most}
use Rattle.model.specs.Predicted.{predicted_under, predicted_over}
use Rattle.model.specs.StatedWidths.{sites_counted}
use Rattle.bracket.specs.declared.Bounds.{Bounds}
use Rattle.prediction.specs.Kept.{Rated}
use Rattle.prediction.specs.PredictedLaws.{PairStands}
use Rattle.prediction.proofs.PredictedLaws.{predicted_stands, predicted_small}
use Rattle.line.specs.Line.{expected_pair, line_by, site_line}
use Rattle.line.specs.Dispersion.{Overdispersed, Dispersed}
use Rattle.line.specs.LineLaws.{low_between, high_between}
use Rattle.line.specs.declared.Line.{Line}

-- a million times kd + kn O, and kd million and kn n
abbrev pub over : (kn kd O : ℕ) → ℕ
over kn kd O = (kd + kn * O) * 1000000

abbrev pub under : (kn kd n : ℕ) → ℕ
under kn kd n = kd * 1000000 + kn * n

-- the sizes of an overdispersion, a history and a prediction
pub record Sizes (kn kd O n : ℕ) : Type 0 where
  pub overdispersed : Overdispersed kn kd
  pub history_most : O ≤ 500
  pub prediction_most : n ≤ most_predicted

module _ (k : Fraction) (O n : ℕ) where
  pub low_is : expected_low k O n ≡ floor n (over k.num k.den O) (under k.num k.den n)
  unfolding expected_low weighed millionths ◌÷◌ fraction
  low_is = ap (λ x. x / (k.den * 1000000 + k.num * n)) (omega arith)

  pub high_is : expected_high k O n ≡ ceiling n (over k.num k.den O) (under k.num k.den n)
  unfolding expected_high weighed millionths ◌÷◌ fraction
  high_is = ap (λ x. (x + (k.den * 1000000 + k.num * n - 1)) / (k.den * 1000000 + k.num * n)) (omega arith)

-- both fit: they are at most the prediction or the history
module _ (kn kd O n : ℕ) (s : Sizes kn kd O n) where
  pub low_fits : floor n (over kn kd O) (under kn kd n) < 2 ^ 64
  unfolding fraction
  low_fits =
      let k = fraction kn kd s.overdispersed.kd_least in
      let a = low_between k O n in
      omega (arith, low_is k O n, a.to, s.history_most, s.prediction_most)

  pub high_fits : ceiling n (over kn kd O) (under kn kd n) < 2 ^ 64
  unfolding fraction
  high_fits =
      let k = fraction kn kd s.overdispersed.kd_least in
      let a = high_between k O n in
      omega (arith, high_is k O n, a.to, s.history_most, s.prediction_most)

  pub under_positive : 0 < under kn kd n
  under_positive = omega (arith, s.overdispersed.kd_least)

-- the expected pair of an overdispersion kn / kd
abbrev pub weighed_pair : (kn kd : ℕ) → Option ℕ → Bounds → Bounds
weighed_pair kn kd None p = p
weighed_pair kn kd (Some O) p = record {
  low = floor p.low (over kn kd O) (under kn kd p.low);
  high = ceiling p.high (over kn kd O) (under kn kd p.high);
}

pub weighed_is_expected : (k : Fraction) (slot : Option ℕ) (p : Bounds) → weighed_pair k.num k.den slot p ≡ expected_pair k slot p
weighed_is_expected k None p = refl
weighed_is_expected k (Some O) p = rw (low_is k O p.low, high_is k O p.high) refl

-- the line that the two pairs make
pub line_made : (c : Coefficients) (header : Header) (site : Site) (kn kd : ℕ) (p e : Bounds)
    → kn ≡ (overdispersion_of c site).num → kd ≡ (overdispersion_of c site).den
    → p ≡ predicted_pair c header site → e ≡ weighed_pair kn kd site.observed p → line_by p e ≡ site_line c header site
unfolding site_line
line_made c header site kn kd p e n d h k =
    let predicted = predicted_pair c header site in
    rw (k, n, d, h) (ap (line_by predicted) (weighed_is_expected (overdispersion_of c site) site.observed predicted))

-- no number of a line is above a number
pub record LineAtMost (most : ℕ) (line : Line) : Type 0 where
  pub predicted_low : line.predicted_low ≤ most
  pub predicted_high : line.predicted_high ≤ most
  pub expected_low : line.expected_low ≤ most
  pub expected_high : line.expected_high ≤ most

pub at_most_wider : {least most : ℕ} {line : Line} → least ≤ most → LineAtMost least line → LineAtMost most line
at_most_wider h l = record {
  predicted_low = omega (arith, l.predicted_low);
  predicted_high = omega (arith, l.predicted_high);
  expected_low = omega (arith, l.expected_low);
  expected_high = omega (arith, l.expected_high);
}

record PairSmall (e : Bounds) : Type 0 where
  low : e.low ≤ most_predicted
  high : e.high ≤ most_predicted

module _ (c : Coefficients) (rated : Rated c) (header : Header) (limits : HeaderWithin header) (site : Site)
    (valid : Valid header.edition header.years site) where
  abbrev p : Bounds
  p = predicted_pair c header site

  stands : PairStands (sites_counted header.years site) (predicted_under c header site) (predicted_over c header site) p
  stands = predicted_stands c rated header limits site valid

  small : p.high ≤ most_predicted
  small = predicted_small c rated header limits site valid

  module _ (dispersed : Dispersed c) where
    abbrev SizesAt : ℕ → Type 0
    SizesAt n = let k = overdispersion_of c site in Sizes k.num k.den (number site.observed) n

    sizes : (n : ℕ) → n ≤ most_predicted → SizesAt n
    sizes n h = record {
      overdispersed = dispersed.sizes header.edition header.years site valid;
      history_most = observed_most header.edition header.years site valid;
      prediction_most = h;
    }

    pub both_sizes : SizesAt p.low × SizesAt p.high
    both_sizes = (sizes p.low (omega (arith, stands.in_order, small)), sizes p.high (omega (arith, small)))

  expected_small : (k : Fraction) (slot : Option ℕ) → number slot ≤ 500 → PairSmall (expected_pair k slot p)
  expected_small k None h = record { low = omega (arith, stands.in_order, small); high = omega (arith, small) }
  expected_small k (Some O) h = record {
    low = omega (arith, (low_between k O p.low).to, stands.in_order, small);
    high = omega (arith, (high_between k O p.high).to, small);
  }

  pub line_small : LineAtMost most_predicted (site_line c header site)
  unfolding site_line
  line_small =
      let e = expected_small (overdispersion_of c site) site.observed (observed_most header.edition header.years site valid) in
      record {
        predicted_low = omega (arith, stands.in_order, small);
        predicted_high = omega (arith, small);
        expected_low = e.low;
        expected_high = e.high;
      }
