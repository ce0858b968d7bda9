-- EVERY PART OF THE CLAIM IS NEEDED: a line that fails one part does not stand, whatever its other numbers are. The widths are
-- written out as numbers here, so that a wider claim is refused.
use Rattle.std.specs.Prelude.{Some}
use Rattle.std.specs.Prelude.{ℕ, ◌+◌, ◌*◌, ◌≤◌, ◌<◌, ◌≡◌, true, false, ◌⊎◌}
use Rattle.std.proofs.Common.{ap, ◌∙◌, ⊎_elim, arith}
use Rattle.estimate.specs.Fraction.{millionths, ◌<ᶠ◌}
use Rattle.estimate.specs.FractionLaws.{not-≤ᶠ-and-<ᶠ}
use Rattle.wide.specs.Scaling.{ceiling}
use Rattle.site.specs.declared.values.Site.{Site}
use Rattle.header.specs.declared.Header.{Header}
use Rattle.model.specs.Coefficients.{Coefficients, coefficients_of}
use Rattle.site.specs.Numbers.{number}
use Rattle.site.specs.Yearly.{yearly}
use Rattle.model.specs.StatedWidths.{sites_counted, observed_weight}
use Rattle.model.proofs.CrashCounts.{weight_in_edition_one, weight_at_crossing, weight_on_segment}
use Rattle.model.specs.Predicted.{predicted_under, predicted_over}
use Rattle.model.specs.Expected.{expected_under, expected_over}
use Rattle.line.specs.declared.Line.{Line}
use Rattle.line.specs.Stands.{Amid, LineStands}

-- no number between two is below both, or above both
below_both : (x y n : ℕ) → n < x → n < y → Amid x y n → ⊥
below_both x y n h k a = omega (arith, a.from)

above_both : (x y n : ℕ) → x < n → y < n → Amid x y n → ⊥
above_both x y n h k a = omega (arith, a.to)

module _ (c : Coefficients) (header : Header) (site : Site) (line : Line) where
  abbrev Fails : Type 0
  Fails = LineStands c header site line → ⊥

  -- a low above the over-estimate at some depth, a high below the under-estimate
  pub predicted_low_too_high : (d : ℕ) → 1 ≤ d → predicted_over c header site d <ᶠ millionths line.predicted_low → Fails
  predicted_low_too_high d h l s = not-≤ᶠ-and-<ᶠ (s.predicted_between.low_right.at d h) l

  pub predicted_high_too_low : (d : ℕ) → 1 ≤ d → millionths line.predicted_high <ᶠ predicted_under c header site d → Fails
  predicted_high_too_low d h l s = not-≤ᶠ-and-<ᶠ (s.predicted_between.high_right.at d h) l

  pub expected_low_too_high : (d : ℕ) → 1 ≤ d → expected_over c header site d <ᶠ millionths line.expected_low → Fails
  expected_low_too_high d h l s = not-≤ᶠ-and-<ᶠ (s.expected_between.low_right.at d h) l

  pub expected_high_too_low : (d : ℕ) → 1 ≤ d → millionths line.expected_high <ᶠ expected_under c header site d → Fails
  expected_high_too_low d h l s = not-≤ᶠ-and-<ᶠ (s.expected_between.high_right.at d h) l

  -- a low that passes its high
  pub predicted_exchanged : line.predicted_high < line.predicted_low → Fails
  predicted_exchanged l s = omega (arith, s.predicted_in_order)

  pub expected_exchanged : line.expected_high < line.expected_low → Fails
  expected_exchanged l s = omega (arith, s.expected_in_order)

  -- a predicted pair more than 4, or 4 Y with a traffic for each of Y years, and a millionth of the high apart
  one_site : yearly site ≡ false → sites_counted header.years site ≡ 1
  unfolding sites_counted
  one_site plain = rw plain

  years_sites : yearly site ≡ true → sites_counted header.years site ≡ header.years
  unfolding sites_counted
  years_sites each = rw each

  pub predicted_too_wide : yearly site ≡ false
      → 1000000 * (line.predicted_low + 4) + line.predicted_high < 1000000 * line.predicted_high → Fails
  predicted_too_wide plain l s = omega (arith, one_site plain, s.predicted_narrow.width)

  pub yearly_predicted_too_wide : yearly site ≡ true
      → 1000000 * (line.predicted_low + 4 * header.years) + line.predicted_high < 1000000 * line.predicted_high → Fails
  yearly_predicted_too_wide each l s = omega (arith, years_sites each, s.predicted_narrow.width)

  -- an expected pair of a site that counts as n and its crashes for a weight
  expected_wider : (n weight : ℕ) → sites_counted header.years site ≡ n → observed_weight c header.years site ≡ weight
      → 1000000 * (line.expected_low + 8 * (n + weight)) + line.expected_high < 1000000 * line.expected_high → Fails
  expected_wider n weight counts weight_is l s = omega (arith, counts, weight_is, s.expected_narrow.width)

  -- an expected number that is not between the prediction and the history
  module _ (observed : ℕ) (history : site.observed ≡ Some observed) where
    pub expected_low_below_both : line.expected_low < line.predicted_low → line.expected_low < observed * 1000000 → Fails
    expected_low_below_both h k s = below_both _ _ _ h k (s.low_amid observed history)

    pub expected_low_above_both : line.predicted_low < line.expected_low → observed * 1000000 < line.expected_low → Fails
    expected_low_above_both h k s = above_both _ _ _ h k (s.low_amid observed history)

    pub expected_high_below_both : line.expected_high < line.predicted_high → line.expected_high < observed * 1000000 → Fails
    expected_high_below_both h k s = below_both _ _ _ h k (s.high_amid observed history)

    pub expected_high_above_both : line.predicted_high < line.expected_high → observed * 1000000 < line.expected_high → Fails
    expected_high_above_both h k s = above_both _ _ _ h k (s.high_amid observed history)

-- AN EXPECTED PAIR THAT IS TOO WIDE, by what the site's crashes count for in its edition
module _ (edition : ℕ) (header : Header) (site : Site) (line : Line) where
  abbrev FailsIn : Type 0
  FailsIn = LineStands (coefficients_of edition) header site line → ⊥

  abbrev O : ℕ
  O = number site.observed

  -- each crash once, in edition 1 and at a crossing: more than 8 (1 + O), or 8 (Y + Y O), and a millionth of the high apart
  module _ (once : (edition ≤ 1) ⊎ (site.kind ≡ 0 → ⊥)) where
    weight_is : {n : ℕ} → sites_counted header.years site ≡ n → observed_weight (coefficients_of edition) header.years site ≡ n * O
    weight_is counts =
        ⊎_elim (weight_in_edition_one header.years site edition) (weight_at_crossing header.years site edition) once
        ∙ ap (λ (n : ℕ). n * O) counts

    pub expected_too_wide : yearly site ≡ false
        → 1000000 * (line.expected_low + 8 * (1 + O)) + line.expected_high < 1000000 * line.expected_high → FailsIn
    expected_too_wide plain l =
        let counts = one_site (coefficients_of edition) header site line plain in
        expected_wider (coefficients_of edition) header site line 1 (1 * O) counts (weight_is counts) (omega arith)

    pub yearly_expected_too_wide : yearly site ≡ true
        → 1000000 * (line.expected_low + 8 * (header.years + header.years * O)) + line.expected_high < 1000000 * line.expected_high → FailsIn
    yearly_expected_too_wide each l =
        let counts = years_sites (coefficients_of edition) header site line each in
        expected_wider (coefficients_of edition) header site line header.years (header.years * O) counts (weight_is counts) l

  -- on a segment of length L from edition 2 on: more than 8 (1 + O (L + 236) / L), or 8 (Y + Y O (L + 236) / L), rounded up
  module _ (later : 1 < edition) (segment : site.kind ≡ 0) (long : 0 < number site.length) where
    abbrev rounded : ℕ → ℕ
    rounded crashes = ceiling crashes (number site.length + 236) (number site.length)

    segment_weight_is : {n : ℕ} → sites_counted header.years site ≡ n
        → observed_weight (coefficients_of edition) header.years site ≡ rounded (n * O)
    segment_weight_is counts = weight_on_segment header.years site edition later segment long ∙ ap (λ (n : ℕ). rounded (n * O)) counts

    pub segment_expected_too_wide : yearly site ≡ false
        → 1000000 * (line.expected_low + 8 * (1 + rounded O)) + line.expected_high < 1000000 * line.expected_high → FailsIn
    segment_expected_too_wide plain l =
        let counts = one_site (coefficients_of edition) header site line plain in
        let once : 1 * O ≡ O = omega arith in
        expected_wider (coefficients_of edition) header site line 1 (rounded O) counts (segment_weight_is counts ∙ ap rounded once) l

    pub yearly_segment_expected_too_wide : yearly site ≡ true
        → 1000000 * (line.expected_low + 8 * (header.years + rounded (header.years * O))) + line.expected_high < 1000000 * line.expected_high
        → FailsIn
    yearly_segment_expected_too_wide each l =
        let counts = years_sites (coefficients_of edition) header site line each in
        expected_wider (coefficients_of edition) header site line header.years (rounded (header.years * O)) counts (segment_weight_is counts) l
