-- Laws of CrashCounts in specs/.
use Rattle.std.specs.Prelude.{None, Some}
use Rattle.std.specs.Prelude.{ℕ, ◌+◌, ◌*◌, ◌≤◌, ◌<◌, ◌≡◌, Bool, leb, eqb, replicate}
use Rattle.std.proofs.Math.Path.{refl}
use Rattle.std.proofs.Common.{ap, le_antisymm, le_trans}
use Rattle.std.proofs.Math.Bool.{true, false, cond}
use mathlib.Core.List.{List, [], ◌∷◌}
use Rattle.std.proofs.Math.Nat.{add-le-add, mul-le-mul_left}
use native.Mathlib.Omega.{arith}
use Rattle.std.proofs.Math.Dec.{lit≤}
use borrow.Author.Tests.{eq-eqb, ne_eqb}
use Rattle.estimate.specs.Fraction.{Fraction, fraction, whole, ◌÷◌, ◌+ᶠ◌, ◌*ᶠ◌, ◌≤ᶠ◌}
use Rattle.estimate.specs.FractionLaws.{÷-num, ÷-den, ≤ᶠ-refl, ≤ᶠ-trans, +ᶠ-mono}
use Rattle.wide.specs.Scaling.{ceiling}
use Rattle.wide.specs.Rounding.{ceiling_ge}
use Rattle.site.specs.declared.values.Site.{Site}
use Rattle.site.specs.Yearly.{yearly, no_later}
use Rattle.site.specs.Record.{site_of}
use Rattle.site.specs.Numbers.{number}
use Rattle.model.specs.Coefficients.{Coefficients, edition_one, edition_two, coefficients_of}
use Rattle.model.specs.Editions.{by_edition, first_edition, second_edition}
use Rattle.model.specs.StatedWidths.{sites_counted, crashes_counted, rounded_up, observed_weight, added_up, count_over, sites_counted_in, observed_in}
use Rattle.model.specs.CrashCounts.{crashes_of, crashes_over, least_not_below, not_below, same_site, sites_over}

-- whole numbers as fractions
whole_order : {m n : ℕ} → whole m ≤ᶠ whole n → m ≤ n
unfolding whole fraction
whole_order h = omega (arith, h.cross)

whole_adds : (m n : ℕ) → (whole m +ᶠ whole n ≤ᶠ whole (m + n)) × (whole (m + n) ≤ᶠ whole m +ᶠ whole n)
unfolding whole fraction ◌+ᶠ◌
whole_adds m n = (record { cross = omega arith }, record { cross = omega arith })

-- a crash that counts once
module _ (crashes : ℕ) (count : Fraction) (once : count ≡ whole 1) where
  at_most_once : whole crashes *ᶠ count ≤ᶠ whole crashes
  unfolding whole fraction ◌*ᶠ◌
  at_most_once = rw once (record { cross = omega arith })

  at_least_once : whole crashes ≤ᶠ whole crashes *ᶠ count
  unfolding whole fraction ◌*ᶠ◌
  at_least_once = rw once (record { cross = omega arith })

  counted_once : rounded_up (whole crashes *ᶠ count) ≡ crashes
  counted_once =
      le_antisymm (least_not_below _ crashes at_most_once) (whole_order (≤ᶠ-trans at_least_once (not_below (whole crashes *ᶠ count))))

module _ (years : ℕ) (site : Site) where
  abbrev crashes : ℕ
  crashes = sites_counted years site * number site.observed

  -- IN EDITION 1, AND AT A CROSSING OF ANY, each crash once
  pub weight_in_edition_one : (edition : ℕ) → edition ≤ 1 → observed_weight (coefficients_of edition) years site ≡ crashes
  unfolding edition_one crashes_counted
  weight_in_edition_one edition h = rw (first_edition edition h) (counted_once crashes (whole 1) refl)

  pub weight_at_crossing : (edition : ℕ) → (site.kind ≡ 0 → ⊥) → observed_weight (coefficients_of edition) years site ≡ crashes
  unfolding edition_one edition_two crashes_counted
  weight_at_crossing edition h =
      by_edition (λ c. observed_weight c years site ≡ crashes) (counted_once crashes (whole 1) refl)
      (counted_once crashes (edition_two.crash_count site.kind (number site.length)) (rw (ne_eqb site.kind 0 h))) edition

  -- ON A SEGMENT FROM EDITION 2 ON, of length L, (L + 236) / L times
  pub weight_on_segment : (edition : ℕ) → 1 < edition → site.kind ≡ 0 → let length = number site.length in 0 < length
      → observed_weight (coefficients_of edition) years site ≡ ceiling crashes (length + 236) length
  unfolding edition_two crashes_counted ◌+ᶠ◌ ◌*ᶠ◌ whole fraction
  weight_on_segment edition later e h =
      let length = number site.length in
      let num : crashes * (1 * length + 236 * 1) * 1 ≡ crashes * (length + 236) = omega arith in
      let den : 1 * (1 * length) ≡ length = omega arith in
      rw (second_edition edition later, eq-eqb site.kind 0 e, ÷-num 236 length, ÷-den 236 length h, num, den)

  -- IT IS AT MOST what the looser readings give, in any edition
  module _ (c : Coefficients) where
    abbrev count : Fraction
    count = c.crash_count site.kind (number site.length)

    -- rounded up for each site that the site counts for
    pub at_most_by_site : observed_weight c years site ≤ sites_counted years site * ceiling (number site.observed) count.num count.den
    unfolding crashes_counted ◌*ᶠ◌ whole fraction
    at_most_by_site =
        let O = number site.observed in
        let up = mul-le-mul_left (sites_counted years site) (ceiling_ge O count.num count.den count.pos) in
        least_not_below (crashes_counted c years site) _ (record { cross = omega (arith, up) })

    -- and for each crash
    pub at_most_by_crash : observed_weight c years site ≤ crashes * ceiling 1 count.num count.den
    unfolding crashes_counted ◌*ᶠ◌ whole fraction
    at_most_by_crash =
        let up = mul-le-mul_left crashes (ceiling_ge 1 count.num count.den count.pos) in
        least_not_below (crashes_counted c years site) _ (record { cross = omega (arith, up) })

-- these are the counts of the stated widths
pub sites_over_lem : (years : ℕ) (sites : List Site) → sites_counted_in years sites ≡ sites_over years sites
unfolding sites_over count_over sites_counted
sites_over_lem years [] = refl
sites_over_lem years (site ∷ sites) = ap (λ (rest : ℕ). cond (yearly site) years 1 + rest) (sites_over_lem years sites)

module _ (edition years : ℕ) (site : Site) where
  abbrev counted : ℕ
  counted = cond (yearly site) years 1 * number site.observed

  abbrev on_segment : Fraction
  on_segment = whole 1 +ᶠ 236 ÷ number site.length

  second_of : (segment : Bool) → whole counted *ᶠ cond segment on_segment (whole 1) ≤ᶠ cond segment (whole counted *ᶠ on_segment) (whole counted)
  second_of true = ≤ᶠ-refl (whole counted *ᶠ on_segment)
  second_of false = at_most_once counted (whole 1) refl

  crashes_of_lem : crashes_counted (coefficients_of edition) years site ≤ᶠ crashes_of edition years site
  unfolding crashes_counted sites_counted coefficients_of edition_one edition_two
  crashes_of_lem = by (leb edition 1)
    where
      by : (first : Bool) → whole counted *ᶠ (cond first edition_one edition_two).crash_count site.kind (number site.length)
          ≤ᶠ cond first (whole counted) (cond (eqb site.kind 0) (whole counted *ᶠ on_segment) (whole counted))
      by true = at_most_once counted (whole 1) refl
      by false = second_of (eqb site.kind 0)

crashes_over_lem : (edition years : ℕ) (sites : List Site) → added_up (crashes_counted (coefficients_of edition) years) sites ≤ᶠ crashes_over edition years sites
unfolding added_up crashes_over
crashes_over_lem edition years [] = ≤ᶠ-refl (whole 0)
crashes_over_lem edition years (site ∷ sites) = +ᶠ-mono (crashes_of_lem edition years site) (crashes_over_lem edition years sites)

-- the crashes of a list count for no more than any whole number that is not below
pub counted_at_most : (edition years : ℕ) (sites : List Site) (t : ℕ) → crashes_over edition years sites ≤ᶠ whole t
    → observed_in (coefficients_of edition) years sites ≤ t
counted_at_most edition years sites t h =
    least_not_below (added_up (crashes_counted (coefficients_of edition) years) sites) t (≤ᶠ-trans (crashes_over_lem edition years sites) h)

-- IN THE TOTALS, rounded up once, they count for at most what they do rounded up site by site, and so crash by crash
module _ (c : Coefficients) (years : ℕ) where
  added_at_most : (sites : List Site) → added_up (crashes_counted c years) sites ≤ᶠ whole (count_over (observed_weight c years) sites)
  unfolding added_up count_over
  added_at_most [] = ≤ᶠ-refl (whole 0)
  added_at_most (site ∷ sites) =
      ≤ᶠ-trans (+ᶠ-mono (not_below (crashes_counted c years site)) (added_at_most sites)) (whole_adds _ _).0

  pub totals_at_most_by_site : (sites : List Site) → observed_in c years sites ≤ count_over (observed_weight c years) sites
  totals_at_most_by_site sites = least_not_below (added_up (crashes_counted c years) sites) _ (added_at_most sites)

  abbrev by_crash : Site → ℕ
  by_crash site =
      let count = c.crash_count site.kind (number site.length) in
      crashes years site * ceiling 1 count.num count.den

  by_site_at_most_by_crash : (sites : List Site) → count_over (observed_weight c years) sites ≤ count_over by_crash sites
  unfolding count_over
  by_site_at_most_by_crash [] = lit≤ tt
  by_site_at_most_by_crash (site ∷ sites) = add-le-add (at_most_by_crash years site c) (by_site_at_most_by_crash sites)

  pub totals_at_most_by_crash : (sites : List Site) → observed_in c years sites ≤ count_over by_crash sites
  totals_at_most_by_crash sites = le_trans (totals_at_most_by_site sites) (by_site_at_most_by_crash sites)

abbrev long_segment : Site
long_segment = site_of 0 (Some 1 ∷ Some 20000 ∷ None ∷ Some 1 ∷ []) no_later no_later

pub many_long_segments : observed_in (coefficients_of 2) 1 (replicate 1200 long_segment) ≤ 1215
unfolding crashes_counted sites_counted coefficients_of edition_two whole fraction ◌÷◌ ◌+ᶠ◌ ◌*ᶠ◌
many_long_segments =
    least_not_below _ 1215 (≤ᶠ-trans (same_site (crashes_counted (coefficients_of 2) 1) long_segment 1200) (record { cross = lit≤ tt }))
