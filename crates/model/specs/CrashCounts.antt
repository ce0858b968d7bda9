-- WHAT OBSERVED CRASHES COUNT FOR in the expected width: each as often as its site counts; on a segment of edition 2, 1 + k times that.
-- In a line they are rounded up once for the site, in the totals once for all sites. The looser readings follow.
use Rattle.std.specs.Prelude.{ℕ, zero, suc, ◌+◌, ◌*◌, ◌≤◌, ◌≡◌, leb, eqb, replicate}
use Rattle.std.proofs.Math.Path.{refl}
use Rattle.std.proofs.Math.Bool.{cond}
use mathlib.Core.List.{List, [], ◌∷◌}
use native.Mathlib.Omega.{arith}
use Rattle.estimate.specs.Fraction.{Fraction, fraction, whole, ◌÷◌, ◌+ᶠ◌, ◌*ᶠ◌, ◌≤ᶠ◌}
use Rattle.estimate.specs.FractionLaws.{≤ᶠ-refl, ≤ᶠ-trans, +ᶠ-mono}
use Rattle.wide.specs.Rounding.{ceiling_ge, ceiling-≤}
use Rattle.site.specs.declared.values.Site.{Site}
use Rattle.site.specs.Yearly.{yearly}
use Rattle.site.specs.Numbers.{number}
use Rattle.model.specs.Coefficients.{edition_two}
use Rattle.model.specs.StatedWidths.{rounded_up, added_up}

-- ROUNDED UP: the least whole number that is not below
module _ (count : Fraction) where
  pub not_below : count ≤ᶠ whole (rounded_up count)
  unfolding whole fraction
  not_below = record { cross = omega (arith, ceiling_ge count.num 1 count.den count.pos) }

  pub least_not_below : (t : ℕ) → count ≤ᶠ whole t → rounded_up count ≤ t
  unfolding whole fraction
  least_not_below t h = ceiling-≤ count.num 1 count.den t count.pos (omega (arith, h.cross))

-- "counts 1 + k times"
pub count_is : (length : ℕ) → edition_two.crash_count 0 length ≡ whole 1 +ᶠ edition_two.overdispersion 0 length
unfolding edition_two
count_is length = refl

-- IN DOCUMENT 02'S NUMBERS, written out apart from StatedWidths so that a wider count there is refused: the sites of a list, one with a
-- traffic for each of Y years as Y
unfoldable pub sites_over : (years : ℕ) → List Site → ℕ
sites_over years [] = 0
sites_over years (site ∷ sites) = cond (yearly site) years 1 + sites_over years sites

-- and what their observed crashes count for: each as often as its site; on a segment of length L in edition 2, 1 + 236 / L times that
abbrev pub crashes_of : (edition years : ℕ) → Site → Fraction
crashes_of edition years site =
    let crashes = whole (cond (yearly site) years 1 * number site.observed) in
    cond (leb edition 1) crashes (cond (eqb site.kind 0) (crashes *ᶠ (whole 1 +ᶠ 236 ÷ number site.length)) crashes)

unfoldable pub crashes_over : (edition years : ℕ) → List Site → Fraction
crashes_over edition years [] = whole 0
crashes_over edition years (site ∷ sites) = crashes_of edition years site +ᶠ crashes_over edition years sites

-- A FIGURE: 1,200 segments of 20 miles with one crash each count for 1,214.16 crashes in edition 2, so for at most 1,215
pub same_site : (each : Site → Fraction) (site : Site) (n : ℕ) → added_up each (replicate n site) ≤ᶠ whole n *ᶠ each site
unfolding added_up whole fraction ◌+ᶠ◌ ◌*ᶠ◌
same_site each site zero = record { cross = omega arith }
same_site each site (suc n) = ≤ᶠ-trans (+ᶠ-mono (≤ᶠ-refl (each site)) (same_site each site n)) (record { cross = omega arith })
