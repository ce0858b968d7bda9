-- THE STATED WIDTHS of a line and of the totals, each once: at most a part of the high, and so many millionths for each site and
-- each observed crash.
use Rattle.std.specs.Prelude.{ℕ, ◌+◌, ◌*◌, cond, List, [], ◌∷◌}
use Rattle.estimate.specs.Fraction.{Fraction, whole, ◌+ᶠ◌, ◌*ᶠ◌}
use Rattle.wide.specs.Scaling.{ceiling}
use Rattle.site.specs.declared.values.Site.{Site}
use Rattle.site.specs.Yearly.{yearly}
use Rattle.site.specs.Numbers.{number}
use Rattle.model.specs.Coefficients.{Coefficients}

-- document 02, request 8: "lose their hundred-thousandth and get a millionth of high in its place"
abbrev pub width_parts : ℕ
width_parts = 1000000

-- "the terms for each site and crash remain": of a predicted pair, for each site
abbrev pub predicted_each : ℕ
predicted_each = 4

-- of an expected pair, for each site and each observed crash
abbrev pub expected_each : ℕ
expected_each = 8

-- document 02, request 4, of a site with a traffic for each year: "In demand 3's widths such a site counts as Y sites"
unfoldable pub sites_counted : (years : ℕ) → Site → ℕ
sites_counted years site = cond (yearly site) years 1

-- "and each of its observed crashes as Y"; request 6: "in edition 2, an observed crash on a segment counts 1 + k times"
unfoldable pub crashes_counted : Coefficients → (years : ℕ) → Site → Fraction
crashes_counted c years site = whole (sites_counted years site * number site.observed) *ᶠ c.crash_count site.kind (number site.length)

-- "rounded up"
abbrev pub rounded_up : Fraction → ℕ
rounded_up count = ceiling count.num 1 count.den

-- of a line, once for all the crashes of its site
abbrev pub observed_weight : Coefficients → (years : ℕ) → Site → ℕ
observed_weight c years site = rounded_up (crashes_counted c years site)

-- OF THE TOTALS, over a list of sites: what each has, added up
unfoldable pub added_up : (Site → Fraction) → List Site → Fraction
added_up each [] = whole 0
added_up each (site ∷ sites) = each site +ᶠ added_up each sites

unfoldable pub count_over : (Site → ℕ) → List Site → ℕ
count_over each [] = 0
count_over each (site ∷ sites) = each site + count_over each sites

-- the sites, each as it counts
abbrev pub sites_counted_in : (years : ℕ) → List Site → ℕ
sites_counted_in years sites = count_over (sites_counted years) sites

-- "A project's observed crashes are the sum of the O that stand", each as it counts: added up as fractions, and rounded up once
abbrev pub observed_in : Coefficients → (years : ℕ) → List Site → ℕ
observed_in c years sites = rounded_up (added_up (crashes_counted c years) sites)
