-- EVERY PART OF DEMAND 3 IS NEEDED: a report that fails one part, at one site or in its totals, does not meet the demand. The
-- numbers of the report are named by their index, and the widths are written out.
use Rattle.std.specs.Prelude.{ℕ, ◌≤◌, ◌<◌, List, ◌∷◌, length}
use Rattle.std.proofs.Common.{lit≤, arith}
use Rattle.site.specs.Rules.{most_years}
use Rattle.site.specs.LaterLaws.{years_within}
use Rattle.model.specs.StatedWidths.{sites_counted}
use Rattle.model.proofs.TermLaws.{by_count}
use Rattle.project.specs.File.{years_in, sites_in}
use Rattle.project.specs.SitesRead.{sites_years}
use Rattle.report.specs.Demand.{Demand, site_at}

-- a site of a project counts as ten sites at most
counts_most : (bytes : List ℕ) (i : ℕ) → 0 < length (sites_in bytes) → sites_counted (years_in bytes) (site_at (sites_in bytes) i) ≤ most_years
counts_most bytes i h =
    let known = years_within (years_in bytes) (sites_years bytes h) in
    by_count (λ n. n ≤ most_years) (years_in bytes) (site_at (sites_in bytes) i) known.1 (lit≤ tt)

-- A PAIR FROM ZERO TO THE TOP for the first site, whatever stands after it
pub zero_to_the_top : (bytes rest : List ℕ) → 0 < length (sites_in bytes) → Demand bytes (0 ∷ 18446744073709551615 ∷ rest) → ⊥
zero_to_the_top bytes rest h m = omega (arith, counts_most bytes 0 h, (m.each 0 h).predicted_narrow.width)
