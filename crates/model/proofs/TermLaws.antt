-- Laws of TermLaws in specs/.
use Rattle.std.specs.Prelude.{ℕ, zero, suc, ◌-◌, ◌≤◌, ◌≡◌, refl, Bool, true, false, cond, length}
use Rattle.std.proofs.Common.{ap, arith}
use Rattle.site.specs.declared.values.Site.{Site}
use Rattle.site.specs.Yearly.{yearly}
use Rattle.header.specs.declared.Header.{Header}
use Rattle.model.specs.Predicted.{later_terms, terms_of}
use Rattle.model.specs.StatedWidths.{sites_counted}
use Rattle.model.specs.TermLaws.{by_years}

later_length : (site : Site) (i count : ℕ) → length (later_terms site i count) ≡ count
unfolding later_terms
later_length site i zero = refl
later_length site i (suc count) = ap suc (later_length site (suc i) count)

-- A SITE COUNTS FOR ITS TERMS
pub sites_counted_lem : (header : Header) (site : Site) → 1 ≤ header.years → sites_counted header.years site ≡ length (terms_of header site)
unfolding sites_counted
sites_counted_lem header site some =
    by_years (λ terms. sites_counted header.years site ≡ length terms) header site
    (λ e. rw e (omega (arith, later_length site 0 (header.years - 1))))
    (λ e. rw e)

-- what holds of the years and of one site
pub by_count : (P : ℕ → Type 0) (years : ℕ) (site : Site) → P years → P 1 → P (sites_counted years site)
unfolding sites_counted
by_count P years site each all = by (yearly site)
  where
    by : (b : Bool) → P (cond b years 1)
    by true = each
    by false = all
