-- A site's prediction N at depth d: "N's under-estimate takes each part's under .. Over takes each part's over".
use Rattle.std.specs.Prelude.{None}
use Rattle.std.specs.Prelude.{ℕ, zero, suc, ◌-◌, cond, List, [], ◌∷◌, get_or}
use Rattle.estimate.specs.Fraction.{Fraction, whole, ◌+ᶠ◌, ◌*ᶠ◌}
use Rattle.site.specs.declared.values.Site.{Site}
use Rattle.site.specs.Yearly.{later_slots, yearly}
use Rattle.header.specs.declared.Header.{Header}
use Rattle.model.specs.Coefficients.{Coefficients}
use Rattle.site.specs.Numbers.{number}
use Rattle.model.specs.Parts.{Part, Term, term_at, parts_of}

-- the product of the unders, and of the overs
unfoldable pub product_under : ℕ → List Part → Fraction
product_under d [] = whole 1
product_under d (part ∷ parts) = part.under d *ᶠ product_under d parts

unfoldable pub product_over : ℕ → List Part → Fraction
product_over d [] = whole 1
product_over d (part ∷ parts) = part.over d *ᶠ product_over d parts

-- years at the traffic of the first
abbrev pub term_of : (years : ℕ) → Site → Term
term_of years site = term_at years (number site.traffic) (number site.minor_traffic)

-- one of the later years, the second at place 0, at its own traffic
abbrev pub year_term : Site → (i : ℕ) → Term
year_term site i =
    term_at 1 (number (get_or (later_slots site.later_traffic) i None)) (number (get_or (later_slots site.later_minor) i None))

-- so many later years from a place on
unfoldable pub later_terms : Site → (i count : ℕ) → List Term
later_terms site i zero = []
later_terms site i (suc count) = year_term site i ∷ later_terms site (suc i) count

-- document 02, request 4: "The site's prediction is the sum of its Y one-year predictions, each with that year's factors"
abbrev pub yearly_terms : (years : ℕ) → Site → List Term
yearly_terms years site = term_of 1 site ∷ later_terms site 0 (years - 1)

-- and without later years, one traffic for all the years
unfoldable pub terms_of : Header → Site → List Term
terms_of header site = cond (yearly site) (yearly_terms header.years site) (term_of header.years site ∷ [])

unfoldable pub sum_under : Coefficients → Header → Site → ℕ → List Term → Fraction
sum_under k header site d [] = whole 0
sum_under k header site d (term ∷ terms) =
    product_under d (parts_of k header.segments header.crossings site term) +ᶠ sum_under k header site d terms

unfoldable pub sum_over : Coefficients → Header → Site → ℕ → List Term → Fraction
sum_over k header site d [] = whole 0
sum_over k header site d (term ∷ terms) =
    product_over d (parts_of k header.segments header.crossings site term) +ᶠ sum_over k header site d terms

unfoldable pub predicted_under : Coefficients → Header → Site → ℕ → Fraction
predicted_under k header site d = sum_under k header site d (terms_of header site)

unfoldable pub predicted_over : Coefficients → Header → Site → ℕ → Fraction
predicted_over k header site d = sum_over k header site d (terms_of header site)
