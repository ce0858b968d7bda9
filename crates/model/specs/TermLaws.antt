-- A SITE'S TERMS, one of all the years or one for each, are as many as the sites that it counts for.
use Rattle.std.specs.Prelude.{◌≡◌, refl, Bool, true, false, cond, List, [], ◌∷◌}
use Rattle.site.specs.declared.values.Site.{Site}
use Rattle.site.specs.Yearly.{yearly}
use Rattle.header.specs.declared.Header.{Header}
use Rattle.model.specs.Parts.{Term}
use Rattle.model.specs.Predicted.{term_of, yearly_terms, terms_of}

-- what holds of the terms of a site with later years, and of the one term of a site without
pub by_years : (P : List Term → Type 0) (header : Header) (site : Site) → (yearly site ≡ true → P (yearly_terms header.years site))
    → (yearly site ≡ false → P (term_of header.years site ∷ [])) → P (terms_of header site)
unfolding terms_of
by_years P header site each all = by (yearly site) refl
  where
    by : (b : Bool) → yearly site ≡ b → P (cond b (yearly_terms header.years site) (term_of header.years site ∷ []))
    by true e = each e
    by false e = all e
