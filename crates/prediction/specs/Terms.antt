-- THE SIZES OF A SITE'S TERMS: where the site is valid, the traffic of each year is within its range.
use Rattle.std.specs.Prelude.{None}
use Prim.Native.Nat.{ℕ, zero, suc, ◌+◌, ◌-◌, ◌≤◌, ◌<◌}
use Rattle.std.specs.Prelude.{◌≡◌, refl, true, cond, List, [], ◌∷◌, length, get_or}
use Rattle.std.proofs.Common.{◌∙◌, arith, lit≤}
use Rattle.site.specs.declared.values.Site.{Site}
use Rattle.site.specs.Rules.{most_years}
use Rattle.site.specs.Yearly.{later_slots, yearly}
use Rattle.site.specs.Writing.{Valid}
use Rattle.site.specs.Numbers.{number, TrafficSizes, site_traffic, crossing_minor, later_traffic_sizes, later_minor_sizes}
use Rattle.header.specs.declared.Header.{Header}
use Rattle.header.specs.HeaderLaws.{HeaderWithin}
use Rattle.model.specs.Parts.{Term, term_at}
use Rattle.model.specs.Predicted.{term_of, year_term, later_terms, yearly_terms, terms_of}
use Rattle.model.specs.TermLaws.{by_years}

-- a term of a site: its years and its traffic
pub record TermSizes (site : Site) (term : Term) : Type 0 where
  pub years_least : 1 ≤ term.years
  pub years_most : term.years ≤ most_years
  pub traffic : TrafficSizes term.traffic
  pub minor : 1 ≤ site.kind → TrafficSizes term.minor

abbrev pub AllTerms : Site → List Term → Type 0
AllTerms site [] = Unit
AllTerms site (term ∷ terms) = TermSizes site term × AllTerms site terms

module _ (header : Header) (limits : HeaderWithin header) (site : Site) (valid : Valid header.edition header.years site) where
  pub first_sized : (years : ℕ) → 1 ≤ years → years ≤ most_years → TermSizes site (term_of years site)
  first_sized years least most = record {
    years_least = least;
    years_most = most;
    traffic = site_traffic header.edition header.years site valid;
    minor = crossing_minor header.edition header.years site valid;
  }

  -- a later year of a site that has them
  module _ (each : yearly site ≡ true) where
    pub year_sized : (i : ℕ) → suc i < header.years → TermSizes site (year_term site i)
    year_sized i h = record {
      years_least = lit≤ tt;
      years_most = lit≤ tt;
      traffic = later_traffic_sizes header.edition header.years site valid each i h;
      minor = λ from. later_minor_sizes header.edition header.years site valid each from i h;
    }

    later_sized : (i count : ℕ) → i + count < header.years → AllTerms site (later_terms site i count)
    unfolding later_terms
    later_sized i zero h = tt
    later_sized i (suc count) h = (year_sized i (omega arith), later_sized (suc i) count (omega arith))

  -- ALL OF THEM
  pub terms_sized : AllTerms site (terms_of header site)
  terms_sized =
      by_years (AllTerms site) header site
      (λ each. (first_sized 1 (lit≤ tt) (lit≤ tt), later_sized each 0 (header.years - 1) (omega (arith, limits.years_least))))
      (λ all. (first_sized header.years limits.years_least limits.years_most, tt))

-- A TERM BY ITS PLACE: its years, and the traffics of its year
abbrev pub no_term : Term
no_term = term_at 0 0 0

abbrev pub traffic_in : Site → ℕ → ℕ
traffic_in site i = number (get_or (site.traffic ∷ later_slots site.later_traffic) i None)

abbrev pub minor_in : Site → ℕ → ℕ
minor_in site i = number (get_or (site.minor_traffic ∷ later_slots site.later_minor) i None)

later_at_lem : (site : Site) (from count i : ℕ) → i < count → get_or (later_terms site from count) i no_term ≡ year_term site (from + i)
unfolding later_terms
later_at_lem site from zero i h = absurd (omega arith)
later_at_lem site from (suc count) zero h = let e : from + 0 ≡ from = omega arith in rw e
later_at_lem site from (suc count) (suc i) h =
    let e : from + suc i ≡ suc from + i = omega arith in
    rw e (later_at_lem site (suc from) count i (omega arith))

pub term_at_lem : (header : Header) (site : Site) (i : ℕ) → i < cond (yearly site) header.years 1
    → get_or (terms_of header site) i no_term ≡ term_at (cond (yearly site) 1 header.years) (traffic_in site i) (minor_in site i)
term_at_lem header site i =
    by_years (λ terms. i < cond (yearly site) header.years 1 → get_or terms i no_term ≡ term_at (cond (yearly site) 1 header.years) (traffic_in site i) (minor_in site i))
    header site (λ e. rw e (each i)) (λ e. rw e (one i))
  where
    each : (i : ℕ) → i < header.years → get_or (yearly_terms header.years site) i no_term ≡ term_at 1 (traffic_in site i) (minor_in site i)
    each zero h = refl
    each (suc i) h = let e : 0 + i ≡ i = omega arith in later_at_lem site 0 (header.years - 1) i (omega arith) ∙ rw e refl

    one : (i : ℕ) → i < 1 → get_or (term_of header.years site ∷ []) i no_term ≡ term_at header.years (traffic_in site i) (minor_in site i)
    one zero h = refl
    one (suc i) h = absurd (omega arith)

pub sized_at : (site : Site) (terms : List Term) → AllTerms site terms → (i : ℕ) → i < length terms → TermSizes site (get_or terms i no_term)
sized_at site [] s i h = absurd (omega arith)
sized_at site (term ∷ terms) s zero h = s.0
sized_at site (term ∷ terms) s (suc i) h = sized_at site terms s.1 i (omega arith)
