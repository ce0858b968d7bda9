-- Laws of SameTraffic in specs/.
use Prim.Native.Nat.{ℕ, zero, suc, ◌-◌, ◌*◌, ◌≤◌}
use Rattle.std.specs.Prelude.{◌≡◌, Bool, cond, List, [], ◌∷◌, eqb}
use Rattle.std.proofs.Math.Path.{refl}
use Rattle.std.proofs.Common.{ap, le_of_mul-le-mul_right}
use Rattle.std.proofs.Math.Bool.{true, false}
use native.Mathlib.Omega.{arith}
use Rattle.estimate.specs.Fraction.{Fraction, fraction, ◌÷◌, whole, ◌=ᶠ◌, ◌+ᶠ◌, ◌*ᶠ◌}
use Rattle.site.specs.declared.values.Site.{Site}
use Rattle.site.specs.Yearly.{yearly}
use Rattle.header.specs.declared.Header.{Header}
use Rattle.model.specs.Coefficients.{Coefficients}
use Rattle.model.specs.Parts.{Part, Term, exact, term_at, segment_start, segment_parts, crossing_start, crossing_parts, parts_of}
use Rattle.model.specs.Expected.{overdispersion_of, expected_under, expected_over}
use Rattle.model.specs.ExpectedLaws.{history_same}
use Rattle.model.specs.Predicted.{product_under, product_over, term_of, year_term, later_terms, yearly_terms, terms_of, sum_under, sum_over, predicted_under, predicted_over}
use Rattle.model.specs.SameTraffic.{SameAt, SameFrom, of_one_traffic}

-- a product whose first factor has so many times the numerator of another's
scaled : (years : ℕ) (x y rest : Fraction) → x.num ≡ years * y.num → x.den ≡ y.den → x *ᶠ rest =ᶠ whole years *ᶠ (y *ᶠ rest)
unfolding ◌*ᶠ◌ whole fraction
scaled years x y rest e f = record { cross = rw (e, f) (omega arith) }

-- A PRODUCT IS IN PROPORTION TO THE YEARS OF ITS TERM, under or over
module _ (product : List Part → Fraction) (exactly : (x : Fraction) (parts : List Part) → product (exact x ∷ parts) ≡ x *ᶠ product parts)
    (k : Coefficients) (segments crossings : ℕ) (site : Site) (traffic minor years : ℕ) where
  by_years : product (parts_of k segments crossings site (term_at years traffic minor))
      =ᶠ whole years *ᶠ product (parts_of k segments crossings site (term_at 1 traffic minor))
  unfolding segment_parts crossing_parts ◌÷◌ fraction
  by_years = by (eqb site.kind 0)
    where
      by : (segment : Bool)
          → product (cond segment (segment_parts k segments site (term_at years traffic minor)) (crossing_parts k crossings site (term_at years traffic minor)))
          =ᶠ whole years
          *ᶠ product (cond segment (segment_parts k segments site (term_at 1 traffic minor)) (crossing_parts k crossings site (term_at 1 traffic minor)))
      by true =
          rw (exactly (segment_start segments site (term_at years traffic minor)) _, exactly (segment_start segments site (term_at 1 traffic minor)) _)
          (scaled years _ _ _ (omega arith) refl)
      by false =
          rw (exactly (crossing_start crossings (term_at years traffic minor)) _, exactly (crossing_start crossings (term_at 1 traffic minor)) _)
          (scaled years _ _ _ (omega arith) refl)

-- one more of the same
one_more : (n all : ℕ) → suc n ≡ all → (p s : Fraction) → s =ᶠ whole n *ᶠ p → p +ᶠ s =ᶠ whole all *ᶠ p
unfolding ◌+ᶠ◌ ◌*ᶠ◌ whole fraction
one_more n all f p s e = record { cross = rw (← f) (omega (arith, ap (λ (x : ℕ). x * p.den) e.cross)) }

-- what are both so many times the same are equal
same_times : (n : ℕ) (p s t : Fraction) → s =ᶠ whole n *ᶠ p → t =ᶠ whole n *ᶠ p → s =ᶠ t +ᶠ whole 0
unfolding ◌+ᶠ◌ ◌*ᶠ◌ whole fraction
same_times n p s t e f =
    let left = ap (λ (x : ℕ). x * t.den) e.cross in
    let right = ap (λ (x : ℕ). x * s.den) f.cross in
    let most : s.num * t.den ≤ t.num * s.den = le_of_mul-le-mul_right {k = p.den} (omega (arith, left, right)) p.pos in
    let least : t.num * s.den ≤ s.num * t.den = le_of_mul-le-mul_right {k = p.den} (omega (arith, left, right)) p.pos in
    record { cross = omega arith }

-- each is then a term of one year, as the first year's
same_term : (site : Site) (i : ℕ) → SameAt site i → year_term site i ≡ term_of 1 site
same_term site i same = rw (same.0, same.1) refl

-- A SUM OVER TERMS, under or over, of products that are in proportion to the years
module _ (product : Term → Fraction) (sum : List Term → Fraction) (none : sum [] ≡ whole 0)
    (more : (term : Term) (terms : List Term) → sum (term ∷ terms) ≡ product term +ᶠ sum terms) (site : Site)
    (by_the_years : (years : ℕ) → product (term_of years site) =ᶠ whole years *ᶠ product (term_of 1 site)) where
  later_sum : (i count : ℕ) → SameFrom site i count → sum (later_terms site i count) =ᶠ whole count *ᶠ product (term_of 1 site)
  unfolding later_terms ◌*ᶠ◌ whole fraction
  later_sum i zero same = rw none (record { cross = omega arith })
  later_sum i (suc count) same =
      let rest = later_sum (suc i) count (λ j l m. same j (omega arith) (omega arith)) in
      rw (more (year_term site i) (later_terms site (suc i) count), same_term site i (same i (omega arith) (omega arith)))
      (one_more count _ refl (product (term_of 1 site)) (sum (later_terms site (suc i) count)) rest)

  same_sum : (years : ℕ) → 1 ≤ years → SameFrom site 0 (years - 1) → sum (yearly_terms years site) =ᶠ sum (term_of years site ∷ [])
  same_sum years some same =
      let all = one_more (years - 1) years (omega arith) (product (term_of 1 site)) (sum (later_terms site 0 (years - 1))) (later_sum 0 (years - 1) same) in
      rw (more (term_of 1 site) (later_terms site 0 (years - 1)), more (term_of years site) [], none)
      (same_times years (product (term_of 1 site)) _ _ all (by_the_years years))

-- THE SAME TRAFFIC IN EVERY YEAR gives the estimates of one traffic for all the years
module _ (k : Coefficients) (header : Header) (site : Site) (d : ℕ) (some : 1 ≤ header.years) (each : yearly site ≡ true)
    (same : SameFrom site 0 (header.years - 1)) where
  pub same_under : predicted_under k header site d =ᶠ predicted_under k header (of_one_traffic site) d
  unfolding predicted_under sum_under product_under terms_of segment_parts crossing_parts
  same_under =
      rw each
      (same_sum (λ term. product_under d (parts_of k header.segments header.crossings site term)) (sum_under k header site d) refl
      (λ term terms. refl) site (by_years (product_under d) (λ x parts. refl) k header.segments header.crossings site _ _) header.years some same)

  pub same_over : predicted_over k header site d =ᶠ predicted_over k header (of_one_traffic site) d
  unfolding predicted_over sum_over product_over terms_of segment_parts crossing_parts
  same_over =
      rw each
      (same_sum (λ term. product_over d (parts_of k header.segments header.crossings site term)) (sum_over k header site d) refl
      (λ term terms. refl) site (by_years (product_over d) (λ x parts. refl) k header.segments header.crossings site _ _) header.years some same)

  -- "the history still covers the whole period": it is weighed against the same prediction
  pub same_expected_under : expected_under k header site d =ᶠ expected_under k header (of_one_traffic site) d
  unfolding expected_under
  same_expected_under = history_same (overdispersion_of k site) site.observed same_under

  pub same_expected_over : expected_over k header site d =ᶠ expected_over k header (of_one_traffic site) d
  unfolding expected_over
  same_expected_over = history_same (overdispersion_of k site) site.observed same_over
