-- NO PREDICTION IS 0: the under-estimate of a valid site is above 0 at every depth.
use Rattle.std.specs.Prelude.{ℕ, ◌-◌, ◌*◌, ◌≤◌, ◌<◌, ◌≡◌, refl, Bool, cond, ltb, eqb}
use Rattle.std.proofs.Math.Bool.{true, false}
use mathlib.Core.List.{List, [], ◌∷◌, map}
use Rattle.std.proofs.Common.{lit<, lit≤, pos_of_ne-zero, arith, eqb-true}
use Rattle.std.proofs.Math.Nat.{mul-pos}
use Rattle.std.proofs.lemmas.Bool.{eqb-false}
use Rattle.estimate.specs.Fraction.{Fraction, fraction, ◌÷◌, whole, ◌+ᶠ◌, ◌*ᶠ◌}
use Rattle.estimate.specs.FractionLaws.{÷-num, positive_above, lesser_by}
use Rattle.estimate.specs.Power.{power_under}
use Rattle.estimate.proofs.PowerLaws.{power_under-≥-one}
use Rattle.estimate.specs.SignedExponent.{Plus}
use Rattle.estimate.proofs.SignedExponent.{signed_under_positive}
use Rattle.site.specs.declared.values.Site.{Site}
use Rattle.site.specs.Writing.{Valid}
use Rattle.site.specs.Numbers.{segment_of, crossing_of, segment_sizes, crossing_sizes}
use Rattle.model.specs.Coefficients.{Coefficients}
use Rattle.model.specs.Access.{driveway_at, driveway_part}
use Rattle.model.specs.Crossings.{skew_exponent}
use Rattle.model.specs.Parts.{Term, base_exponent, hazard_exponent}
use Rattle.model.specs.Parts.{Factor, Exact, Base, Hazard, Driveways, MajorTraffic, MinorTraffic, Skew, part_of}
use Rattle.model.specs.Parts.{segment_factors, crossing_factors, segment_start, crossing_start, segment_parts, crossing_parts, parts_of}
use Rattle.model.proofs.FactorBounds.{capped}
use Rattle.header.specs.declared.Header.{Header}
use Rattle.header.specs.HeaderLaws.{HeaderWithin}
use Rattle.model.specs.Predicted.{product_under, term_of, later_terms, sum_under, predicted_under}
use Rattle.model.specs.TermLaws.{by_years}
use Rattle.prediction.specs.Kept.{Rated, FactorSized, AllSized, segment_sized, crossing_sized}
use Rattle.prediction.specs.Terms.{TermSizes, first_sized}

times : (x y : Fraction) → 0 < x.num → 0 < y.num → 0 < (x *ᶠ y).num
unfolding ◌*ᶠ◌
times x y h k = mul-pos h k

one : 0 < (whole 1).num
unfolding whole fraction
one = lit< tt

quotient : (n d : ℕ) → 0 < n → 0 < (n ÷ d).num
quotient n d h = rw (÷-num n d) h

power_positive : (d A p : ℕ) → 1 ≤ A → 0 < (power_under d A p 100).num
power_positive d A p h = positive_above one (power_under-≥-one A p 100 (lit< tt) h d)

module _ (k : Coefficients) (rated : Rated k) where
  driveway_positive : (count : ℕ) (ln : Fraction) → 0 < (driveway_part k count ln).num
  unfolding driveway_part
  driveway_positive count ln = by (ltb count k.fewest_driveways)
    where
      by : (b : Bool) → 0 < (cond b (whole 1) (driveway_at k.driveway_constant count ln)).num
      by true = one
      by false =
          let constant : 0 < k.driveway_constant = omega (arith, rated.constant_least) in
          quotient _ _ (omega (arith, mul-pos constant ln.pos))

  -- EACH FACTOR
  factor_positive : (d : ℕ) (factor : Factor) → FactorSized factor → 0 < ((part_of k factor).under d).num
  factor_positive d (Exact factor) s = (capped k rated.bounded factor s).positive
  factor_positive d (Base kind) s = signed_under_positive d (base_exponent k kind)
  factor_positive d (Hazard rating) s = signed_under_positive d (hazard_exponent rating)
  factor_positive d (Driveways count traffic) s =
      lesser_by _ _ (λ (x : Fraction). 0 < x.num) (λ _. driveway_positive count _) (λ _. driveway_positive count _)
  factor_positive d (MajorTraffic kind traffic) s = power_positive d _ _ s.2.least
  factor_positive d (MinorTraffic kind traffic) s = power_positive d _ _ s.2.least
  factor_positive d (Skew kind degrees) s = signed_under_positive d (Plus (skew_exponent kind * degrees))

  product_positive : (d : ℕ) (factors : List Factor) → AllSized factors → 0 < (product_under d (map (part_of k) factors)).num
  unfolding product_under
  product_positive d [] s = one
  product_positive d (factor ∷ factors) s = times _ _ (factor_positive d factor s.0) (product_positive d factors s.1)

  -- A TERM of a site
  module _ (header : Header) (limits : HeaderWithin header) (site : Site) (valid : Valid header.edition header.years site) (d : ℕ) where
    module _ (term : Term) (sizes : TermSizes site term) where
      segment_positive : site.kind ≡ 0 → 0 < (product_under d (segment_parts k header.segments site term)).num
      unfolding segment_parts product_under
      segment_positive e =
          let v = segment_of term.traffic site in
          let s = segment_sizes header.edition header.years site valid e _ sizes.traffic in
          let years = mul-pos sizes.years_least limits.segments_least in
          times (segment_start header.segments site term) (product_under d (map (part_of k) (segment_factors v)))
          (quotient _ _ (mul-pos (mul-pos (mul-pos years s.traffic.least) s.length_least) (lit< tt)))
          (product_positive d (segment_factors v) (segment_sized v s))

      crossing_positive : 1 ≤ site.kind → 0 < (product_under d (crossing_parts k header.crossings site term)).num
      unfolding crossing_parts product_under
      crossing_positive from =
          let v = crossing_of term.traffic term.minor site in
          let s = crossing_sizes header.edition header.years site valid from _ _ sizes.traffic (sizes.minor from) in
          times (crossing_start header.crossings term) (product_under d (map (part_of k) (crossing_factors v)))
          (quotient _ _ (mul-pos sizes.years_least limits.crossings_least)) (product_positive d (crossing_factors v) (crossing_sized v s))

      term_positive : 0 < (product_under d (parts_of k header.segments header.crossings site term)).num
      term_positive = by (eqb site.kind 0) refl
        where
          by : (b : Bool) → eqb site.kind 0 ≡ b
              → 0 < (product_under d (cond b (segment_parts k header.segments site term) (crossing_parts k header.crossings site term))).num
          by true e = segment_positive (eqb-true site.kind 0 e)
          by false e = crossing_positive (pos_of_ne-zero (eqb-false site.kind 0 e))

      -- with any terms after it
      sum_positive : (terms : List Term) → 0 < (sum_under k header site d (term ∷ terms)).num
      unfolding sum_under ◌+ᶠ◌
      sum_positive terms = omega (arith, mul-pos term_positive (sum_under k header site d terms).pos)

    -- A SITE: its first term is above 0
    pub predicted_positive : 0 < (predicted_under k header site d).num
    unfolding predicted_under
    predicted_positive =
        by_years (λ terms. 0 < (sum_under k header site d terms).num) header site
        (λ each. sum_positive (term_of 1 site) (first_sized header limits site valid 1 (lit≤ tt) (lit≤ tt)) (later_terms site 0 (header.years - 1)))
        (λ all. sum_positive (term_of header.years site) (first_sized header limits site valid _ limits.years_least limits.years_most) [])
