-- WHAT IS NEEDED of an edition's overdispersions, and that each edition has it.
use Rattle.std.specs.Prelude.{ℕ, zero, suc, ◌+◌, ◌*◌, ◌≤◌, ◌<◌, ◌≡◌, refl, Bool, true, false, cond, eqb}
use Rattle.std.proofs.Common.{mul-le-mul_left, mul-le-mul_right, arith, lit<, lit≤, eqb-true}
use Rattle.estimate.specs.Fraction.{Fraction, ◌≤ᶠ◌, fraction, ◌÷◌, whole, ◌+ᶠ◌, ◌*ᶠ◌}
use Rattle.estimate.specs.FractionLaws.{÷-num, ÷-den}
use Rattle.site.specs.declared.values.Site.{Site}
use Rattle.site.specs.Writing.{Valid}
use Rattle.site.specs.Numbers.{number, site_traffic, segment_sizes}
use Rattle.model.specs.Coefficients.{Coefficients, by_kind, dispersion_by_kind, dispersion_by_length, edition_one, edition_two, coefficients_of}
use Rattle.model.specs.Editions.{by_edition}
use Rattle.model.specs.Expected.{overdispersion_of}
use Rattle.model.specs.StatedWidths.{predicted_each, expected_each, sites_counted, crashes_counted}
use Rattle.model.proofs.TermLaws.{by_count}

-- sizes of kn / kd with which the code's numbers fit
pub record Overdispersed (kn kd : ℕ) : Type 0 where
  pub kn_most : kn ≤ 1000
  pub kd_least : 0 < kd
  pub kd_most : kd ≤ 20000

-- a site that counts as n, and its O crashes, which count for a fraction: 4 n (1 + kO) and the 2 of the roundings are at most 8 times both
pub record Weighs (kn kd O n : ℕ) (crashes : Fraction) : Type 0 where
  pub some : 1 ≤ n
  pub enough : (predicted_each * n * (kd + kn * O) + 2 * kd) * crashes.den ≤ expected_each * (n * crashes.den + crashes.num) * kd

-- a crash counts for at least k
pub record Dispersed (c : Coefficients) : Type 0 where
  pub sizes : (edition years : ℕ) (site : Site) → Valid edition years site → let k = overdispersion_of c site in Overdispersed k.num k.den
  pub counted : (kind length : ℕ) → c.overdispersion kind length ≤ᶠ c.crash_count kind length

-- crashes that count for k each are enough
count_enough : (k count : Fraction) (O n : ℕ) → k ≤ᶠ count → 1 ≤ n → Weighs k.num k.den O n (whole (n * O) *ᶠ count)
unfolding whole fraction ◌*ᶠ◌
count_enough k count O n h some = record {
  some = some;
  enough = omega (arith, mul-le-mul_left (n * O) h.cross, mul-le-mul_right (k.den * count.den) some);
}

pub weighs : {c : Coefficients} → Dispersed c → (years : ℕ) (site : Site) → 1 ≤ years → let k = overdispersion_of c site in
    Weighs k.num k.den (number site.observed) (sites_counted years site) (crashes_counted c years site)
unfolding crashes_counted
weighs {c} dispersed years site some =
    count_enough (overdispersion_of c site) _ (number site.observed) (sites_counted years site) (dispersed.counted _ _)
    (by_count (λ n. 1 ≤ n) years site some (lit≤ tt))

-- K BY KIND ALONE is at most 1
most_of_kind : (kind : ℕ) → by_kind 31 54 24 11 kind ≤ 54
most_of_kind zero = lit≤ tt
most_of_kind (suc zero) = lit≤ tt
most_of_kind (suc (suc zero)) = lit≤ tt
most_of_kind (suc (suc (suc zero))) = lit≤ tt
most_of_kind (suc (suc (suc (suc kind)))) = lit≤ tt

kind_sizes : (kind : ℕ) → Overdispersed (dispersion_by_kind kind).num (dispersion_by_kind kind).den
unfolding ◌÷◌ fraction
kind_sizes kind = record { kn_most = omega (arith, most_of_kind kind); kd_least = lit< tt; kd_most = lit≤ tt }

kind_counted : (kind : ℕ) → dispersion_by_kind kind ≤ᶠ whole 1
unfolding ◌÷◌ whole fraction
kind_counted kind = record { cross = omega (arith, most_of_kind kind) }

-- K BY LENGTH, from a thousandth of a mile to twenty miles
length_sizes : (length : ℕ) → 1 ≤ length → length ≤ 20000 → Overdispersed (dispersion_by_length length).num (dispersion_by_length length).den
length_sizes length least most =
    rw (÷-num 236 length, ÷-den 236 length least) (record { kn_most = lit≤ tt; kd_least = least; kd_most = most })

length_counted : (length : ℕ) → dispersion_by_length length ≤ᶠ whole 1 +ᶠ dispersion_by_length length
unfolding ◌+ᶠ◌ whole fraction
length_counted length = record { cross = omega arith }

-- EDITION 1
edition_one_dispersed : Dispersed edition_one
unfolding edition_one
edition_one_dispersed = record { sizes = λ edition years site valid. kind_sizes site.kind; counted = λ kind length. kind_counted kind }

-- EDITION 2: a segment by its length
edition_two_sizes : (edition years : ℕ) (site : Site) → Valid edition years site
    → let k = overdispersion_of edition_two site in Overdispersed k.num k.den
unfolding edition_two
edition_two_sizes edition years site valid = by (eqb site.kind 0) refl
  where
    by : (b : Bool) → eqb site.kind 0 ≡ b
        → let k = cond b (dispersion_by_length (number site.length)) (dispersion_by_kind site.kind) in Overdispersed k.num k.den
    by true e =
        let s = segment_sizes edition years site valid (eqb-true site.kind 0 e) _ (site_traffic edition years site valid) in
        length_sizes (number site.length) s.length_least s.length_most
    by false e = kind_sizes site.kind

edition_two_counted : (kind length : ℕ) → edition_two.overdispersion kind length ≤ᶠ edition_two.crash_count kind length
unfolding edition_two
edition_two_counted kind length = by (eqb kind 0)
  where
    by : (b : Bool) → cond b (dispersion_by_length length) (dispersion_by_kind kind) ≤ᶠ cond b (whole 1 +ᶠ dispersion_by_length length) (whole 1)
    by true = length_counted length
    by false = kind_counted kind

edition_two_dispersed : Dispersed edition_two
edition_two_dispersed = record { sizes = edition_two_sizes; counted = edition_two_counted }

pub edition_dispersed : (edition : ℕ) → Dispersed (coefficients_of edition)
edition_dispersed = by_edition Dispersed edition_one_dispersed edition_two_dispersed
