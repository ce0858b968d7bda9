-- Laws of the sites that a run of numbers gives: how many, where each stands, and that every list of valid sites can be given.
use Rattle.std.specs.Prelude.{◌≡◌, List, [], ◌∷◌, ◌++◌, get_or, drop}
use Rattle.std.proofs.Math.Path.{refl, ap}
use Rattle.std.proofs.Common.{◌∙◌}
use Prim.Native.Nat.{ℕ, zero, suc, ◌+◌, ◌*◌, ◌<◌}
use native.Mathlib.Omega.{arith}
use Rattle.std.proofs.Math.ListN.{length}
use Rattle.laws.specs.Quotient.{quotient_up_lem}
use Rattle.site.specs.declared.values.Site.{Site}
use Rattle.unit.specs.SiteNumbers.{site_run, site_from, site_numbers}
use Rattle.unit.specs.FileNumbers.{site_count, given_from, sites_given}

module _ (numbers : List ℕ) where
  from_count : (left i : ℕ) → length (given_from left i numbers) ≡ left
  unfolding given_from
  from_count zero i = refl
  from_count (suc left) i = ap suc (from_count left (suc i))

  from_at : (left i j : ℕ) (d : Site) → j < left → get_or (given_from left i numbers) j d ≡ site_from (drop (site_numbers * (i + j)) numbers)
  unfolding given_from
  from_at zero i j d h = absurd (omega arith)
  from_at (suc left) i zero d h = let at : site_numbers * i ≡ site_numbers * (i + 0) = omega arith in ap (λ (k : ℕ). site_from (drop k numbers)) at
  from_at (suc left) i (suc j) d h =
      let at : site_numbers * (suc i + j) ≡ site_numbers * (i + suc j) = omega arith in
      from_at left (suc i) j d (omega arith) ∙ ap (λ (k : ℕ). site_from (drop k numbers)) at

  -- HOW MANY, and each at its place, which the numbers have
  pub given_count : length (sites_given numbers) ≡ site_count (length numbers)
  unfolding sites_given
  given_count = from_count (site_count (length numbers)) 0

  module _ (i : ℕ) (h : i < site_count (length numbers)) where
    pub given_at : (d : Site) → get_or (sites_given numbers) i d ≡ site_from (drop (site_numbers * i) numbers)
    unfolding sites_given
    given_at d =
        let at : site_numbers * (0 + i) ≡ site_numbers * i = omega arith in
        from_at (site_count (length numbers)) 0 i d h ∙ ap (λ (k : ℕ). site_from (drop k numbers)) at

    pub given_within : site_numbers * i < length numbers
    given_within = omega (arith, (quotient_up_lem (length numbers) site_numbers (omega arith)).near)

-- EVERY LIST OF VALID SITES CAN BE GIVEN, by the run of each, which `crash_site_read` leaves
unfoldable pub sites_run : List Site → List ℕ
sites_run [] = []
sites_run (site ∷ sites) = site_run site ++ sites_run sites
