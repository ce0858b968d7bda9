-- Laws of the count of sound sites: it is the index of the first site outside its range, and the length of a list whose sites are all valid.
use Rattle.std.specs.Prelude.{◌≡◌, refl, Bool, true, false, cond, List, [], ◌∷◌, ℕ, suc, ◌≤◌, length, ltb}
use Rattle.std.proofs.Common.{ap, arith, ltb-false}
use mathlib.Core.List.Memᴰ
use Rattle.site.specs.declared.values.Site.{Site}
use Rattle.site.specs.Writing.{sound, Valid}
use Rattle.project.specs.SitesRead.{ValidSites}
use Rattle.project_writer.specs.ProjectFile.{sound_sites}

module _ (edition years : ℕ) (site : Site) (sites : List Site) where
  pub sound_first : sound edition years site ≡ true → sound_sites edition years (site ∷ sites) ≡ suc (sound_sites edition years sites)
  unfolding sound_sites
  sound_first e = rw e

  pub outside_first : sound edition years site ≡ false → sound_sites edition years (site ∷ sites) ≡ 0
  unfolding sound_sites
  outside_first e = rw e

  -- where all are sound, the first is, and those after it
  pub all_sound : sound_sites edition years (site ∷ sites) ≡ length (site ∷ sites)
      → Valid edition years site × (sound_sites edition years sites ≡ length sites)
  all_sound e = by (sound edition years site) refl
    where
      by : (b : Bool) → sound edition years site ≡ b → Valid edition years site × (sound_sites edition years sites ≡ length sites)
      by true q = (record { is_sound = q }, omega (arith, sound_first q))
      by false q = absurd (omega (arith, outside_first q))

pub sound_most : (edition years : ℕ) (sites : List Site) → sound_sites edition years sites ≤ length sites
unfolding sound_sites
sound_most edition years [] = omega arith
sound_most edition years (site ∷ sites) = by (sound edition years site) (sound_most edition years sites)
  where
    by : (b : Bool) → sound_sites edition years sites ≤ length sites → cond b (suc (sound_sites edition years sites)) 0 ≤ suc (length sites)
    by true h = omega arith
    by false h = omega arith

-- all are counted where none is outside its range
pub none_outside : (edition years : ℕ) (sites : List Site) → ltb (sound_sites edition years sites) (length sites) ≡ false
    → sound_sites edition years sites ≡ length sites
none_outside edition years sites e = omega (arith, ltb-false (sound_sites edition years sites) (length sites) e, sound_most edition years sites)

-- the sites of an accepted file are counted
pub sites_sound : (edition years n : ℕ) (sites : List Site) → ValidSites edition years n sites → sound_sites edition years sites ≡ length sites
unfolding sound_sites
sites_sound edition years n [] v = refl
sites_sound edition years n (site ∷ sites) v =
    rw (v.valid site (Memᴰ.head refl)).is_sound
    (ap suc (sites_sound edition years (length sites) sites (record { count_is = refl; valid = λ value m. v.valid value (Memᴰ.tail m) })))
