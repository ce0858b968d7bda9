-- Laws of Sound in specs/.
use Rattle.std.specs.Prelude.{◌≡◌, refl, Bool, true, false, cond, List, [], ◌∷◌, ◌↔◌, ℕ, zero, suc, ◌<◌, ◌≤◌, length, get_or, ltb}
use Rattle.std.proofs.Common.{arith, ltb-true, ltb-false}
use Rattle.laws.specs.Truth.{not_both}
use Rattle.site.specs.declared.values.Site.{Site}
use Rattle.site.specs.Writing.{sound, Valid}
use Rattle.project_writer.specs.ProjectFile.{sound_sites}
use Rattle.project_writer.specs.Causes.{ValidBelow, FirstOutside}
use Rattle.project_writer.specs.Sound.{sound_most}

-- the sites that are counted are valid
sound_valid : (edition years : ℕ) (sites : List Site) → ValidBelow edition years sites (sound_sites edition years sites)
unfolding sound_sites
sound_valid edition years [] i d h = absurd (omega arith)
sound_valid edition years (site ∷ sites) i d h = by (sound edition years site) refl i h (sound_valid edition years sites)
  where
    by : (b : Bool) → sound edition years site ≡ b → (i : ℕ) → i < cond b (suc (sound_sites edition years sites)) 0
        → ValidBelow edition years sites (sound_sites edition years sites)
        → Valid edition years (get_or (site ∷ sites) i d)
    by true q zero h later = record { is_sound = q }
    by true q (suc i) h later = later i d (omega arith)
    by false q i h later = absurd (omega arith)

-- the site after them is not
sound_ends : (edition years : ℕ) (sites : List Site) (d : Site) → sound_sites edition years sites < length sites
    → Valid edition years (get_or sites (sound_sites edition years sites) d) → ⊥
unfolding sound_sites
sound_ends edition years [] d h v = omega arith
sound_ends edition years (site ∷ sites) d h v = by (sound edition years site) refl h v (sound_ends edition years sites d)
  where
    by : (b : Bool) → sound edition years site ≡ b → cond b (suc (sound_sites edition years sites)) 0 < suc (length sites)
        → Valid edition years (get_or (site ∷ sites) (cond b (suc (sound_sites edition years sites)) 0) d)
        → (sound_sites edition years sites < length sites → Valid edition years (get_or sites (sound_sites edition years sites) d) → ⊥) → ⊥
    by true q h v later = later (omega arith) v
    by false q h v later = not_both (sound edition years site) v.is_sound q

-- and every valid site that only valid sites precede is counted
valid_sound : (edition years : ℕ) (sites : List Site) (n : ℕ) → n ≤ length sites → ValidBelow edition years sites n → n ≤ sound_sites edition years sites
unfolding sound_sites
valid_sound edition years [] n h valid = h
valid_sound edition years (site ∷ sites) zero h valid = omega arith
valid_sound edition years (site ∷ sites) (suc n) h valid =
    let later = valid_sound edition years sites n (omega arith) (λ i d k. valid (suc i) d (omega arith)) in
    let first = (valid 0 site (omega arith)).is_sound in
    rw first (omega arith)

module _ (edition years : ℕ) (sites : List Site) where
  -- ALL ARE VALID where all are counted
  pub all_valid_exactly : (sound_sites edition years sites ≡ length sites) ↔ ValidBelow edition years sites (length sites)
  all_valid_exactly = (
    λ e. rw e at (sound_valid edition years sites),
    λ valid. omega (arith, sound_most edition years sites, valid_sound edition years sites (length sites) (omega arith) valid),
  )

  -- THE FIRST OUTSIDE ITS RANGE where some are not
  pub first_outside : sound_sites edition years sites < length sites → FirstOutside edition years sites (sound_sites edition years sites)
  first_outside h = record { within = h; earlier = sound_valid edition years sites; outside = λ d. sound_ends edition years sites d h }

pub outside_sound : (edition years : ℕ) (sites : List Site) (index : ℕ) → FirstOutside edition years sites index → sound_sites edition years sites ≡ index
outside_sound edition years [] index f = absurd (omega arith)
outside_sound edition years (site ∷ sites) index f = by (ltb index (sound_sites edition years (site ∷ sites))) refl
  where
    by : (b : Bool) → ltb index (sound_sites edition years (site ∷ sites)) ≡ b → sound_sites edition years (site ∷ sites) ≡ index
    by true q = absurd (f.outside site (sound_valid edition years (site ∷ sites) index site (ltb-true index _ q)))
    by false q = omega (arith, ltb-false index _ q, valid_sound edition years (site ∷ sites) index (omega arith) f.earlier)
