-- Laws of Malformed in specs/.
use Rattle.std.specs.Prelude.{◌≡◌, true, List, ℕ, ◌+◌, ◌*◌, ◌<◌, ◌≤◌, length, get_or, drop}
use Rattle.std.proofs.Math.Path.{refl}
use Rattle.std.proofs.Common.{◌∙◌, length-drop, get_or-take, get_or-drop}
use Rattle.std.proofs.Math.Bool.{false}
use native.Mathlib.Omega.{arith, by_contra}
use Rattle.site.specs.declared.values.Site.{Site}
use Rattle.site.specs.Rules.{edition_known, years_known}
use Rattle.site.proofs.Tested.{neither_unknown}
use Rattle.site.specs.Writing.{sound_site, sound, write_refusal, Valid}
use Rattle.laws.specs.Quotient.{quotient_up_lem}
use Rattle.laws.specs.Truth.{not_both, never_so}
use Rattle.site.specs.Promises.{number_written}
use Rattle.header.specs.declared.Header.{Header}
use Rattle.header.specs.Header.{in_limits}
use Rattle.project_writer.specs.Causes.{LimitsKept, FileCause, edition_neither, limits_broken, site_outside, space_short, file_fits}
use Rattle.unit.specs.SiteNumbers.{all_count, slot_numbers, site_from, site_numbers, WritesNumbers}
use Rattle.unit.specs.LineNumbers.{line_order, LinesNumbers}
use Rattle.unit.specs.FileNumbers.{site_count, sites_given, WritesFile}
use Rattle.unit.proofs.Coding.{enough, kind_small, slots_small}
use Rattle.unit.specs.Given.{given_count, given_at}

module _ (edition years : ℕ) (numbers : List ℕ) where
  -- fewer numbers than a kind and all the slots
  pub few_outside : length numbers < site_numbers → sound edition years (site_from numbers) ≡ false
  few_outside h = never_so _ (λ e. omega (arith, enough edition years numbers e))

  -- a kind above 255
  pub kind_outside : 255 < get_or numbers 0 0 → sound edition years (site_from numbers) ≡ false
  kind_outside h = never_so _ (λ e. omega (arith, kind_small edition years numbers e))

  -- a slot above 65,536, of a later year too
  pub slot_outside : (i : ℕ) → i < all_count → 65536 < get_or numbers (1 + i) 0 → sound edition years (site_from numbers) ≡ false
  slot_outside i h large =
      let at : get_or (slot_numbers numbers) i 0 ≡ get_or numbers (1 + i) 0 = get_or-take all_count (drop 1 numbers) i 0 h ∙ get_or-drop 1 numbers i 0 in
      never_so _ (λ e. omega (arith, at, slots_small edition years numbers e i))

  -- what the writer answers then: 8, after the edition's 3 and the years' 4
  module _ (before afterwards : List ℕ) (length_before length_after number : ℕ) where
    abbrev Writes : Type 0
    Writes = WritesNumbers edition years numbers before afterwards length_before length_after number

    pub three_written : edition_known edition ≡ false → Writes → number ≡ 3
    unfolding write_refusal
    three_written x w = w.number_is ∙ number_written edition years (site_from numbers) (length before) ∙ rw x refl

    pub four_written : edition_known edition ≡ true → years_known years ≡ false → Writes → number ≡ 4
    unfolding write_refusal
    four_written x e w = w.number_is ∙ number_written edition years (site_from numbers) (length before) ∙ rw (x, e) refl

    pub eight_written : edition_known edition ≡ true → years_known years ≡ true → sound edition years (site_from numbers) ≡ false → Writes → number ≡ 8
    unfolding write_refusal sound
    eight_written x known e w =
        let outside : sound_site edition years (site_from numbers) ≡ false = rw (x, known) at e in
        w.number_is ∙ number_written edition years (site_from numbers) (length before) ∙ rw (x, known, outside) refl

module _ (numbers before afterwards : List ℕ) (number : ℕ) (header : Header) where
  -- of a line 8, after the edition's 3 and the header's 4
  pub three_lined : edition_known header.edition ≡ false → LinesNumbers header numbers before afterwards number → number ≡ 3
  unfolding line_order
  three_lined x l = l.in_order ∙ rw x refl

  pub four_lined : edition_known header.edition ≡ true → in_limits header ≡ false → LinesNumbers header numbers before afterwards number → number ≡ 4
  unfolding line_order
  four_lined x e l = l.in_order ∙ rw (x, e) refl

  pub eight_lined : edition_known header.edition ≡ true → in_limits header ≡ true → sound header.edition header.years (site_from numbers) ≡ false
      → LinesNumbers header numbers before afterwards number → number ≡ 8
  unfolding line_order
  eight_lined x e f l = l.in_order ∙ rw (x, e, f) refl

  -- of a file after the edition's 3 and the header's 4, with the index of the first such site
  module _ (value : ℕ) (known : edition_known header.edition ≡ true) (kept : LimitsKept header (sites_given numbers)) (i : ℕ) (h : i < site_count (length numbers))
      (f : sound header.edition header.years (site_from (drop (site_numbers * i) numbers)) ≡ false) where
    not_valid : ((d : Site) → Valid header.edition header.years (get_or (sites_given numbers) i d)) → ⊥
    not_valid valid =
        let site = site_from (drop (site_numbers * i) numbers) in
        not_both (sound header.edition header.years site) (rw (given_at numbers i h site) at (valid site).is_sound) f

    pub eight_filed : WritesFile header numbers before afterwards value number → (number ≡ 8) × (value ≤ i)
    eight_filed w = by w.cause
      where
        by : {told at : ℕ} → FileCause header (sites_given numbers) (length before) told at → (told ≡ 8) × (at ≤ i)
        by (edition_neither one two) = absurd (not_both _ known (neither_unknown header.edition one two))
        by (limits_broken edition broken) = absurd (broken kept)
        by (site_outside {index} edition limits first) = (refl, by_contra index i (λ g. not_valid (λ d. first.earlier i d (omega arith))))
        by (space_short writable short) = absurd (not_valid (λ d. writable.valid i d (rw given_count h)))
        by (file_fits writable fits) = absurd (not_valid (λ d. writable.valid i d (rw given_count h)))

-- numbers left at the end, fewer than a site's
pub rest_filed : (numbers before afterwards : List ℕ) (header : Header) (value number : ℕ) → edition_known header.edition ≡ true
    → LimitsKept header (sites_given numbers)
    → (whole rest : ℕ) → length numbers ≡ site_numbers * whole + rest → 0 < rest → rest < site_numbers
    → WritesFile header numbers before afterwards value number → (number ≡ 8) × (value ≤ whole)
rest_filed numbers before afterwards header value number known kept whole rest long some few =
    let up = quotient_up_lem (length numbers) site_numbers (omega arith) in
    eight_filed numbers before afterwards number header value known kept whole (omega (arith, up.above))
    (few_outside header.edition header.years (drop (site_numbers * whole) numbers) (omega (arith, length-drop (site_numbers * whole) numbers)))
