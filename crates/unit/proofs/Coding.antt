-- Laws of Coding in specs/.
use Rattle.std.specs.Prelude.{Ok}
use Rattle.std.specs.Prelude.{Option, None, Some}
use Rattle.std.specs.Prelude.{◌≡◌, refl, true, List, [], ◌∷◌, ◌++◌, map, ℕ, zero, suc, ◌+◌, ◌<◌, ◌≤◌, length, get_or, take, drop}
use Rattle.std.proofs.Common.{ap, sym, ◌∙◌, lt_of_not-le, length-drop, length-take-le, drop-cons, drop-drop, take-add, take_all, lt-ltb, le-ltb, ltb-true, le-leb}
use Rattle.std.proofs.Math.Decide.{dec_lt}
use native.Mathlib.Omega.{arith, by_contra}
use Rattle.std.proofs.lemmas.List.{length-map}
use Rattle.std.proofs.Math.ListN.{get_or-map}
use Rattle.std.proofs.lemmas.Bool.{lt-leb}
use Rattle.site.specs.declared.rules.Rule.{Rule}
use Rattle.site.specs.declared.values.Site.{Site}
use Rattle.site.specs.Rules.{entries_of, slot_count, later_years, traffic, absent}
use Rattle.site.specs.Yearly.{later_slots}
use Rattle.site.specs.Writing.{slots_of, curve_held, fits, all_fit, later_fits, sound, Valid}
use Rattle.laws.specs.Truth.{and_left, and_right}
use Rattle.site.specs.Tested.{top, top_low, every, allows_top, tested_rules}
use Rattle.site.specs.Ranges.{tests, valid_kind}
use Rattle.site.specs.LaterLaws.{firsts}
use Rattle.unit.specs.SiteNumbers.{all_slots, site_of_all, all_count, code, read_values, slot_from, kind_from, slot_numbers, site_from, site_numbers}
use Rattle.unit.specs.Coding.{low}
use Rattle.unit.specs.Coding.{low, too_large}

-- and a number up to 65,536 is the code of the slot that it is read as
pub code_again : (number : ℕ) → number ≤ 65536 → code (slot_from number) ≡ number
code_again number h = by (dec_lt number 65536)
  where
    by : Dec (number < 65536) → code (slot_from number) ≡ number
    by (yes l) = rw (lt-ltb number 65536 l)
    by (no l) = let e : number ≡ 65536 = omega arith in rw e

numbers_again : (numbers : List ℕ) → every low (map slot_from numbers) ≡ true → map code (map slot_from numbers) ≡ numbers
unfolding every
numbers_again [] e = refl
numbers_again (number ∷ numbers) e =
    let l : low (slot_from number) ≡ true = and_left _ _ e in
    let small = by_contra number 65536 (λ h. omega (arith, ltb-true 65535 65535 (rw (too_large number h) at l))) in
    rw (code_again number small, numbers_again numbers (and_right (low (slot_from number)) _ e))

-- ALL THE SLOTS of a valid site are low: those within rules that take no number above 65,534, and those of later years
fit_low : (rule : Rule) (slot : Option ℕ) → top_low rule ≡ true → fits rule slot ≡ true → low slot ≡ true
fit_low rule None t f = refl
fit_low rule (Some value) t f = lt-ltb value 65535 (omega (arith, ltb-true (top rule) 65535 t, allows_top rule value f))

fits_low : (rules : List Rule) (slots : List (Option ℕ)) → all_fit rules slots ≡ true → every top_low rules ≡ true → length slots ≤ length rules
    → every low slots ≡ true
unfolding all_fit every
fits_low rules [] f t l = refl
fits_low [] (slot ∷ slots) f t l = absurd (omega arith)
fits_low (rule ∷ rules) (slot ∷ slots) f t l =
    rw (
      fit_low rule slot (and_left _ _ t) (and_left _ _ f),
      fits_low rules slots (and_right (fits rule slot) _ f) (and_right (top_low rule) _ t) (omega arith),
    )

absent_low : (slot : Option ℕ) → absent slot ≡ true → low slot ≡ true
absent_low None e = refl
absent_low (Some value) e = let z : ◌≡◌ {A = ℕ} 0 1 = cc in absurd (omega arith)

later_low : (later : ℕ) (slots : List (Option ℕ)) → later_fits later slots ≡ true → every low slots ≡ true
unfolding later_fits every
later_low later [] e = refl
later_low zero (slot ∷ slots) e = rw (absent_low slot (and_left _ _ e), later_low zero slots (and_right (absent slot) _ e))
later_low (suc later) (slot ∷ slots) e = rw (fit_low traffic slot refl (and_left _ _ e), later_low later slots (and_right (fits traffic slot) _ e))

every_more : (slots more : List (Option ℕ)) → every low slots ≡ true → every low more ≡ true → every low (slots ++ more) ≡ true
unfolding every
every_more [] more e f = f
every_more (slot ∷ slots) more e f = rw (and_left (low slot) _ e) (every_more slots more (and_right (low slot) _ e) f)

pub valid_low : (edition years : ℕ) (site : Site) → Valid edition years site → every low (all_slots site) ≡ true
valid_low edition years site valid =
    let t = tests edition years site valid in
    let s = tested_rules edition site.kind (curve_held (entries_of edition site.kind) (slots_of site)) (valid_kind edition years site valid) in
    every_more (slots_of site) _ (fits_low _ (slots_of site) t.fit s.tops_low (omega (arith, s.count)))
    (every_more (later_slots site.later_traffic) _ (later_low _ _ t.later_traffic) (later_low _ _ t.later_minor))

-- all the slots of a site are those that it was made of
firsts_part : (n i : ℕ) (slots : List (Option ℕ)) → i + n ≤ length slots → firsts n i slots ≡ take n (drop i slots)
unfolding firsts
firsts_part zero i slots h = refl
firsts_part (suc n) i slots h =
    let w : i < length slots = omega arith in
    rw (drop-cons slots i None w) (ap (λ (l : List (Option ℕ)). get_or slots i None ∷ l) (firsts_part n (suc i) slots (omega arith)))

parts_again : (a b c : ℕ) (slots : List (Option ℕ)) → length slots ≡ a + (b + c)
    → firsts a 0 slots ++ (firsts b 0 (drop a slots) ++ firsts c 0 (drop (a + b) slots)) ≡ slots
parts_again a b c slots e =
    rw (
      firsts_part a 0 slots (omega arith),
      firsts_part b 0 (drop a slots) (omega (arith, length-drop a slots)),
      firsts_part c 0 (drop (a + b) slots) (omega (arith, length-drop (a + b) slots)),
      ← drop-drop b a slots,
      ← take-add b c (drop a slots),
      ← take-add a (b + c) slots,
    )
    (take_all (a + (b + c)) slots (omega arith))

slots_of_all : (kind : ℕ) (slots : List (Option ℕ)) → length slots ≡ all_count → all_slots (site_of_all kind slots) ≡ slots
unfolding firsts
slots_of_all kind slots e = parts_again slot_count later_years later_years slots e

-- the numbers of a site that is outside no range are those that it was read from
module _ (edition years : ℕ) (numbers : List ℕ) (within : sound edition years (site_from numbers) ≡ true) where
  valid : Valid edition years (site_from numbers)
  valid = record { is_sound = within }

  pub enough : site_numbers ≤ length numbers
  unfolding site_from
  enough =
      by_contra site_numbers (length numbers) (λ h.
      let kind : (site_from numbers).kind ≡ 255 = rw (lt-leb site_numbers (length numbers) h) in
      omega (arith, kind, valid_kind edition years (site_from numbers) valid))

  slots_count : length (map slot_from (slot_numbers numbers)) ≡ all_count
  slots_count = length-map (slot_numbers numbers) slot_from ∙ length-take-le all_count (drop 1 numbers) (omega (arith, length-drop 1 numbers, enough))

  from_parts : site_from numbers ≡ site_of_all (kind_from (get_or numbers 0 0)) (map slot_from (slot_numbers numbers))
  unfolding site_from
  from_parts = rw (le-leb site_numbers (length numbers) enough)

  kind_from_lem : (site_from numbers).kind ≡ kind_from (get_or numbers 0 0)
  kind_from_lem = ap (λ (site : Site). site.kind) from_parts

  pub kind_small : get_or numbers 0 0 < 256
  kind_small =
      lt_of_not-le (λ h.
      let e : kind_from (get_or numbers 0 0) ≡ 255 = rw (le-ltb (get_or numbers 0 0) 256 h) in
      omega (arith, e, kind_from_lem, valid_kind edition years (site_from numbers) valid))

  slots_again : all_slots (site_from numbers) ≡ map slot_from (slot_numbers numbers)
  slots_again = rw from_parts (slots_of_all (kind_from (get_or numbers 0 0)) (map slot_from (slot_numbers numbers)) slots_count)

  numbers_kept : map code (map slot_from (slot_numbers numbers)) ≡ slot_numbers numbers
  numbers_kept = numbers_again (slot_numbers numbers) (sym (ap (every low) slots_again) ∙ valid_low edition years (site_from numbers) valid)

  pub slots_small : (i : ℕ) → get_or (slot_numbers numbers) i 0 ≤ 65536
  slots_small i =
      by_contra (get_or (slot_numbers numbers) i 0) 65536 (λ h.
      let e : 65535 ≡ get_or (slot_numbers numbers) i 0 = sym (ap code (too_large (get_or (slot_numbers numbers) i 0) h)) ∙ kept in omega arith)
    where
      kept : code (slot_from (get_or (slot_numbers numbers) i 0)) ≡ get_or (slot_numbers numbers) i 0
      kept =
          ap code (sym (get_or-map slot_from (slot_numbers numbers) i 0))
          ∙ sym (get_or-map code (map slot_from (slot_numbers numbers)) i (slot_from 0))
          ∙ ap (λ (run : List ℕ). get_or run i 0) numbers_kept

  pub values_again : (n : ℕ) → read_values (Ok ((site_from numbers), n)) ≡ take site_numbers numbers ++ (n ∷ [])
  values_again n =
      let kind : (site_from numbers).kind ≡ get_or numbers 0 0 = kind_from_lem ∙ rw (lt-ltb (get_or numbers 0 0) 256 kind_small) in
      ap (λ (k : ℕ). k ∷ (map code (all_slots (site_from numbers)) ++ (n ∷ []))) kind
      ∙ ap (λ (codes : List ℕ). get_or numbers 0 0 ∷ (codes ++ (n ∷ []))) (ap (map code) slots_again ∙ numbers_kept)
      ∙ by numbers enough
    where
      by : (run : List ℕ) → site_numbers ≤ length run → get_or run 0 0 ∷ (slot_numbers run ++ (n ∷ [])) ≡ take site_numbers run ++ (n ∷ [])
      by [] h = absurd (omega arith)
      by (number ∷ run) h = refl

-- THE LAW: the code of a slot that two bytes can hold is read as that slot
pub code_read : (slot : Option ℕ) → ((value : ℕ) → slot ≡ Some value → value < 65536) → slot_from (code slot) ≡ slot
code_read None small = refl
code_read (Some value) small = rw (lt-ltb value 65536 (small value refl))

slots_read : (slots : List (Option ℕ)) → every low slots ≡ true → map slot_from (map code slots) ≡ slots
unfolding every
slots_read [] e = refl
slots_read (slot ∷ slots) e = rw (code_read slot (small slot (and_left _ _ e)), slots_read slots (and_right (low slot) _ e))
  where
    small : (held : Option ℕ) → low held ≡ true → (value : ℕ) → held ≡ Some value → value < 65536
    small held l value q = omega (arith, ltb-true value 65535 (rw q at l))

-- THE SITE THAT A RUN STARTS WITH: kind and codes of a valid site, whatever follows them, are read as that site
pub site_read : (edition years : ℕ) (site : Site) (rest : List ℕ) → Valid edition years site
    → site_from (site.kind ∷ (map code (all_slots site) ++ rest)) ≡ site
unfolding site_from
site_read edition years site rest valid =
    let kind = valid_kind edition years site valid in
    rw (le-leb site_numbers (length (site.kind ∷ (map code (all_slots site) ++ rest))) (omega arith), lt-ltb site.kind 256 (omega arith))
    (ap (site_of_all site.kind) (slots_read (all_slots site) (valid_low edition years site valid)))
