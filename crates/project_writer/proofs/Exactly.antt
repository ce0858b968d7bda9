-- Laws of Exactly in specs/.
use Rattle.std.specs.Prelude.{Result, Ok, Err}
use Rattle.std.specs.Prelude.{◌≡◌, Bool, cond, List, ◌↔◌, ℕ, ◌+◌, length}
use Rattle.std.proofs.Math.Path.{refl}
use Rattle.std.proofs.Common.{ap, sym, subst}
use Rattle.std.proofs.Math.Bool.{true, false}
use native.Mathlib.Omega.{arith}
use Rattle.std.proofs.Math.Dec.{leb, ltb}
use borrow.Author.Tests.{ltb-true, lt-ltb, le-ltb, leb-true, leb-false, le-leb, lt-leb}
use Rattle.laws.specs.Truth.{not_both, never_so}
use Rattle.site.specs.declared.values.Site.{Site}
use Rattle.site.specs.Rules.{edition_known}
use Rattle.site.proofs.Tested.{unknown_neither, neither_unknown}
use Rattle.header.specs.declared.Header.{Header}
use Rattle.header.specs.Header.{admits, header_length}
use Rattle.header.proofs.HeaderLaws.{admitted, admits_both}
use Rattle.project_writer.specs.declared.course.FileRefusal.{FileRefusal}
use Rattle.project_writer.specs.declared.course.FileRefusal.TheVariants.{EditionUnknown, OutsideLimits, OutsideRange, TooShort}
use Rattle.project_writer.specs.ProjectFile.{records_of, file_of, sound_sites, file_answer, file_number, file_value}
use Rattle.project_writer.specs.Causes.{LimitsKept, Writable, FileCause, edition_neither, limits_broken, site_outside}
use Rattle.project_writer.specs.Causes.{space_short, file_fits}
use Rattle.project_writer.specs.Sound.{none_outside}
use Rattle.project_writer.proofs.Sound.{all_valid_exactly, first_outside, outside_sound}
use Rattle.project_writer.specs.Exactly.{FileTells}

module _ (header : Header) (sites : List Site) where
  -- the sites before the first that is outside its range
  abbrev counted : ℕ
  counted = sound_sites header.edition header.years sites

  pub file_length : length (file_of header sites) ≡ header_length + length (records_of header.edition sites)
  unfolding file_of
  file_length = omega arith

  -- what passes the tests of the limits and of the sites, and the converse
  pub limits_kept : admits header (length sites) ≡ true → LimitsKept header sites
  limits_kept e = let a = admitted header (length sites) e in (a.within, a.few)

  pub writable : edition_known header.edition ≡ true → admits header (length sites) ≡ true → counted ≡ length sites → Writable header sites
  writable x e all = record { edition = x; limits = limits_kept e; valid = (all_valid_exactly header.edition header.years sites).0 all }

  pub writable_admitted : Writable header sites → admits header (length sites) ≡ true
  writable_admitted w = admits_both header (length sites) w.limits

  pub writable_sound : Writable header sites → counted ≡ length sites
  writable_sound w = (all_valid_exactly header.edition header.years sites).1 w.valid

  module _ (room : ℕ) where
    answer_tells : FileTells header sites room (file_answer header sites room)
    unfolding file_answer
    answer_tells =
        by (edition_known header.edition) (admits header (length sites)) (ltb counted (length sites)) (leb (length (file_of header sites)) room) refl refl refl refl
      where
        by : (x a b c : Bool) → edition_known header.edition ≡ x → admits header (length sites) ≡ a → ltb counted (length sites) ≡ b
            → leb (length (file_of header sites)) room ≡ c → FileTells header sites room
            (cond x (cond a (cond b (Err (OutsideRange counted)) (cond c (Ok (length (file_of header sites))) (Err TooShort))) (Err OutsideLimits)) (Err EditionUnknown))
        by true true true c x p q r =
            (x, limits_kept p, first_outside header.edition header.years sites (ltb-true counted (length sites) q))
        by true true false true x p q r = (writable x p (none_outside header.edition header.years sites q), leb-true _ room r, refl)
        by true true false false x p q r = (writable x p (none_outside header.edition header.years sites q), leb-false _ room r)
        by true false b c x p q r = (x, λ kept. not_both _ (admits_both header (length sites) kept) p)
        by false a b c x p q r = x

    tells_answer : (answer : Result ℕ FileRefusal) → FileTells header sites room answer → file_answer header sites room ≡ answer
    unfolding file_answer
    tells_answer (Ok n) t =
        let w = t.0 in
        let all = writable_sound w in
        rw (w.edition, writable_admitted w, le-ltb counted (length sites) (omega arith), le-leb (length (file_of header sites)) room t.1) (ap Ok (sym t.2))
    tells_answer (Err EditionUnknown) t = rw t
    tells_answer (Err OutsideLimits) t = rw (t.0, never_so (admits header (length sites)) (λ e. t.1 (limits_kept e)))
    tells_answer (Err (OutsideRange index)) t =
        let is = outside_sound header.edition header.years sites index t.2 in
        let within = t.2.within in
        rw (t.0, admits_both header (length sites) t.1, lt-ltb counted (length sites) (omega arith)) (ap (λ (i : ℕ). Err (OutsideRange i)) is)
    tells_answer (Err TooShort) t =
        let w = t.0 in
        let all = writable_sound w in
        rw (w.edition, writable_admitted w, le-ltb counted (length sites) (omega arith), lt-leb (length (file_of header sites)) room t.1)

    -- EXACTLY WHERE
    pub answer_exactly : (answer : Result ℕ FileRefusal) → (file_answer header sites room ≡ answer) ↔ FileTells header sites room answer
    answer_exactly answer = (λ e. subst (FileTells header sites room) e answer_tells, tells_answer answer)

    cause_told : (answer : Result ℕ FileRefusal) → FileTells header sites room answer → FileCause header sites room (file_number answer) (file_value answer)
    cause_told (Ok n) t = rw t.2 (file_fits t.0 t.1)
    cause_told (Err EditionUnknown) t = let neither = unknown_neither header.edition t in edition_neither neither.0 neither.1
    cause_told (Err OutsideLimits) t = limits_broken t.0 t.1
    cause_told (Err (OutsideRange index)) t = site_outside t.0 t.1 t.2
    cause_told (Err TooShort) t = space_short t.0 t.1

    pub cause_of : FileCause header sites room (file_number (file_answer header sites room)) (file_value (file_answer header sites room))
    cause_of = cause_told (file_answer header sites room) answer_tells

    numbers_of : {number value : ℕ} → FileCause header sites room number value
        → (file_number (file_answer header sites room) ≡ number) × (file_value (file_answer header sites room) ≡ value)
    numbers_of (edition_neither one two) = rw (tells_answer (Err EditionUnknown) (neither_unknown header.edition one two)) (refl, refl)
    numbers_of (limits_broken x h) = rw (tells_answer (Err OutsideLimits) (x, h)) (refl, refl)
    numbers_of (site_outside {index} x l f) = rw (tells_answer (Err (OutsideRange index)) (x, l, f)) (refl, refl)
    numbers_of (space_short w h) = rw (tells_answer (Err TooShort) (w, h)) (refl, refl)
    numbers_of (file_fits w h) = rw (tells_answer (Ok (length (file_of header sites))) (w, h, refl)) (refl, refl)

    -- and so each number and value
    pub cause_exactly : (number value : ℕ)
        → ((file_number (file_answer header sites room) ≡ number) × (file_value (file_answer header sites room) ≡ value))
        ↔ FileCause header sites room number value
    cause_exactly number value = (λ e. rw (← e.0, ← e.1) cause_of, numbers_of)
