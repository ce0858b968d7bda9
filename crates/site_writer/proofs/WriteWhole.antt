-- What the writer's steps say of a site, of its record's length, and of the answer and the buffer afterwards.
use Rattle.std.specs.Prelude.{Option, None, Some, Ok, Err}
use mathlib.Core.Path.{◌≡◌, refl, ap, sym, ◌∙◌}
use mathlib.Core.Bool.{Bool, true, false, cond, ◌&&◌, and-true}
use mathlib.Core.List.{List, [], ◌∷◌, ◌++◌}
use Prim.Native.Nat.{ℕ, ◌+◌, ◌*◌, ◌<◌, ◌≤◌}
use native.Mathlib.Omega.{arith}
use lib.ListN.{length, get_or, length-append}
use lib.Dec.{leb}
use borrow.Author.Tests.{lt-leb, le-leb}
use lib.Seq.{sets}
use Rattle.laws.specs.Stores.{Puts, sets_more}
use Rattle.site.specs.declared.rules.Rule.{Rule}
use Rattle.site.specs.declared.values.Site.{Site}
use Rattle.site.specs.declared.refusal.Refusal.{Refusal}
use Rattle.site.specs.declared.refusal.Refusal.TheVariants as refused
use Rattle.site.specs.Refusals.{checked}
use Rattle.site.specs.declared.rules.Rule.TheVariants.{Foreign}
use Rattle.site.specs.declared.kind.Kind.{Kind}
use Rattle.site.specs.Kinds.{number_of_kind, kind_known}
use Rattle.site.specs.Rules.{last_kind, edition_known, years_known, later_years, slot_count}
use Rattle.site.specs.Yearly.{later_slots, yearly, later_given, later_minor}
use Rattle.laws.specs.Truth.{and_left, and_right}
use Rattle.site.specs.Writing.{slots_of, rules_held, all_fit, map_of, two_bytes, field_bytes, bytes_of, later_bytes, spread_bytes, record_by, record_of, later_fits, later_sound, sound_site}
use Rattle.site.specs.Writing.{sound, Valid, measure_of}
use Rattle.site.specs.Writing.{write_refusal, write_answer, write_into}
use Rattle.site.specs.Tested.{bit_count, tested_rules}
use Rattle.site.proofs.WriteRead.{first_field, second_field, other_fields, bytes_parts}
use Rattle.site.specs.LaterLaws.{later_read_back}
use Rattle.site.proofs.Project.{project_refused, project_unsound}
use Rattle.site.proofs.Theorems.{ten_exactly}
use Rattle.site.proofs.Written.{length_answered, record_written}
use Rattle.site.specs.Promises.{MeasuresSite, measures_site, WritesSite, writes_site}

-- an edition or years outside their limits, a kind above the last, or later years that are not right are outside their range
module _ (edition years : ℕ) (site : Site) where
  not_measured : sound edition years site ≡ false → MeasuresSite edition years site None
  unfolding measure_of
  not_measured e = measures_site edition years site None (rw e)

  pub project_outside : {refused : Refusal} → checked (cond (edition_known edition) (cond (years_known years) 0 4) 3) ≡ Err refused → MeasuresSite edition years site None
  unfolding sound
  project_outside e = not_measured (project_unsound _ _ _ e)

  pub kind_outside : last_kind < site.kind → MeasuresSite edition years site None
  unfolding sound sound_site
  kind_outside h = not_measured (rw (lt-leb site.kind last_kind h) (by (edition_known edition) (years_known years)))
    where
      by : (a b : Bool) → (a && (b && false)) ≡ false
      by true true = refl
      by true false = refl
      by false b = refl

  pub later_outside : later_sound years site ≡ false → MeasuresSite edition years site None
  unfolding sound sound_site
  later_outside e =
      not_measured
      (rw e (by (edition_known edition) (years_known years) (leb site.kind last_kind) (all_fit (rules_held edition site.kind (slots_of site)) (slots_of site))))
    where
      by : (a b c d : Bool) → (a && (b && (c && (d && false)))) ≡ false
      by true true true true = refl
      by true true true false = refl
      by true true false d = refl
      by true false c d = refl
      by false b c d = refl

-- of any other the slots are found, and the rules that they are held to
pub record Found (edition : ℕ) (site : Site) (slots : List (Option ℕ)) (rules : List Rule) : Type 0 where
  pub kind_known : site.kind ≤ last_kind
  pub slots_are : slots ≡ slots_of site
  pub rules_are : rules ≡ rules_held edition site.kind slots

pub found : (edition : ℕ) (site : Site) (slots : List (Option ℕ)) (rules : List Rule) (kind : Kind) → number_of_kind kind ≡ site.kind
    → slots ≡ slots_of site
    → rules ≡ rules_held edition (number_of_kind kind) slots
    → Found edition site slots rules
found edition site slots rules kind k s r = record { kind_known = rw k at (kind_known kind); slots_are = s; rules_are = rw k at r }

module _ {edition : ℕ} {site : Site} {slots : List (Option ℕ)} {rules : List Rule} (f : Found edition site slots rules) where
  pub bits_few : bit_count rules ≤ 15
  bits_few = rw f.rules_are (tested_rules edition _ _ f.kind_known).few

  rules_count : length rules ≡ slot_count
  rules_count = rw f.rules_are (tested_rules edition _ _ f.kind_known).count

  slots_count : length slots ≡ slot_count
  slots_count = ap length f.slots_are

  record_is : record_of edition site
      ≡ record_by rules site.kind slots (yearly site) (later_slots site.later_traffic) (later_slots site.later_minor)
  record_is = rw (f.rules_are, f.slots_are) refl

  pub spread_long : length (record_of edition site)
      ≡ 3 + length (spread_bytes rules slots (later_bytes (later_slots site.later_traffic)) (later_bytes (later_slots site.later_minor)))
  unfolding record_by
  spread_long = omega (arith, ap length record_is)

  -- kind and map, and the fields behind them, are its record
  pub all_put : (before : List ℕ) {head after : List ℕ} (map : ℕ) {place : ℕ} → map ≡ map_of rules slots + cond (yearly site) 32768 0
      → head ≡ sets before 0 (site.kind ∷ two_bytes map)
      → Puts head 3 (spread_bytes rules slots (later_bytes (later_slots site.later_traffic)) (later_bytes (later_slots site.later_minor))) place after
      → (place ≡ length (record_of edition site)) × (after ≡ sets before 0 (record_of edition site))
  unfolding record_by
  all_put before map m h p =
      let spread = spread_bytes rules slots (later_bytes (later_slots site.later_traffic)) (later_bytes (later_slots site.later_minor)) in
      let is = record_is ∙ ap (λ (x : ℕ). site.kind ∷ (two_bytes x ++ spread)) (sym m) in
      (omega (arith, p.place_is, ap length is), p.stored ∙ rw h (sets_more before 0 (site.kind ∷ two_bytes map) spread) ∙ ap (sets before 0) (sym is))

  -- where its later years are right, its record has their bytes and those of its slots
  module _ (years : ℕ) (later : later_sound years site ≡ true) where
    abbrev given : ℕ
    given = later_given years site

    abbrev traffic : List ℕ
    traffic = later_bytes (later_slots site.later_traffic)

    abbrev minor : List ℕ
    minor = later_bytes (later_slots site.later_minor)

    traffic_long : length traffic ≡ 2 * given
    traffic_long = (later_read_back later_years given (later_slots site.later_traffic) [] refl (and_left (later_fits given (later_slots site.later_traffic)) _ later)).long

    minor_long : length minor ≡ 2 * later_minor site.kind given
    minor_long =
        (later_read_back later_years (later_minor site.kind given) (later_slots site.later_minor) [] refl
        (and_right (later_fits given (later_slots site.later_traffic)) _ later)).long

    record_long : length (record_of edition site) ≡ 3 + 2 * (given + later_minor site.kind given) + length (bytes_of rules slots)
    unfolding record_by spread_bytes
    record_long =
        let first = first_field rules slots in
        let one = field_bytes (get_or rules 1 Foreign) (get_or slots 1 None) in
        let two = field_bytes (get_or rules 2 Foreign) (get_or slots 2 None) in
        let rest = other_fields rules slots in
        omega (
          arith,
          traffic_long,
          minor_long,
          ap length (bytes_parts rules slots rules_count slots_count),
          ap (λ (x : List (Option ℕ)). length (spread_bytes (rules_held edition site.kind x) x traffic minor)) f.slots_are,
          ap (λ (x : List Rule). length (spread_bytes x slots traffic minor)) f.rules_are,
          length-append first (second_field rules slots ++ rest),
          length-append (second_field rules slots) rest,
          length-append one two,
          length-append first (traffic ++ (one ++ (two ++ (minor ++ rest)))),
          length-append traffic (one ++ (two ++ (minor ++ rest))),
          length-append one (two ++ (minor ++ rest)),
          length-append two (minor ++ rest),
          length-append minor rest,
        )

    -- and their measure is the site's
    module _ (kept : edition_known edition ≡ true) (known : years_known years ≡ true) where
      slots_tell : sound edition years site ≡ all_fit rules slots
      unfolding sound sound_site
      slots_tell = rw (kept, known, f.rules_are, f.slots_are, le-leb site.kind last_kind f.kind_known, later) (and-true _)

      pub measured_by : measure_of edition years site
          ≡ cond (all_fit rules slots) (Some (3 + 2 * (given + later_minor site.kind given) + length (bytes_of rules slots))) None
      unfolding measure_of
      measured_by = rw (slots_tell, record_long)

-- the writer's answers
module _ (edition years : ℕ) (site : Site) (before : List ℕ) where
  pub project_told : {refused : Refusal} → checked (cond (edition_known edition) (cond (years_known years) 0 4) 3) ≡ Err refused
      → WritesSite edition years site before before (Err refused)
  unfolding write_refusal write_answer write_into sound
  project_told e =
      let unsound = project_unsound (edition_known edition) (years_known years) (sound_site edition years site) e in
      writes_site edition years site before before _ (project_refused _ _ _ _ e) (rw unsound)

  pub outside : edition_known edition ≡ true → years_known years ≡ true → sound edition years site ≡ false
      → WritesSite edition years site before before (Err refused.OutsideRange)
  unfolding write_refusal write_answer write_into sound
  outside x y e =
      let f : sound_site edition years site ≡ false = rw (x, y) at e in
      writes_site edition years site before before (Err refused.OutsideRange) (rw (x, y, f)) (rw (x, y, f))

  pub room_refused : Valid edition years site → length before < length (record_of edition site) → WritesSite edition years site before before (Err refused.NoSpace)
  unfolding write_answer write_into
  room_refused v h =
      let l = lt-leb (length (record_of edition site)) (length before) h in
      writes_site edition years site before before (Err refused.NoSpace) (rw ((ten_exactly edition years site (length before)).1 (v, h))) (rw (v.is_sound, l))

  pub all_written : Valid edition years site → length (record_of edition site) ≤ length before
      → WritesSite edition years site before (sets before 0 (record_of edition site)) (Ok (length (record_of edition site)))
  all_written v h = writes_site edition years site before _ _ (sym (length_answered before v h)) (sym (record_written before v h))
