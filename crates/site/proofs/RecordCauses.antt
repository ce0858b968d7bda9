-- Laws of RecordCauses in specs/.
use Rattle.std.specs.Prelude.{Err}
use Rattle.site.specs.declared.refusal.Refusal.{Refusal}
use Rattle.site.specs.Refusals.{number_of, refusal_not_zero, err_answer_by}
use Rattle.std.proofs.Math.Path.{◌≡◌, ap, sym}
use Rattle.std.specs.Prelude.{refl, Bool, true, false, cond, ◌&&◌, ◌||◌, not, List, ◌↔◌, ℕ, zero, suc, ◌*◌, ◌<◌, ◌≤◌, length, drop, eqb}
use Rattle.std.proofs.Common.{◌∙◌, arith}
use Rattle.std.proofs.Math.Bool.{not-not}
use borrow.Author.Tests.{eqb-true, eqb-false, eq-eqb}
use Rattle.site.specs.Rules.{traffic, allows}
use Rattle.site.proofs.Tested.{unknown_neither, neither_unknown}
use Rattle.site.specs.Answers.{read_number}
use Rattle.site.specs.Record.{word, lacks, words, fields_number, kind_in, field_map_in, rules_in, later_in, later_minor_in, fields_in, later_at, later_minor_at}
use Rattle.site.specs.Record.{later_allowed, all_later_allowed, length_in, yearly_in_one, misses_in, refusal_of, read_site}
use Rattle.site.specs.Fields.{Field, map_bits, rows_of, field_at, field_in, bit_at, standing, numbers_in, value_at, number_at, fields_end, in_range}
use Rattle.site.specs.Fields.{spells_default}
use Rattle.laws.specs.Truth.{and_left, and_right, not_both, never_so, never_false, both_true}
use Rattle.site.specs.Accepted.{HeadPresent, MapPasses, Tried, edition_unknown, years_unknown, head_short, kind_unknown, map_lacks}
use Rattle.site.specs.Accepted.{map_misses, fields_short}
use Rattle.site.specs.Accepted.{later_refused, fields_tell, fields_long, tried, tried_number, number_read}
use Rattle.site.specs.ReadWrite.{value_taken}
use Rattle.site.specs.BitLaws.{yearly_told, later_told_lem, minor_told, bit_number, BitsTell, none_refused, first_refused, refused_first}
use Rattle.site.specs.Curve.{map_matched}
use Rattle.site.proofs.Curve.{misses_by_bits}
use Rattle.site.specs.FieldsRead.{rules_at, bits_held, each_has_bit, among}
use Rattle.site.proofs.FieldsRead.{by_bits, fields_by_bits, lacks_exactly}
use Rattle.site.proofs.FieldsRead.{words_standing, wrong_number_lem}
use Rattle.site.specs.FieldsRead.{wrong_number}
use Rattle.site.specs.LaterLaws.{allowed_at, Outside, some_outside}
use Rattle.site.specs.PlaceLaws.{BothStand, later_of, minor_of, end_of}
use Rattle.site.proofs.PlaceLaws.{passes_both}
use Rattle.site.proofs.PlaceLaws as place
use Rattle.site.specs.RecordCauses.{AllInRange, MapRight, NoneLacked, RecordCause, RightBelow, all_matched, bit_lacked, bit_missing, edition_neither, field_outside, field_past, field_spelled, kind_above, map_past, years_outside}

pub cause_not_zero : {edition years : ℕ} {s : List ℕ} {n : ℕ} → RecordCause edition years s n → n ≡ 0 → ⊥
cause_not_zero (edition_neither one two) e = omega arith
cause_not_zero (years_outside x y) e = omega arith
cause_not_zero (map_past x y h) e = omega arith
cause_not_zero (kind_above x y h k) e = omega arith
cause_not_zero (bit_lacked h b t l) e = omega arith
cause_not_zero (bit_missing h l m) e = omega arith
cause_not_zero (field_past m h) e = omega arith
cause_not_zero (field_outside b i r t h o) e = omega arith
cause_not_zero (field_spelled b r t i d) e = omega arith

-- the fields of bits 0 and 1 have the range of a traffic, and no default
record Leading (x : Field) : Type 0 where
  ranges : (number : ℕ) → in_range x number ≡ allows traffic number
  no_default : (number : ℕ) → spells_default x number ≡ false

leading : (edition kind b : ℕ) → b < 2 → Leading (field_at (rows_of edition kind) b)
unfolding field_at
leading edition zero zero h = record { ranges = λ number. refl; no_default = λ number. refl }
leading edition zero (suc zero) h = record { ranges = λ number. refl; no_default = λ number. refl }
leading edition zero (suc (suc b)) h = absurd (omega arith)
leading edition (suc zero) zero h = record { ranges = λ number. refl; no_default = λ number. refl }
leading edition (suc zero) (suc zero) h = record { ranges = λ number. refl; no_default = λ number. refl }
leading edition (suc zero) (suc (suc b)) h = absurd (omega arith)
leading edition (suc (suc zero)) zero h = record { ranges = λ number. refl; no_default = λ number. refl }
leading edition (suc (suc zero)) (suc zero) h = record { ranges = λ number. refl; no_default = λ number. refl }
leading edition (suc (suc zero)) (suc (suc b)) h = absurd (omega arith)
leading edition (suc (suc (suc kind))) zero h = record { ranges = λ number. refl; no_default = λ number. refl }
leading edition (suc (suc (suc kind))) (suc zero) h = record { ranges = λ number. refl; no_default = λ number. refl }
leading edition (suc (suc (suc kind))) (suc (suc b)) h = absurd (omega arith)

some_number : (years : ℕ) (s : List ℕ) (b : ℕ) → 0 < numbers_in years s b
some_number years s zero = omega arith
some_number years s (suc zero) = omega arith
some_number years s (suc (suc b)) = omega arith

module _ (edition years : ℕ) (s : List ℕ) where
  -- where the head is there: what the definition's tests say, bit by bit
  module _ (head : HeadPresent edition years s) where
    lacks_none : lacks (rules_in edition s) (field_map_in s) ≡ false → NoneLacked edition s
    lacks_none e b t l = not_both _ ((lacks_exactly edition (kind_in s) (field_map_in s) head.known).1 (record { at = b; stands = t; holds = l })) e

    none_lacks : NoneLacked edition s → lacks (rules_in edition s) (field_map_in s) ≡ false
    none_lacks none = never_so _ (λ e. let r = (lacks_exactly edition (kind_in s) (field_map_in s) head.known).0 e in none r.at r.stands r.holds)

    missing : misses_in edition years s ≡ not (all_matched years s)
    missing =
        rw (misses_by_bits edition (kind_in s) (field_map_in s) head.known, yearly_told s) (by (map_matched (kind_in s) (field_map_in s)) (yearly_in_one years s))
      where
        by : (a b : Bool) → (not a || b) ≡ not (a && not b)
        by true true = refl
        by true false = refl
        by false b = refl

    matching : all_matched years s ≡ not (misses_in edition years s)
    matching = rw missing (sym (not-not _))

    counted : NoneLacked edition s → words (rules_in edition s) (field_map_in s) ≡ standing map_bits (field_map_in s)
    counted none = words_standing edition (kind_in s) (field_map_in s) head.known none

  map_right : MapPasses edition years s → MapRight edition years s
  map_right p = record { head = p.head; none_lacked = lacks_none p.head p.lack; all_matched = matching p.head ∙ ap not p.miss }

  passes_of : MapRight edition years s → MapPasses edition years s
  passes_of m = record { head = m.head; lack = none_lacks m.head m.none_lacked; miss = missing m.head ∙ ap not m.all_matched }

  ends : (p : MapPasses edition years s) → length_in edition years s ≡ fields_end years s
  ends p = end_of edition years s (passes_both edition years s p) (counted p.head (lacks_none p.head p.lack))

  -- where the map is right and the fields are there
  module _ (p : MapPasses edition years s) (full : length_in edition years s ≤ length s) where
    both : BothStand (field_map_in s)
    both = passes_both edition years s p

    stands_first : (b : ℕ) → b < 2 → bit_at b (field_map_in s) ≡ true
    stands_first zero h = eq-eqb _ 1 both.zeroth
    stands_first (suc zero) h = eq-eqb _ 1 both.first
    stands_first (suc (suc b)) h = absurd (omega arith)

    abbrev refused_at : ℕ → ℕ
    refused_at b = bit_number (rules_at edition (kind_in s) true) b (field_map_in s) (fields_in years s)

    refused_at_lem : (b : ℕ) → refused_at b ≡ cond (bit_at b (field_map_in s)) (wrong_number (field_in edition s b) (number_at years b s)) 0
    refused_at_lem b = rw (wrong_number_lem (field_in edition s b) _, place.number_of years s both (fields_long edition years s p full) b)

    -- a later value that is in its range, and one that is not
    first_later : (i : ℕ) → in_range (field_in edition s 0) (value_at years 0 (suc i) s) ≡ allows traffic (word (drop (2 * i) (later_at s)))
    first_later i = (leading edition (kind_in s) 0 (omega arith)).ranges _ ∙ ap (allows traffic) (sym (later_of years s i))

    second_later : (i : ℕ) → in_range (field_in edition s 1) (value_at years 1 (suc i) s) ≡ allows traffic (word (drop (2 * i) (later_minor_at years s)))
    second_later i = (leading edition (kind_in s) 1 (omega arith)).ranges _ ∙ ap (allows traffic) (sym (minor_of years s both i))

    -- where the later values of a traffic are in their range, its bit has all its numbers there if it has the first
    first_in : later_allowed (later_in years s) (later_at s) ≡ true → in_range (field_in edition s 0) (number_at years 0 s) ≡ true → AllInRange edition years s 0
    first_in r e zero h = e
    first_in r e (suc i) h = first_later i ∙ allowed_at (later_in years s) (later_at s) r i (omega (arith, later_told_lem years s))

    later_in_range : all_later_allowed years s ≡ true → (b i : ℕ) → suc i < numbers_in years s b
        → in_range (field_in edition s b) (value_at years b (suc i) s) ≡ true
    later_in_range r zero i h =
        first_later i ∙ allowed_at (later_in years s) (later_at s) (and_left (later_allowed (later_in years s) (later_at s)) _ r) i (omega (arith, later_told_lem years s))
    later_in_range r (suc zero) i h =
        second_later i ∙ allowed_at (later_minor_in years s) (later_minor_at years s) (and_right (later_allowed (later_in years s) (later_at s)) _ r) i (omega (arith, minor_told years s))
    later_in_range r (suc (suc b)) i h = absurd (omega arith)

    all_in : all_later_allowed years s ≡ true → (b : ℕ) → in_range (field_in edition s b) (number_at years b s) ≡ true → AllInRange edition years s b
    all_in r b e zero h = e
    all_in r b e (suc i) h = later_in_range r b i h

    -- and numbers that are all in their range have later values there
    in_allowed : AllInRange edition years s 0 → AllInRange edition years s 1 → all_later_allowed years s ≡ true
    in_allowed first second = both_true _ _ (never_false _ one) (never_false _ two)
      where
        one : later_allowed (later_in years s) (later_at s) ≡ false → ⊥
        one e =
            let o = some_outside (later_in years s) (later_at s) e in
            not_both _ (first (suc o.at) (omega (arith, o.below, later_told_lem years s))) (first_later o.at ∙ o.outside)

        two : later_allowed (later_minor_in years s) (later_minor_at years s) ≡ false → ⊥
        two e =
            let o = some_outside (later_minor_in years s) (later_minor_at years s) e in
            not_both _ (second (suc o.at) (omega (arith, o.below, minor_told years s))) (second_later o.at ∙ o.outside)

    nothing_below : RightBelow edition years s 0
    nothing_below =
        record { map_right = map_right p; present = omega (arith, ends p); in_range = λ c h. absurd (omega arith); not_spelled = λ c h. absurd (omega arith) }

    -- THE LATER VALUES TELL 8
    later_cause : all_later_allowed years s ≡ false → RecordCause edition years s 8
    later_cause e = by (later_allowed (later_in years s) (later_at s)) refl e
      where
        second : later_allowed (later_in years s) (later_at s) ≡ true → Outside (later_minor_in years s) (later_minor_at years s)
            → (b : Bool) → in_range (field_in edition s 0) (number_at years 0 s) ≡ b → RecordCause edition years s 8
        second r o false q = field_outside 0 0 nothing_below (stands_first 0 (omega arith)) (omega arith) q
        second r o true q =
            field_outside 1 (suc o.at) (record {
              map_right = map_right p;
              present = omega (arith, ends p);
              in_range = λ c h t. one c h;
              not_spelled = λ c h t. (leading edition (kind_in s) c (omega arith)).no_default _;
            }) (stands_first 1 (omega arith)) (omega (arith, o.below, minor_told years s)) (second_later o.at ∙ o.outside)
          where
            one : (c : ℕ) → c < 1 → AllInRange edition years s c
            one zero h = first_in r q
            one (suc c) h = absurd (omega arith)

        by : (b : Bool) → later_allowed (later_in years s) (later_at s) ≡ b → (b && later_allowed (later_minor_in years s) (later_minor_at years s)) ≡ false
            → RecordCause edition years s 8
        by false r q =
            let o = some_outside (later_in years s) (later_at s) r in
            field_outside 0 (suc o.at) nothing_below (stands_first 0 (omega arith)) (omega (arith, o.below, later_told_lem years s)) (first_later o.at ∙ o.outside)
        by true r q = second r (some_outside (later_minor_in years s) (later_minor_at years s) q) _ refl

    -- the fields' first refusal is the first bit that is refused
    module _ (allowed : all_later_allowed years s ≡ true) where
      right_below : (b : ℕ) → ((c : ℕ) → c < b → refused_at c ≡ 0) → RightBelow edition years s b
      right_below b below =
          record {
            map_right = map_right p;
            present = omega (arith, ends p);
            in_range = λ c h t. all_in allowed c (right c h t).0;
            not_spelled = λ c h t. (right c h t).1;
          }
        where
          right : (c : ℕ) → c < b → bit_at c (field_map_in s) ≡ true
              → (in_range (field_in edition s c) (number_at years c s) ≡ true) × (spells_default (field_in edition s c) (number_at years c s) ≡ false)
          right c h t = value_taken _ _ (rw t at (sym (refused_at_lem c) ∙ below c h))

      field_cause : {number : ℕ} → (number ≡ 0 → ⊥)
          → BitsTell (bits_held (kind_in s)) (rules_at edition (kind_in s) true) (field_map_in s) (fields_in years s) number
          → RecordCause edition years s number
      field_cause ne (none_refused all) = absurd (ne refl)
      field_cause {number} ne (first_refused some b is below) = by b (right_below b below) _ _ _ refl refl refl (sym (refused_at_lem b) ∙ is)
        where
          by : (b : ℕ) → RightBelow edition years s b → (t i d : Bool) → bit_at b (field_map_in s) ≡ t → in_range (field_in edition s b) (number_at years b s) ≡ i
              → spells_default (field_in edition s b) (number_at years b s) ≡ d → cond t (cond i (cond d 9 0) 8) 0 ≡ number
              → RecordCause edition years s number
          by b r true true true q i d z = rw (← z) (field_spelled b r q (all_in allowed b i) d)
          by b r true true false q i d z = absurd (ne (sym z))
          by b r true false d q i w z = rw (← z) (field_outside b 0 r q (some_number years s b) i)
          by b r false i d q w x z = absurd (ne (sym z))

  cause_of : {n : ℕ} → Tried edition years s n → (n ≡ 0 → ⊥) → RecordCause edition years s n
  cause_of (edition_unknown x) ne = let neither = unknown_neither edition x in edition_neither neither.0 neither.1
  cause_of (years_unknown x y) ne = years_outside x y
  cause_of (head_short x y h) ne = map_past x y h
  cause_of (kind_unknown x y l k) ne = kind_above x y l k
  cause_of (map_lacks h l) ne = let w = (lacks_exactly edition (kind_in s) (field_map_in s) h.known).0 l in bit_lacked h w.at w.stands w.holds
  cause_of (map_misses h l m) ne = bit_missing h (lacks_none h l) (matching h ∙ ap not m)
  cause_of (fields_short p f) ne = field_past (map_right p) (omega (arith, ends p))
  cause_of (later_refused p f r) ne = later_cause p f r
  cause_of (fields_tell p f r) ne = field_cause p f r ne (fields_by_bits edition (kind_in s) (field_map_in s) (fields_in years s) p.head.known)

  -- and a cause tells the number
  module _ (b : ℕ) (r : RightBelow edition years s b) (stood : bit_at b (field_map_in s) ≡ true) where
    passing : MapPasses edition years s
    passing = passes_of r.map_right

    there : length_in edition years s ≤ length s
    there = omega (arith, r.present, ends passing)

    below : (c : ℕ) → c < b → refused_at passing there c ≡ 0
    below c h = refused_at_lem passing there c ∙ by (bit_at c (field_map_in s)) refl
      where
        by : (t : Bool) → bit_at c (field_map_in s) ≡ t → cond t (wrong_number (field_in edition s c) (number_at years c s)) 0 ≡ 0
        by true t = rw (r.in_range c h t 0 (some_number years s c), r.not_spelled c h t)
        by false t = refl

    field_number : (number : ℕ) → wrong_number (field_in edition s b) (number_at years b s) ≡ number → (number ≡ 0 → ⊥)
        → fields_number (rules_in edition s) (field_map_in s) (fields_in years s) ≡ number
    field_number number e ne =
        (by_bits edition (kind_in s) (field_map_in s) (fields_in years s) passing.head.known).number
        ∙ refused_first (bits_held (kind_in s)) (rules_at edition (kind_in s) true) (field_map_in s) (fields_in years s) number b (each_has_bit edition (kind_in s) true) ne
        (among edition (kind_in s) b (r.map_right.none_lacked b stood)) (refused_at_lem passing there b ∙ rw stood e) below

    outside_told : (i : ℕ) → i < numbers_in years s b → in_range (field_in edition s b) (value_at years b i s) ≡ false → Tried edition years s 8
    outside_told i h o = by (all_later_allowed years s) refl i h o
      where
        by : (a : Bool) → all_later_allowed years s ≡ a → (i : ℕ) → i < numbers_in years s b → in_range (field_in edition s b) (value_at years b i s) ≡ false
            → Tried edition years s 8
        by false e i h o = later_refused passing there e
        by true e zero h o = rw (← field_number 8 (rw o) (λ z. omega arith)) (fields_tell passing there e)
        by true e (suc i) h o = not_both _ (later_in_range passing there e b i h) o

    spelled_told : AllInRange edition years s b → spells_default (field_in edition s b) (number_at years b s) ≡ true → Tried edition years s 9
    spelled_told all d =
        rw (← field_number 9 (rw (all 0 (some_number years s b), d)) (λ z. omega arith)) (fields_tell passing there (by b r d))
      where
        by : (b : ℕ) → RightBelow edition years s b → spells_default (field_in edition s b) (number_at years b s) ≡ true → all_later_allowed years s ≡ true
        by zero r d = not_both _ d ((leading edition (kind_in s) 0 (omega arith)).no_default _)
        by (suc zero) r d = not_both _ d ((leading edition (kind_in s) 1 (omega arith)).no_default _)
        by (suc (suc b)) r d =
            in_allowed passing there (r.in_range 0 (omega arith) (stands_first passing there 0 (omega arith)))
            (r.in_range 1 (omega arith) (stands_first passing there 1 (omega arith)))

  tried_of : {n : ℕ} → RecordCause edition years s n → Tried edition years s n
  tried_of (edition_neither one two) = edition_unknown (neither_unknown edition one two)
  tried_of (years_outside x y) = years_unknown x y
  tried_of (map_past x y h) = head_short x y h
  tried_of (kind_above x y h k) = kind_unknown x y h k
  tried_of (bit_lacked h b t l) = map_lacks h ((lacks_exactly edition (kind_in s) (field_map_in s) h.known).1 (record { at = b; stands = t; holds = l }))
  tried_of (bit_missing h l m) = map_misses h (none_lacks h l) (missing h ∙ ap not m)
  tried_of (field_past m h) = fields_short (passes_of m) (omega (arith, ends (passes_of m)))
  tried_of (field_outside b i r t h o) = outside_told b r t i h o
  tried_of (field_spelled b r t i d) = spelled_told b r t i d

  pub cause_number : {n : ℕ} → RecordCause edition years s n → refusal_of edition years s ≡ n
  cause_number c = tried_number edition years s (tried_of c)

  record_cause : (number : ℕ) → refusal_of edition years s ≡ number → (number ≡ 0 → ⊥) → RecordCause edition years s number
  record_cause number e = cause_of (rw e at (tried edition years s))

  -- THE NUMBER IS THE FIRST CAUSE'S
  pub record_cause_exactly : (n : ℕ) → ((refusal_of edition years s ≡ n) × (n ≡ 0 → ⊥)) ↔ RecordCause edition years s n
  record_cause_exactly n = (λ h. record_cause n h.0 h.1, λ c. (cause_number c, cause_not_zero c))

  -- AND NONE IS FOUND WHERE THE READER REFUSES NOTHING
  pub no_record_cause : (refusal_of edition years s ≡ 0) ↔ ((n : ℕ) → RecordCause edition years s n → ⊥)
  no_record_cause = (λ e n c. cause_not_zero c (sym (cause_number c) ∙ e), λ none. by none (eqb (refusal_of edition years s) 0) refl)
    where
      by : ((n : ℕ) → RecordCause edition years s n → ⊥) → (b : Bool) → eqb (refusal_of edition years s) 0 ≡ b → refusal_of edition years s ≡ 0
      by none true t = eqb-true (refusal_of edition years s) 0 t
      by none false t =
          absurd (none (refusal_of edition years s) (record_cause (refusal_of edition years s) refl (eqb-false (refusal_of edition years s) 0 t)))

  -- so the reader gives a refusal exactly where the cause with its number is the first
  pub refused_by_cause : (refused : Refusal) → (read_site edition years s ≡ Err refused) ↔ RecordCause edition years s (number_of refused)
  unfolding read_site
  refused_by_cause refused = (
    λ e. record_cause (number_of refused) (sym (number_read edition years s) ∙ ap read_number e) (refusal_not_zero refused),
    λ c. err_answer_by (refusal_of edition years s) _ refused (cause_number c),
  )
