-- Laws of ReadWrite in specs/.
use Rattle.std.specs.Prelude.{Ok}
use Rattle.std.specs.Prelude.{Option, None, Some}
use Rattle.std.specs.Prelude.{◌≡◌, refl, Bool, true, false, cond, ◌&&◌, ◌||◌, not, ℕ, zero, suc, ◌+◌, ◌-◌, ◌*◌, ◌/◌, ◌%◌, ◌<◌, ◌≤◌, length, drop, eqb}
use Rattle.std.proofs.Math.Path.{ap, sym}
use Rattle.std.proofs.Common.{◌∙◌, arith, length-drop, take-add, drop-drop, le-leb, ltb-false, eqb-true, eq-eqb}
use Rattle.std.proofs.Math.Bool.{or-true}
use mathlib.Core.List.{List, [], ◌∷◌, ◌++◌, append-nil}
use Rattle.std.proofs.Math.ListN.{take}
use Rattle.std.proofs.Math.Seq.{get_or-drop}
use Rattle.std.proofs.lemmas.Bool.{eqb-false}
use Rattle.site.specs.declared.rules.Rule.{Rule}
use Rattle.site.specs.declared.rules.Entry.{Entry}
use Rattle.site.specs.declared.rules.Entry.TheVariants.{Always, OnCurve}
use Rattle.site.specs.declared.values.Site.{Site}
use Rattle.site.specs.Rules.{entries_of, last_kind, later_years, slot_count, allows, absent_of, needed, bits, settle, absent, holds}
use Rattle.site.specs.Record.{word, bit_of, rest_of, stands, lacked_bit_stands, needed_bit_absent, any_field, lacks, misses}
use Rattle.site.specs.Record.{curved, rules_read, words, value_number, field_number, field_value, after, fields_number}
use Rattle.site.specs.Record.{fields_values, yearly_bit, kind_in, map_in, field_map_in, rules_in, later_in, later_minor_in, fields_in}
use Rattle.site.specs.Record.{later_read, later_allowed, later_at, later_minor_at, length_in, site_in, read_site}
use Rattle.site.specs.Writing.{slots_of, curve_held, rules_held, fits, all_fit, slot_bit, map_of, field_bytes, bytes_of, two_bytes, later_bytes, spread_bytes, record_by, record_of, Valid}
use Rattle.site.specs.Yearly.{later_slots, yearly, later_given}
use Rattle.site.specs.Ranges.{sound_by}
use Rattle.laws.specs.Truth.{and_left, and_right, or_left, or_right, both_zero}
use Rattle.site.specs.Digits.{Bytes, digit_whole, digit_most, bytes_of_word}
use Rattle.site.specs.Tested.{right, entry_right, bits_most, tested_rules, rules_lead, every}
use Rattle.site.specs.LaterLaws.{years_within, bit_most, whole_map, length_gathered, gathered_bytes, spread_again}
use Rattle.site.specs.LaterLaws.{LaterRewritten, later_rewritten, later_slots_of, later_given_lem, later_absent}
use Rattle.site.proofs.WriteRead.{first_field, second_field, other_fields, spread_parts, bytes_parts, first_long, second_long}
use Rattle.site.specs.Accepted.{Accepted, words_least, fields_long, later_most, reading}
use Rattle.site.specs.ReadWrite.{slots_of_site, value_taken}

-- an absent field is not written again
absent_unwritten : (rule : Rule) → slot_bit rule (absent_of rule) ≡ 0
absent_unwritten rule = by (absent_of rule) refl
  where
    by : (slot : Option ℕ) → absent_of rule ≡ slot → slot_bit rule slot ≡ 0
    by None e = refl
    by (Some value) e = rw (e, eq-eqb value value refl)

-- what one field that is read says to the writer
record RewrittenField (rule : Rule) (map : ℕ) (s : List ℕ) : Type 0 where
  pub fit : fits rule (field_value rule map s) ≡ true
  pub bit : slot_bit rule (field_value rule map s) ≡ bit_of rule map
  pub bytes : Bytes s → field_bytes rule (field_value rule map s) ≡ take (2 * bit_of rule map) s

module _ (rule : Rule) (map : ℕ) (s : List ℕ) (h : 2 * bit_of rule map ≤ length s) where
  rewritten_standing : bit_of rule map ≡ 1 → field_number rule map s ≡ 0 → RewrittenField rule map s
  rewritten_standing e nu =
      let n : value_number rule (word s) ≡ 0 = rw e at nu in
      let q = value_taken (allows rule (word s)) (holds (absent_of rule) (word s)) n in
      let one : bits rule ≡ 1 = omega (arith, digit_most (bits rule) map, bits_most rule) in
      let two : 2 ≤ length s = omega arith in
      record { fit = rw e q.0; bit = rw (e, q.1) one; bytes = λ bytes. rw (e, q.1, one) (bytes_of_word s bytes two) }

  rewritten_absent : bit_of rule map ≡ 0 → right rule ≡ true → needed_bit_absent rule map ≡ false → RewrittenField rule map s
  rewritten_absent e ri wa =
      let n : needed rule ≡ false = unneeded (needed rule) (rw e at wa) in
      let a = absent_unwritten rule in
      record { fit = rw e (rw n at ri); bit = rw e a; bytes = λ bytes. rw (e, a) }
    where
      unneeded : (b : Bool) → (b && true) ≡ false → b ≡ false
      unneeded true q = q
      unneeded false q = refl

  rewritten_field : right rule ≡ true → needed_bit_absent rule map ≡ false → field_number rule map s ≡ 0 → RewrittenField rule map s
  rewritten_field ri wa nu = by (stands rule map) refl
    where
      by : (b : Bool) → stands rule map ≡ b → RewrittenField rule map s
      by true e = rewritten_standing (eqb-true (bit_of rule map) 1 e) nu
      by false e = rewritten_absent (omega (arith, eqb-false (bit_of rule map) 1 e, digit_most (bits rule) map, bits_most rule)) ri wa

record RewrittenFields (rules : List Rule) (map : ℕ) (s : List ℕ) : Type 0 where
  pub fit : all_fit rules (fields_values rules map s) ≡ true
  pub map_is : map_of rules (fields_values rules map s) ≡ map
  pub bytes : Bytes s → bytes_of rules (fields_values rules map s) ≡ take (2 * words rules map) s
  pub count : length (fields_values rules map s) ≡ length rules

rewritten_fields : (rules : List Rule) (map : ℕ) (s : List ℕ) → every right rules ≡ true → 2 * words rules map ≤ length s
    → lacks rules map ≡ false → misses rules map ≡ false → fields_number rules map s ≡ 0 → RewrittenFields rules map s
unfolding all_fit map_of bytes_of words any_field fields_number fields_values every
rewritten_fields [] map s ri h la mi nu =
    record { fit = refl; map_is = omega (arith, ltb-false 0 map la); bytes = λ bytes. refl; count = refl }
rewritten_fields (rule ∷ rules) map s ri h la mi nu =
    let n = both_zero (field_number rule map s) (fields_number rules (rest_of rule map) (after rule map s)) (eqb (field_number rule map s) 0) refl nu in
    let f = rewritten_field rule map s (omega arith) (and_left _ _ ri) (or_left _ _ mi) n.0 in
    let long : 2 * words rules (rest_of rule map) ≤ length (after rule map s) = omega (arith, length-drop (2 * bit_of rule map) s) in
    let la' = or_right (lacked_bit_stands rule map) _ la in
    let mi' = or_right (needed_bit_absent rule map) _ mi in
    let fs = rewritten_fields rules (rest_of rule map) (after rule map s) (and_right (right rule) _ ri) long la' mi' n.1 in
    let d : 2 * (bit_of rule map + words rules (rest_of rule map)) ≡ 2 * bit_of rule map + 2 * words rules (rest_of rule map) = omega arith in
    record {
      fit = rw (f.fit, fs.fit);
      map_is = rw (f.bit, fs.map_is) (digit_whole (bits rule) map);
      bytes = λ bytes.
          let later : Bytes (after rule map s) = λ i. rw get_or-drop (bytes (2 * bit_of rule map + i)) in
          rw (f.bytes bytes, fs.bytes later, d) (sym (take-add (2 * bit_of rule map) (2 * words rules (rest_of rule map)) s));
      count = ap suc fs.count;
    }

-- a record with a bit of the curve is read as a site with a curve
curve_read : (entries : List Entry) (map : ℕ) (s : List ℕ) → curved entries map ≡ true
    → curve_held entries (fields_values (settle true entries) map s) ≡ true
unfolding any_field curve_held fields_values
curve_read [] map s e = e
curve_read (Always rule ∷ entries) map s e = curve_read entries (rest_of rule map) (after rule map s) e
curve_read (OnCurve rule ∷ entries) map s e =
    by (stands rule map) refl e (curve_read entries (rest_of rule map) (after rule map s))
  where
    by : (b : Bool) → stands rule map ≡ b → (b || curved entries (rest_of rule map)) ≡ true
        → (curved entries (rest_of rule map) ≡ true → curve_held entries (fields_values (settle true entries) (rest_of rule map) (after rule map s)) ≡ true)
        → (not (absent (field_value rule map s)) || curve_held entries (fields_values (settle true entries) (rest_of rule map) (after rule map s))) ≡ true
    by true q g later = rw q
    by false q g later = rw (later g) (or-true (not (absent (field_value rule map s))))

-- a record with no bit of the curve is read as a straight road
straight_read : (entries : List Entry) (map : ℕ) (s : List ℕ) → every entry_right entries ≡ true → curved entries map ≡ false
    → curve_held entries (fields_values (settle false entries) map s) ≡ false
unfolding any_field curve_held fields_values every
straight_read [] map s r e = refl
straight_read (Always rule ∷ entries) map s r e = straight_read entries (rest_of rule map) (after rule map s) (and_right (entry_right (Always rule)) _ r) e
straight_read (OnCurve rule ∷ entries) map s r e =
    let one : bits rule ≡ 1 = eqb-true (bits rule) 1 (and_right (right rule) _ (and_left _ _ r)) in
    let e' : (eqb (map % 2) 1 || curved entries (map / 2)) ≡ false = rw one at e in
    rw (or_left (eqb (map % 2) 1) (curved entries (map / 2)) e')
    (straight_read entries (map / 2) (drop (2 * (map % 2)) s) (and_right (entry_right (OnCurve rule)) _ r) (or_right (eqb (map % 2) 1) _ e'))

same_curve : (edition kind map : ℕ) (s : List ℕ) → kind ≤ last_kind
    → curve_held (entries_of edition kind) (fields_values (rules_read edition kind map) map s) ≡ curved (entries_of edition kind) map
same_curve edition kind map s hk = by (curved (entries_of edition kind) map) refl
  where
    by : (c : Bool) → curved (entries_of edition kind) map ≡ c
        → curve_held (entries_of edition kind) (fields_values (settle c (entries_of edition kind)) map s) ≡ c
    by true e = curve_read (entries_of edition kind) map s e
    by false e = straight_read (entries_of edition kind) map s (tested_rules edition kind false hk).entries_right e

header : (s : List ℕ) → Bytes s → 3 ≤ length s → kind_in s ∷ map_in s / 256 ∷ map_in s % 256 ∷ [] ≡ take 3 s
header [] bytes h = let z : ⊥ = omega arith in absurd z
header (k ∷ s) bytes h = ap (λ (l : List ℕ). k ∷ l) (bytes_of_word s (λ i. bytes (suc i)) (omega arith))

-- what an accepted record's site says to the writer
module _ (edition years : ℕ) (s : List ℕ) (a : Accepted edition years s) where
  abbrev later : ℕ
  later = later_in years s

  abbrev minor : ℕ
  minor = later_minor_in years s

  abbrev rules : List Rule
  rules = rules_in edition s

  abbrev pub values_read : List (Option ℕ)
  values_read = fields_values (rules_in edition s) (field_map_in s) (fields_in years s)

  pub no_miss : misses (rules_in edition s) (field_map_in s) ≡ false
  no_miss = or_left (misses (rules_in edition s) (field_map_in s)) _ a.passes.miss

  pub between : 4 + 2 * later + 2 * minor ≤ length (drop 3 s)
  between = fields_long edition years s a.passes a.full

  fields : RewrittenFields rules (field_map_in s) (fields_in years s)
  fields =
      let full : 2 * words rules (field_map_in s) ≤ length (fields_in years s) =
      omega (arith, a.full, length-drop 3 s, between, length_gathered later minor (drop 3 s) between) in
      rewritten_fields rules (field_map_in s) (fields_in years s) (tested_rules edition _ _ a.passes.head.known).rights full a.passes.lack no_miss
      a.no_field_refused

  values_count : length values_read ≡ slot_count
  values_count = fields.count ∙ (tested_rules edition _ _ a.passes.head.known).count

  pub traffic_again : LaterRewritten later_years later (later_at s)
  traffic_again =
      later_rewritten later_years later (later_at s) (later_most years s a.passes.head.years_in).0
      (omega (arith, between, length-drop 3 s, length-drop 5 s)) (and_left (later_allowed later (later_at s)) _ a.later_in)

  pub minor_again : LaterRewritten later_years minor (later_minor_at years s)
  minor_again =
      later_rewritten later_years minor (later_minor_at years s) (later_most years s a.passes.head.years_in).1
      (omega (arith, between, length-drop 3 s, length-drop (7 + 2 * later) s)) (and_right (later_allowed later (later_at s)) _ a.later_in)

  pub slots_again : slots_of (site_in edition years s) ≡ values_read
  slots_again = slots_of_site (kind_in s) values_read (site_in edition years s).later_traffic (site_in edition years s).later_minor values_count

  pub later_slots_again : later_slots (site_in edition years s).later_traffic ≡ later_read later_years later (later_at s)
  later_slots_again = later_slots_of (later_read later_years later (later_at s)) traffic_again.count

  pub minor_slots_again : later_slots (site_in edition years s).later_minor ≡ later_read later_years minor (later_minor_at years s)
  minor_slots_again = later_slots_of (later_read later_years minor (later_minor_at years s)) minor_again.count

  rules_again : rules_held edition (kind_in s) values_read ≡ rules
  rules_again =
      ap (λ (c : Bool). settle c (entries_of edition (kind_in s))) (same_curve edition (kind_in s) (field_map_in s) (fields_in years s) a.passes.head.known)

  -- the site has later values exactly where bit 15 stands
  pub yearly_again : yearly (site_in edition years s) ≡ eqb (yearly_bit (map_in s)) 1
  yearly_again = by (yearly_bit (map_in s)) (bit_most (map_in s)) refl
    where
      by : (bit : ℕ) → bit ≤ 1 → yearly_bit (map_in s) ≡ bit → yearly (site_in edition years s) ≡ eqb bit 1
      by zero h e =
          let none : later ≤ 0 = rw e (omega arith) in
          rw (later_absent later_years later (later_at s) 0 none)
      by (suc zero) h e =
          let one : eqb years 1 ≡ false = rw e at (or_right (misses (rules_in edition s) (field_map_in s)) _ a.passes.miss) in
          let w = years_within years a.passes.head.years_in in
          let some : 0 < later = rw e (omega (arith, w.0, eqb-false years 1 one)) in
          rw (later_given_lem later_years later (later_at s) (later_most years s a.passes.head.years_in).0 0 some)
      by (suc (suc bit)) h e = absurd (omega arith)

  pub given_again : later_given years (site_in edition years s) ≡ later
  given_again = rw yearly_again (by (yearly_bit (map_in s)) (bit_most (map_in s)))
    where
      by : (bit : ℕ) → bit ≤ 1 → cond (eqb bit 1) (years - 1) 0 ≡ bit * (years - 1)
      by zero h = omega arith
      by (suc zero) h = omega arith
      by (suc (suc bit)) h = absurd (omega arith)

  pub valid_again : Valid edition years (site_in edition years s)
  valid_again =
      sound_by edition years (site_in edition years s) (record {
        edition_in = a.passes.head.edition_in;
        years_in = a.passes.head.years_in;
        known = le-leb (kind_in s) last_kind a.passes.head.known;
        fit = rw (slots_again, rules_again) fields.fit;
        later_traffic = rw (given_again, later_slots_again) traffic_again.fit;
        later_minor = rw (given_again, minor_slots_again) minor_again.fit;
      })

  -- its bytes are those of the part
  spread_is : Bytes s → spread_bytes rules values_read (take (2 * later) (later_at s)) (take (2 * minor) (later_minor_at years s))
      ≡ take (2 * (words rules (field_map_in s) + (later + minor))) (drop 3 s)
  spread_is bytes =
      let count = (tested_rules edition _ _ a.passes.head.known).count in
      let lead = rules_lead edition (kind_in s) _ a.passes.head.known in
      let w = 2 * words rules (field_map_in s) - 4 in
      let two = words_least edition (kind_in s) (field_map_in s) a.passes.head.known no_miss in
      let e : 2 * words rules (field_map_in s) ≡ 4 + w = omega arith in
      let e' : 2 * (words rules (field_map_in s) + (later + minor)) ≡ 4 + 2 * later + 2 * minor + w = omega arith in
      let g : 7 + 2 * later ≡ 3 + (4 + 2 * later) = omega arith in
      let is = sym (bytes_parts rules values_read count values_count)
      ∙ fields.bytes (gathered_bytes later minor (drop 3 s) (λ i. rw get_or-drop (bytes (3 + i)))) ∙ ap (λ (k : ℕ). take k (fields_in years s)) e in
      sym (append-nil _) ∙ spread_parts rules values_read (take (2 * later) (later_at s)) (take (2 * minor) (later_minor_at years s)) []
      ∙ rw (append-nil (other_fields rules values_read), e', g, ← drop-drop (4 + 2 * later) 3 s, ← drop-drop 2 3 s)
      (spread_again later minor w (drop 3 s) (first_field rules values_read) (second_field rules values_read) (other_fields rules values_read)
      (first_long rules values_read count values_count lead fields.fit) (second_long rules values_read count values_count lead fields.fit) between is)

  whole_again : map_of rules values_read + cond (eqb (yearly_bit (map_in s)) 1) 32768 0 ≡ map_in s
  whole_again = rw fields.map_is (by (yearly_bit (map_in s)) (bit_most (map_in s)) (whole_map (map_in s)))
    where
      by : (bit : ℕ) → bit ≤ 1 → field_map_in s + 32768 * bit ≡ map_in s → field_map_in s + cond (eqb bit 1) 32768 0 ≡ map_in s
      by zero h e = omega arith
      by (suc zero) h e = omega arith
      by (suc (suc bit)) h e = absurd (omega arith)

  parts_again : record_of edition (site_in edition years s)
      ≡ record_by rules (kind_in s) values_read (eqb (yearly_bit (map_in s)) 1) (later_read later_years later (later_at s)) (later_read later_years minor (later_minor_at years s))
  parts_again =
      let k = kind_in s in
      let x = site_in edition years s in
      ap (λ (l : List (Option ℕ)). record_by (rules_held edition k l) k l (yearly x) (later_slots x.later_traffic) (later_slots x.later_minor)) slots_again
      ∙ ap (λ (l : List Rule). record_by l k values_read (yearly x) (later_slots x.later_traffic) (later_slots x.later_minor)) rules_again
      ∙ ap (λ (b : Bool). record_by rules k values_read b (later_slots x.later_traffic) (later_slots x.later_minor)) yearly_again
      ∙ ap (λ (l : List (Option ℕ)). record_by rules k values_read (eqb (yearly_bit (map_in s)) 1) l (later_slots x.later_minor)) later_slots_again
      ∙ ap (λ (l : List (Option ℕ)). record_by rules k values_read (eqb (yearly_bit (map_in s)) 1) (later_read later_years later (later_at s)) l) minor_slots_again

  pub record_again : Bytes s → record_of edition (site_in edition years s) ≡ take (length_in edition years s) s
  unfolding record_by
  record_again bytes =
      let from : (k : ℕ) → Bytes (drop k s) = λ k i. rw get_or-drop (bytes (k + i)) in
      parts_again
      ∙ ap (λ (m : ℕ). kind_in s ∷ (two_bytes m ++ spread_bytes rules values_read (later_bytes (later_read later_years later (later_at s)))
      (later_bytes (later_read later_years minor (later_minor_at years s))))) whole_again
      ∙ ap (λ (l : List ℕ). kind_in s ∷ (two_bytes (map_in s) ++ spread_bytes rules values_read l (later_bytes (later_read later_years minor (later_minor_at years s)))))
      (traffic_again.bytes (from 5))
      ∙ ap (λ (l : List ℕ). kind_in s ∷ (two_bytes (map_in s) ++ spread_bytes rules values_read (take (2 * later) (later_at s)) l))
      (minor_again.bytes (from (7 + 2 * later)))
      ∙ ap (λ (l : List ℕ). kind_in s ∷ (two_bytes (map_in s) ++ l)) (spread_is bytes)
      ∙ ap (λ (l : List ℕ). l ++ take (2 * (words rules (field_map_in s) + (later + minor))) (drop 3 s)) (header s bytes a.passes.head.long)
      ∙ sym (take-add 3 (2 * (words rules (field_map_in s) + (later + minor))) s)

-- a site that is read is one that the writer takes
pub read_valid : (edition years : ℕ) (s : List ℕ) (site : Site) (n : ℕ) → read_site edition years s ≡ Ok (site, n) → Valid edition years site
read_valid edition years s site n e = let r = reading edition years s site n e in rw (← r.site_is) (valid_again edition years s r.accepts)

-- every accepted record is written back as the same bytes
pub read_write : (edition years : ℕ) (s : List ℕ) (site : Site) (n : ℕ) → Bytes s → read_site edition years s ≡ Ok (site, n)
    → record_of edition site ≡ take n s
read_write edition years s site n bytes e =
    let r = reading edition years s site n e in
    rw (← r.site_is, ← r.length_is) (record_again edition years s r.accepts bytes)
