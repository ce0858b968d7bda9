-- Laws of WriteRead in specs/.
use Rattle.std.specs.Prelude.{Ok}
use Rattle.std.specs.Prelude.{Option, None, Some}
use Rattle.std.specs.Prelude.{◌≡◌, refl, Bool, true, false, ◌&&◌, ◌||◌, not, ℕ, zero, suc, ◌+◌, ◌-◌, ◌*◌, ◌/◌, ◌%◌, ◌<◌, ◌≤◌, get_or, eqb}
use Rattle.std.proofs.Math.Path.{ap, sym}
use Rattle.std.proofs.Common.{◌∙◌, true≢false, drop_at, drop-drop, eqb-true}
use Rattle.std.proofs.Math.Bool.{cond, and-false, or-true}
use mathlib.Core.List.{List, [], ◌∷◌, ◌++◌, append_assoc}
use native.Mathlib.Omega.{arith}
use Rattle.std.proofs.Math.ListN.{length, drop, length-append}
use Rattle.std.proofs.lemmas.Bool.{not-true}
use Rattle.site.specs.declared.rules.Rule.{Rule}
use Rattle.site.specs.declared.rules.Rule.TheVariants.{Foreign}
use Rattle.site.specs.declared.rules.Entry.{Entry}
use Rattle.site.specs.declared.rules.Entry.TheVariants.{Always, OnCurve}
use Rattle.site.specs.declared.values.Site.{Site}
use Rattle.site.specs.Yearly.{later_slots, later_from_slots, later_given, later_minor}
use Rattle.site.specs.Yearly as years_given
use Rattle.site.specs.Rules.{entries_of, last_kind, edition_known, years_known, later_years, slot_count, allows, absent_of, needed, lacking, bits}
use Rattle.site.specs.Rules.{settle, absent, holds}
use Rattle.site.specs.Record.{bit_of, stands, any_field, lacks, misses, curved, rules_read}
use Rattle.site.specs.Record.{words, fields_number, fields_values, site_of, yearly_bit, map_in, field_map_in}
use Rattle.site.specs.Record.{rules_in, later_in, later_minor_in, fields_in, later_read, later_at, later_minor_at, length_in, site_in, read_site}
use Rattle.site.specs.Writing.{slots_of, curve_held, rules_held, fits, all_fit, slot_bit, map_of, field_bytes, bytes_of}
use Rattle.site.specs.Writing.{later_bytes, spread_bytes, record_by, record_of, later_fits, Valid}
use Rattle.laws.specs.Truth.{and_left, and_right, not_both, never_so}
use Rattle.site.specs.Digits.{digit_low, digit_rest, two_bytes_lem}
use Rattle.site.specs.Ranges.{tests, valid_kind}
use Rattle.site.specs.Tested.{right, entry_right, has_curve, needs_curve, every, leads, rules_lead}
use Rattle.laws.specs.Walk.{next}
use Rattle.site.specs.LaterLaws.{bit_of_whole, fields_of_whole, gathered_spread, past, LaterReadBack, later_read_back}
use Rattle.site.specs.Tested.{allows_bit, needed_bit, tested_rules, entries_count}
use Rattle.site.specs.Accepted.{Accepted, accept}
use Rattle.site.specs.WriteRead.{FieldReadBack, length_bytes, length_field, map_small, slot_bit_most}

absent_is : (slot : Option ℕ) → absent slot ≡ true → slot ≡ None
absent_is None e = refl
absent_is (Some value) e = absurd (true≢false (sym e))

holds_is : (slot : Option ℕ) (value : ℕ) → holds slot value ≡ true → slot ≡ Some value
holds_is None value e = absurd (true≢false (sym e))
holds_is (Some held) value e = ap Some (sym (eqb-true value held e))

-- a field with a default is not needed
holds_needed : (rule : Rule) (value : ℕ) → holds (absent_of rule) value ≡ true → needed rule ≡ false
holds_needed rule value h =
    never_so (needed rule) (λ n. true≢false (sym h ∙ ap (λ (slot : Option ℕ). holds slot value) (needed_bit rule n).1))

dropped : (rule : Rule) (slot : Option ℕ) (map : ℕ) (t : List ℕ) → bit_of rule map ≡ 0 → slot_bit rule slot ≡ 0
    → needed rule ≡ false → absent_of rule ≡ slot → FieldReadBack rule slot map t
dropped rule slot map t z b n a =
    record {
      stray = rw z (and-false (lacking rule));
      want = rw n;
      number = rw z;
      value = rw z a;
      rest = rw (z, b);
    }

written : (rule : Rule) (value map : ℕ) (t : List ℕ) → bit_of rule map ≡ 1 → slot_bit rule (Some value) ≡ 1
    → allows rule value ≡ true → holds (absent_of rule) value ≡ false → FieldReadBack rule (Some value) map t
written rule value map t z b f h =
    record {
      stray = rw (allows_bit rule value f).1;
      want = rw z (and-false (needed rule));
      number = rw (z, b, two_bytes_lem value, f, h);
      value = rw (z, b, two_bytes_lem value);
      rest = rw (z, b);
    }

field_read_back : (rule : Rule) (slot : Option ℕ) (map : ℕ) (t : List ℕ) → fits rule slot ≡ true → bit_of rule map ≡ slot_bit rule slot
    → FieldReadBack rule slot map t
field_read_back rule None map t f e =
    dropped rule None map t e refl (not-true (needed rule) (and_left _ _ f)) (absent_is (absent_of rule) (and_right (not (needed rule)) _ f))
field_read_back rule (Some value) map t f e = by (holds (absent_of rule) value) refl
  where
    by : (b : Bool) → holds (absent_of rule) value ≡ b → FieldReadBack rule (Some value) map t
    by true q =
        let z : slot_bit rule (Some value) ≡ 0 = rw q in
        dropped rule (Some value) map t (e ∙ z) z (holds_needed rule value q) (holds_is (absent_of rule) value q)
    by false q =
        let z : slot_bit rule (Some value) ≡ 1 = rw q (allows_bit rule value f).0 in
        written rule value map t (e ∙ z) z f q

record FieldsReadBack (rules : List Rule) (slots : List (Option ℕ)) (t : List ℕ) : Type 0 where
  pub lack : lacks rules (map_of rules slots) ≡ false
  pub miss : misses rules (map_of rules slots) ≡ false
  pub number : fields_number rules (map_of rules slots) (bytes_of rules slots ++ t) ≡ 0
  pub values : fields_values rules (map_of rules slots) (bytes_of rules slots ++ t) ≡ slots

fields_read_back : (rules : List Rule) (slots : List (Option ℕ)) (t : List ℕ) → all_fit rules slots ≡ true → length slots ≡ length rules
    → FieldsReadBack rules slots t
unfolding all_fit map_of bytes_of any_field fields_number fields_values
fields_read_back [] [] t f l = record { lack = refl; miss = refl; number = refl; values = refl }
fields_read_back [] (slot ∷ slots) t f l = let z : ⊥ = omega arith in absurd z
fields_read_back (rule ∷ rules) [] t f l = absurd (true≢false (sym f))
fields_read_back (rule ∷ rules) (slot ∷ slots) t f l =
    let low = digit_low (slot_bit rule slot) (bits rule) (map_of rules slots) (slot_bit_most rule slot) in
    let half = digit_rest (slot_bit rule slot) (bits rule) (map_of rules slots) (slot_bit_most rule slot) in
    let b = field_read_back rule slot (slot_bit rule slot + (1 + bits rule) * map_of rules slots) (bytes_of rules slots ++ t) (and_left _ _ f) low in
    let bs = fields_read_back rules slots t (and_right (fits rule slot) _ f) (omega arith) in
    record {
      lack = rw (b.stray, half) bs.lack;
      miss = rw (b.want, half) bs.miss;
      number = rw (append_assoc, b.number, b.rest, half) bs.number;
      values = rw (append_assoc, b.value, b.rest, half) (ap (λ (l : List (Option ℕ)). slot ∷ l) bs.values);
    }

-- a site without a curve is written with no bit of it
straight_written : (entries : List Entry) (slots : List (Option ℕ)) → every entry_right entries ≡ true
    → length slots ≡ length entries → curve_held entries slots ≡ false
    → curved entries (map_of (settle false entries) slots) ≡ false
unfolding every curve_held any_field map_of
straight_written [] slots r l h = refl
straight_written (entry ∷ entries) [] r l h = let z : ⊥ = omega arith in absurd z
straight_written (Always rule ∷ entries) (slot ∷ slots) r l h =
    rw (digit_rest (slot_bit rule slot) (bits rule) (map_of (settle false entries) slots) (slot_bit_most rule slot))
    (straight_written entries slots (and_right (entry_right (Always rule)) (every entry_right entries) r) (omega arith) h)
straight_written (OnCurve rule ∷ entries) (None ∷ slots) r l h =
    let one : bits rule ≡ 1 = eqb-true (bits rule) 1 (and_right (right rule) _ (and_left _ _ r)) in
    rw (
      one,
      digit_low 0 1 (map_of (settle false entries) slots) (omega arith),
      digit_rest 0 1 (map_of (settle false entries) slots) (omega arith),
    )
    (straight_written entries slots (and_right (entry_right (OnCurve rule)) (every entry_right entries) r) (omega arith) h)
straight_written (OnCurve rule ∷ entries) (Some value ∷ slots) r l h = absurd (true≢false h)

-- a needed field that is within its rule is written
needed_written : (rule : Rule) (slot : Option ℕ) → needed rule ≡ true → fits rule slot ≡ true → slot_bit rule slot ≡ 1
needed_written rule None n f = not_both (needed rule) n (not-true (needed rule) (and_left (not (needed rule)) (absent (absent_of rule)) f))
needed_written rule (Some value) n f = rw (needed_bit rule n).1 (needed_bit rule n).0

-- a site with a curve is written with the bits that every curve needs
curve_written : (entries : List Entry) (slots : List (Option ℕ)) → length slots ≡ length entries
    → all_fit (settle true entries) slots ≡ true → needs_curve entries ≡ true
    → curved entries (map_of (settle true entries) slots) ≡ true
unfolding all_fit needs_curve any_field map_of
curve_written [] slots l f n = absurd (true≢false (sym n))
curve_written (entry ∷ entries) [] l f n = let z : ⊥ = omega arith in absurd z
curve_written (Always rule ∷ entries) (slot ∷ slots) l f n =
    rw (digit_rest (slot_bit rule slot) (bits rule) (map_of (settle true entries) slots) (slot_bit_most rule slot))
    (curve_written entries slots (omega arith) (and_right (fits rule slot) (all_fit (settle true entries) slots) f) n)
curve_written (OnCurve rule ∷ entries) (slot ∷ slots) l f n =
    by (needed rule) refl n (curve_written entries slots (omega arith) (and_right (fits rule slot) (all_fit (settle true entries) slots) f))
  where
    by : (b : Bool) → needed rule ≡ b → (b || needs_curve entries) ≡ true
        → (needs_curve entries ≡ true → curved entries (map_of (settle true entries) slots) ≡ true)
        → curved (OnCurve rule ∷ entries) (slot_bit rule slot + (1 + bits rule) * map_of (settle true entries) slots) ≡ true
    by true q e later =
        rw (
          digit_low (slot_bit rule slot) (bits rule) (map_of (settle true entries) slots) (slot_bit_most rule slot),
          needed_written rule slot q (and_left (fits rule slot) (all_fit (settle true entries) slots) f),
        )
    by false q e later =
        rw (
          digit_rest (slot_bit rule slot) (bits rule) (map_of (settle true entries) slots) (slot_bit_most rule slot),
          later e,
        )
        (or-true (stands rule (slot_bit rule slot + (1 + bits rule) * map_of (settle true entries) slots)))

held_has : (entries : List Entry) (slots : List (Option ℕ)) → curve_held entries slots ≡ true → has_curve entries ≡ true
unfolding curve_held has_curve
held_has [] slots h = h
held_has (entry ∷ entries) [] h = absurd (true≢false (sym h))
held_has (Always rule ∷ entries) (slot ∷ slots) h = held_has entries slots h
held_has (OnCurve rule ∷ entries) (slot ∷ slots) h = refl

-- the curve of a site is the curve of its record
curve_kept : (edition kind : ℕ) (slots : List (Option ℕ)) → kind ≤ last_kind → length slots ≡ slot_count
    → all_fit (rules_held edition kind slots) slots ≡ true
    → curved (entries_of edition kind) (map_of (rules_held edition kind slots) slots) ≡ curve_held (entries_of edition kind) slots
curve_kept edition kind slots hk l f = by (curve_held (entries_of edition kind) slots) refl f
  where
    same : length slots ≡ length (entries_of edition kind)
    same = l ∙ sym (entries_count edition kind hk)

    by : (c : Bool) → curve_held (entries_of edition kind) slots ≡ c → all_fit (settle c (entries_of edition kind)) slots ≡ true
        → curved (entries_of edition kind) (map_of (settle c (entries_of edition kind)) slots) ≡ c
    by true q g =
        curve_written (entries_of edition kind) slots same g ((tested_rules edition kind true hk).needs_curve (held_has (entries_of edition kind) slots q))
    by false q g = straight_written (entries_of edition kind) slots (tested_rules edition kind false hk).entries_right same q

-- every slot is within its rule
all_fit_at : (rules : List Rule) (slots : List (Option ℕ)) → all_fit rules slots ≡ true → length slots ≡ length rules
    → (i : ℕ) → i < length rules → fits (get_or rules i Foreign) (get_or slots i None) ≡ true
unfolding all_fit
all_fit_at [] slots f l i h = absurd (omega arith)
all_fit_at (rule ∷ rules) [] f l i h = absurd (omega arith)
all_fit_at (rule ∷ rules) (slot ∷ slots) f l zero h = and_left (fits rule slot) _ f
all_fit_at (rule ∷ rules) (slot ∷ slots) f l (suc i) h = all_fit_at rules slots (and_right (fits rule slot) _ f) (omega arith) i (omega arith)

-- WHERE THE LATER VALUES STAND: after the field of bit 0, and after that of bit 1
module _ (rules : List Rule) (slots : List (Option ℕ)) where
  abbrev pub first_field : List ℕ
  first_field = field_bytes (get_or rules 0 Foreign) (get_or slots 0 None)

  abbrev pub second_field : List ℕ
  second_field = field_bytes (get_or rules 1 Foreign) (get_or slots 1 None) ++ field_bytes (get_or rules 2 Foreign) (get_or slots 2 None)

  abbrev pub other_fields : List ℕ
  other_fields = bytes_of (drop 3 rules) (drop 3 slots)

  pub spread_parts : (traffic minor t : List ℕ)
      → spread_bytes rules slots traffic minor ++ t ≡ first_field ++ (traffic ++ (second_field ++ (minor ++ (other_fields ++ t))))
  unfolding spread_bytes
  spread_parts traffic minor t = simp append_assoc

  module _ (lr : length rules ≡ slot_count) (ls : length slots ≡ slot_count) where
    pub bytes_parts : bytes_of rules slots ≡ first_field ++ (second_field ++ other_fields)
    unfolding bytes_of
    bytes_parts =
        let a : 0 < length rules = omega arith in
        let b : 1 < length rules = omega arith in
        let c : 2 < length rules = omega arith in
        let d : 0 < length slots = omega arith in
        let e : 1 < length slots = omega arith in
        let f : 2 < length slots = omega arith in
        let one = field_bytes (get_or rules 1 Foreign) (get_or slots 1 None) in
        let two = field_bytes (get_or rules 2 Foreign) (get_or slots 2 None) in
        ap (λ (l : List Rule). bytes_of l slots) (next rules 0 Foreign a)
        ∙ ap (λ (l : List (Option ℕ)). bytes_of (get_or rules 0 Foreign ∷ drop 1 rules) l) (next slots 0 None d)
        ∙ ap (λ (l : List Rule). first_field ++ bytes_of l (drop 1 slots)) (next rules 1 Foreign b)
        ∙ ap (λ (l : List (Option ℕ)). first_field ++ bytes_of (get_or rules 1 Foreign ∷ drop 2 rules) l) (next slots 1 None e)
        ∙ ap (λ (l : List Rule). first_field ++ (one ++ bytes_of l (drop 2 slots))) (next rules 2 Foreign c)
        ∙ ap (λ (l : List (Option ℕ)). first_field ++ (one ++ bytes_of (get_or rules 2 Foreign ∷ drop 3 rules) l)) (next slots 2 None f)
        ∙ ap (λ (l : List ℕ). first_field ++ l) (sym (append_assoc one two other_fields))

    -- these two fields have a number each
    module _ (lead : leads rules ≡ true) (fit : all_fit rules slots ≡ true) where
      fits_at : (i : ℕ) → i < slot_count → fits (get_or rules i Foreign) (get_or slots i None) ≡ true
      fits_at i h = all_fit_at rules slots fit (ls ∙ sym lr) i (omega arith)

      bit_at : (i : ℕ) → i < slot_count → needed (get_or rules i Foreign) ≡ true → slot_bit (get_or rules i Foreign) (get_or slots i None) ≡ 1
      bit_at i h n = needed_written (get_or rules i Foreign) (get_or slots i None) n (fits_at i h)

      no_bit_at : (i : ℕ) → eqb (bits (get_or rules i Foreign)) 0 ≡ true → slot_bit (get_or rules i Foreign) (get_or slots i None) ≡ 0
      no_bit_at i e = omega (arith, slot_bit_most (get_or rules i Foreign) (get_or slots i None), eqb-true (bits (get_or rules i Foreign)) 0 e)

      pub first_long : length first_field ≡ 2
      first_long =
          omega (arith, length_field (get_or rules 0 Foreign) (get_or slots 0 None), bit_at 0 (omega arith) (and_left (needed (get_or rules 0 Foreign)) _ lead))

      one_stands : (a b c d : Bool) → needed (get_or rules 1 Foreign) ≡ a → eqb (bits (get_or rules 2 Foreign)) 0 ≡ b
          → eqb (bits (get_or rules 1 Foreign)) 0 ≡ c → needed (get_or rules 2 Foreign) ≡ d → ((a && b) || (c && d)) ≡ true
          → slot_bit (get_or rules 1 Foreign) (get_or slots 1 None) + slot_bit (get_or rules 2 Foreign) (get_or slots 2 None) ≡ 1
      one_stands true true c d p q r u e = omega (arith, bit_at 1 (omega arith) p, no_bit_at 2 q)
      one_stands true false true true p q r u e = omega (arith, bit_at 2 (omega arith) u, no_bit_at 1 r)
      one_stands false b true true p q r u e = omega (arith, bit_at 2 (omega arith) u, no_bit_at 1 r)
      one_stands true false true false p q r u e = absurd (true≢false (sym e))
      one_stands true false false d p q r u e = absurd (true≢false (sym e))
      one_stands false b true false p q r u e = absurd (true≢false (sym e))
      one_stands false b false d p q r u e = absurd (true≢false (sym e))

      pub second_long : length second_field ≡ 2
      second_long =
          omega (
            arith,
            length-append (field_bytes (get_or rules 1 Foreign) (get_or slots 1 None)) (field_bytes (get_or rules 2 Foreign) (get_or slots 2 None)),
            length_field (get_or rules 1 Foreign) (get_or slots 1 None),
            length_field (get_or rules 2 Foreign) (get_or slots 2 None),
            one_stands _ _ _ _ refl refl refl refl (and_right (needed (get_or rules 0 Foreign)) _ lead),
          )

-- A RECORD READ BACK, with later values after each traffic or without
module _ (edition years kind : ℕ) (slots : List (Option ℕ)) (yearly : Bool) (traffic minor : List (Option ℕ)) (t : List ℕ) (kept : edition_known edition ≡ true) (known : years_known years ≡ true)
    (hk : kind ≤ last_kind) (l : length slots ≡ slot_count) (f : all_fit (rules_held edition kind slots) slots ≡ true)
    (lt : length traffic ≡ later_years) (lm : length minor ≡ later_years) (spans : (yearly && eqb years 1) ≡ false)
    (ft : later_fits (cond yearly (years - 1) 0) traffic ≡ true) (fm : later_fits (later_minor kind (cond yearly (years - 1) 0)) minor ≡ true) where
  abbrev rules : List Rule
  rules = rules_held edition kind slots

  abbrev map : ℕ
  map = map_of rules slots

  abbrev later : ℕ
  later = cond yearly (years - 1) 0

  abbrev others : List ℕ
  others = other_fields rules slots ++ t

  abbrev fields : List ℕ
  fields = first_field rules slots ++ (later_bytes traffic ++ (second_field rules slots ++ (later_bytes minor ++ others)))

  abbrev whole : List ℕ
  whole = kind ∷ (map + cond yearly 32768 0) / 256 ∷ (map + cond yearly 32768 0) % 256 ∷ fields

  same_rules : rules_read edition kind map ≡ rules
  same_rules = ap (λ (c : Bool). settle c (entries_of edition kind)) (curve_kept edition kind slots hk l f)

  rules_count : length rules ≡ slot_count
  rules_count = (tested_rules edition _ _ hk).count

  small : map < 32768
  small = map_small rules slots 0 (tested_rules edition _ _ hk).few

  map_is : field_map_in whole ≡ map
  map_is = rw (two_bytes_lem (map + cond yearly 32768 0)) (fields_of_whole map small yearly)

  bit_is : yearly_bit (map_in whole) ≡ cond yearly 1 0
  bit_is = rw (two_bytes_lem (map + cond yearly 32768 0)) (bit_of_whole map small yearly)

  later_is : later_in years whole ≡ later
  later_is = rw bit_is (by yearly)
    where
      by : (b : Bool) → cond b 1 0 * (years - 1) ≡ cond b (years - 1) 0
      by true = omega arith
      by false = omega arith

  first_two : length (first_field rules slots) ≡ 2
  first_two = first_long rules slots rules_count l (rules_lead edition _ _ hk) f

  second_two : length (second_field rules slots) ≡ 2
  second_two = second_long rules slots rules_count l (rules_lead edition _ _ hk) f

  traffic_back : LaterReadBack later_years later traffic (second_field rules slots ++ (later_bytes minor ++ others))
  traffic_back = later_read_back later_years later traffic _ lt ft

  minor_back : LaterReadBack later_years (later_minor kind later) minor others
  minor_back = later_read_back later_years (later_minor kind later) minor _ lm fm

  -- the fields without the later values, and these
  fields_are : fields_in years whole ≡ bytes_of rules slots ++ t
  fields_are =
      rw later_is
      (gathered_spread later (later_minor kind later) (first_field rules slots) (later_bytes traffic) (second_field rules slots) (later_bytes minor) others
      first_two traffic_back.long second_two minor_back.long
      ∙ joined (first_field rules slots) (second_field rules slots) (other_fields rules slots)
      ∙ ap (λ (x : List ℕ). x ++ t) (sym (bytes_parts rules slots rules_count l)))
    where
      joined : (a b r : List ℕ) → a ++ (b ++ (r ++ t)) ≡ (a ++ (b ++ r)) ++ t
      joined a b r = sym (append_assoc a (b ++ r) t ∙ ap (λ (x : List ℕ). a ++ x) (append_assoc b r t))

  traffic_at : later_at whole ≡ later_bytes traffic ++ (second_field rules slots ++ (later_bytes minor ++ others))
  traffic_at = drop_at (first_field rules slots) _ 2 first_two

  minor_at : later_minor_at years whole ≡ later_bytes minor ++ others
  minor_at =
      let e : 7 + 2 * later ≡ 3 + (2 + 2 * later + 2) = omega arith in
      rw (later_is, e)
      (sym (drop-drop (2 + 2 * later + 2) 3 whole) ∙ sym (drop-drop 2 (2 + 2 * later) fields)
      ∙ ap (drop 2) (past later (first_field rules slots) (later_bytes traffic) _ first_two traffic_back.long)
      ∙ drop_at (second_field rules slots) _ 2 second_two)

  traffic_read : later_read later_years (later_in years whole) (later_at whole) ≡ traffic
  traffic_read = rw (later_is, traffic_at) traffic_back.values

  minor_read : later_read later_years (later_minor_in years whole) (later_minor_at years whole) ≡ minor
  minor_read = rw (minor_at, later_is) minor_back.values

  fields_back : FieldsReadBack rules slots t
  fields_back = fields_read_back rules slots t f (l ∙ sym rules_count)

  words_are : words (rules_in edition whole) (field_map_in whole) ≡ words rules map
  words_are = rw (map_is, same_rules) refl

  spread_long : length (spread_bytes rules slots (later_bytes traffic) (later_bytes minor)) ≡ 2 * (words rules map + (later + later_minor kind later))
  unfolding spread_bytes
  spread_long =
      let first = first_field rules slots in
      let one = field_bytes (get_or rules 1 Foreign) (get_or slots 1 None) in
      let two = field_bytes (get_or rules 2 Foreign) (get_or slots 2 None) in
      let rest = other_fields rules slots in
      let T = later_bytes traffic in
      let M = later_bytes minor in
      omega (
        arith,
        length_bytes rules slots (l ∙ sym rules_count),
        ap length (bytes_parts rules slots rules_count l),
        first_two,
        second_two,
        length-append first (second_field rules slots ++ rest),
        length-append (second_field rules slots) rest,
        length-append one two,
        length-append first (T ++ (one ++ (two ++ (M ++ rest)))),
        length-append T (one ++ (two ++ (M ++ rest))),
        length-append one (two ++ (M ++ rest)),
        length-append two (M ++ rest),
        length-append M rest,
        traffic_back.long,
        minor_back.long,
      )

  length_is : length_in edition years whole ≡ 3 + length (spread_bytes rules slots (later_bytes traffic) (later_bytes minor))
  length_is = rw (words_are, later_is) (omega (arith, spread_long))

  accepts : Accepted edition years whole
  accepts =
      record {
        passes = record {
          head = record { edition_in = kept; years_in = known; long = omega arith; known = hk };
          lack = rw (map_is, same_rules) fields_back.lack;
          miss = rw (map_is, same_rules, fields_back.miss, bit_is) (several yearly spans);
        };
        full = omega (
          arith,
          length_is,
          ap length (spread_parts rules slots (later_bytes traffic) (later_bytes minor) t),
          length-append (spread_bytes rules slots (later_bytes traffic) (later_bytes minor)) t,
        );
        later_in = rw (minor_at, later_is, traffic_at, traffic_back.right, minor_back.right);
        no_field_refused = rw (fields_are, map_is, same_rules) fields_back.number;
      }
    where
      several : (b : Bool) → (b && eqb years 1) ≡ false → (eqb (cond b 1 0) 1 && eqb years 1) ≡ false
      several true e = e
      several false e = refl

  site_is : site_in edition years whole ≡ site_of kind slots (later_from_slots traffic) (later_from_slots minor)
  site_is =
      let values : fields_values (rules_in edition whole) (field_map_in whole) (fields_in years whole) ≡ slots =
      rw (fields_are, map_is, same_rules) fields_back.values in
      ap (λ (x : List (Option ℕ)). site_of kind x (later_from_slots (later_read later_years (later_in years whole) (later_at whole))) (later_from_slots (later_read later_years (later_minor_in years whole) (later_minor_at years whole)))) values
      ∙ ap (λ (x : List (Option ℕ)). site_of kind slots (later_from_slots x) (later_from_slots (later_read later_years (later_minor_in years whole) (later_minor_at years whole)))) traffic_read
      ∙ ap (λ (x : List (Option ℕ)). site_of kind slots (later_from_slots traffic) (later_from_slots x)) minor_read

  read_back : read_site edition years (record_by rules kind slots yearly traffic minor ++ t)
      ≡ Ok ((site_of kind slots (later_from_slots traffic) (later_from_slots minor)), (length (record_by rules kind slots yearly traffic minor)))
  unfolding record_by
  read_back =
      ap (λ (x : List ℕ). read_site edition years (kind ∷ (map + cond yearly 32768 0) / 256 ∷ (map + cond yearly 32768 0) % 256 ∷ x))
      (spread_parts rules slots (later_bytes traffic) (later_bytes minor) t)
      ∙ accept edition years whole accepts ∙ ap (λ (x : Site). Ok (x, length_in edition years whole)) site_is
      ∙ ap (λ (n : ℕ). Ok (site_of kind slots (later_from_slots traffic) (later_from_slots minor), n)) (length_is ∙ omega arith)

first_absent : (slot : Option ℕ) (later : ℕ) (slots : List (Option ℕ)) → later ≡ 0 → later_fits later (slot ∷ slots) ≡ true → absent slot ≡ true
unfolding later_fits
first_absent slot zero slots z e = and_left (absent slot) _ e
first_absent slot (suc later) slots z e = absurd (omega arith)

-- a site with later values is one of several years
several_years : (edition years : ℕ) (site : Site) → Valid edition years site → (years_given.yearly site && eqb years 1) ≡ false
several_years edition years site v = by site.later_traffic.second refl (eqb years 1) refl
  where
    by : (slot : Option ℕ) → site.later_traffic.second ≡ slot → (b : Bool) → eqb years 1 ≡ b → (not (absent slot) && b) ≡ false
    by None e b q = refl
    by (Some value) e false q = refl
    by (Some value) e true q =
        let one = eqb-true years 1 q in
        let none : later_given years site ≡ 0 = rw e (omega arith) in
        let z = first_absent site.later_traffic.second (later_given years site) _ none (tests edition years site v).later_traffic in
        absurd (true≢false (sym (rw e at z)))

-- for every site that the writer takes: what it emits, followed by any bytes, reads back as the same site
pub write_read : (edition years : ℕ) (site : Site) (t : List ℕ) → Valid edition years site
    → read_site edition years (record_of edition site ++ t) ≡ Ok (site, length (record_of edition site))
write_read edition years site t v =
    let c = tests edition years site v in
    read_back edition years site.kind (slots_of site) (years_given.yearly site) (later_slots site.later_traffic) (later_slots site.later_minor) t
    c.edition_in c.years_in (valid_kind edition years site v) refl c.fit refl refl (several_years edition years site v) c.later_traffic c.later_minor
