-- How the tests of the edition, of the years and of a record's bytes come out, in document 01's order, and a record that passes them all.
use Rattle.std.specs.Prelude.{Result, Ok, Err}
use Rattle.std.specs.Prelude.{◌≡◌, refl, Bool, cond, ◌||◌, not, List, [], ◌∷◌, ℕ, ◌+◌, ◌-◌, ◌*◌, ◌/◌, ◌%◌, ◌<◌, ◌≤◌, length, drop, ltb, eqb}
use Rattle.std.proofs.Common.{ap, sym, ◌∙◌, true≢false, le_trans, mul-le-mul, arith, length-drop}
use Rattle.std.proofs.Math.Bool.{true, false}
use borrow.Author.Tests.{lt-ltb, le-ltb, ltb-true, ltb-false, eqb-true}
use Rattle.site.specs.declared.rules.Rule.{Rule}
use Rattle.site.specs.declared.values.Site.{Site}
use Rattle.site.specs.Rules.{entries_by, entries_of, last_kind, edition_known, years_known, later_years, settle, allows, absent_of, holds}
use Rattle.laws.specs.Truth.{or_left}
use Rattle.site.specs.Tested.{by_rules}
use Rattle.site.specs.LaterLaws.{years_within, bit_most, minor_most_lem}
use Rattle.site.specs.declared.refusal.Refusal.{Refusal}
use Rattle.site.specs.Refusals.{number_in, answer_by_number, ok_parts}
use Rattle.site.specs.Answers.{read_number}
use Rattle.site.specs.Record.{any_field, curved, lacks, misses, rules_read, words, fields_number, field_number, after, rest_of, stands, word, yearly_bit, kind_in, map_in, field_map_in}
use Rattle.site.specs.Record.{rules_in, later_in, later_minor_in, fields_in, all_later_allowed, length_in, site_in, misses_in}
use Rattle.site.specs.Record.{record_number, refusal_of, read_site}

-- the parts of a record, by name
pub record Parts (s : List ℕ) (kind map yearly : ℕ) : Type 0 where
  pub kind_is : kind_in s ≡ kind
  pub map_is : field_map_in s ≡ map
  pub bit_is : yearly_bit (map_in s) ≡ yearly

-- edition and years within their limits, and "kind and map present (1), 5": a kind that document 01 has
pub record HeadPresent (edition years : ℕ) (s : List ℕ) : Type 0 where
  pub edition_in : edition_known edition ≡ true
  pub years_in : years_known years ≡ true
  pub long : 3 ≤ length s
  pub known : kind_in s ≤ last_kind

-- "6, 7": no bit of the map is lacked, and none is missing
pub record MapPasses (edition years : ℕ) (s : List ℕ) : Type 0 where
  pub head : HeadPresent edition years s
  pub lack : lacks (rules_in edition s) (field_map_in s) ≡ false
  pub miss : misses_in edition years s ≡ false

-- an edition or years "outside its limits is 3 or 4 .., tried first"; "kind and map present (1), 5, 6, 7, all fields present (1), then
-- field by field 8, 9": how the tests come out, by their number.
-- Of the laws about refusals only this opens `refusal_of`: the others go by these cases
pub data Tried (edition years : ℕ) (s : List ℕ) : ℕ → Type 0 where
  edition_unknown : edition_known edition ≡ false → Tried edition years s 3
  years_unknown : edition_known edition ≡ true → years_known years ≡ false → Tried edition years s 4
  head_short : edition_known edition ≡ true → years_known years ≡ true → length s < 3 → Tried edition years s 1
  kind_unknown : edition_known edition ≡ true → years_known years ≡ true → 3 ≤ length s → last_kind < kind_in s → Tried edition years s 5
  map_lacks : HeadPresent edition years s → lacks (rules_in edition s) (field_map_in s) ≡ true → Tried edition years s 6
  map_misses : HeadPresent edition years s → lacks (rules_in edition s) (field_map_in s) ≡ false → misses_in edition years s ≡ true → Tried edition years s 7
  fields_short : MapPasses edition years s → length s < length_in edition years s → Tried edition years s 1
  later_refused : MapPasses edition years s → length_in edition years s ≤ length s → all_later_allowed years s ≡ false → Tried edition years s 8
  fields_tell : MapPasses edition years s → length_in edition years s ≤ length s → all_later_allowed years s ≡ true
      → Tried edition years s (fields_number (rules_in edition s) (field_map_in s) (fields_in years s))

module _ (edition years : ℕ) (s : List ℕ) where
  present : edition_known edition ≡ true → years_known years ≡ true → ltb (length s) 3 ≡ false → ltb last_kind (kind_in s) ≡ false
      → HeadPresent edition years s
  present x y a b = record { edition_in = x; years_in = y; long = ltb-false _ _ a; known = ltb-false _ _ b }

  tried_by : edition_known edition ≡ true → (inside short above lack miss cut allow : Bool) → years_known years ≡ inside → ltb (length s) 3 ≡ short
      → ltb last_kind (kind_in s) ≡ above → lacks (rules_in edition s) (field_map_in s) ≡ lack → misses_in edition years s ≡ miss
      → ltb (length s) (length_in edition years s) ≡ cut → all_later_allowed years s ≡ allow → Tried edition years s (refusal_of edition years s)
  unfolding refusal_of record_number
  tried_by x false short above lack miss cut allow y a b c d e f = rw (x, y) (years_unknown x y)
  tried_by x true true above lack miss cut allow y a b c d e f = rw (x, y, a) (head_short x y (ltb-true _ _ a))
  tried_by x true false true lack miss cut allow y a b c d e f = rw (x, y, a, b) (kind_unknown x y (ltb-false _ _ a) (ltb-true _ _ b))
  tried_by x true false false true miss cut allow y a b c d e f = rw (x, y, a, b, c) (map_lacks (present x y a b) c)
  tried_by x true false false false true cut allow y a b c d e f = rw (x, y, a, b, c, d) (map_misses (present x y a b) c d)
  tried_by x true false false false false true allow y a b c d e f =
      rw (x, y, a, b, c, d, e) (fields_short (record { head = present x y a b; lack = c; miss = d }) (ltb-true _ _ e))
  tried_by x true false false false false false false y a b c d e f =
      rw (x, y, a, b, c, d, e, f) (later_refused (record { head = present x y a b; lack = c; miss = d }) (ltb-false _ _ e) f)
  tried_by x true false false false false false true y a b c d e f =
      rw (x, y, a, b, c, d, e, f) (fields_tell (record { head = present x y a b; lack = c; miss = d }) (ltb-false _ _ e) f)

  edition_refused : edition_known edition ≡ false → Tried edition years s (refusal_of edition years s)
  unfolding refusal_of
  edition_refused x = rw x (edition_unknown x)

  pub tried : Tried edition years s (refusal_of edition years s)
  tried = by (edition_known edition) refl
    where
      by : (known : Bool) → edition_known edition ≡ known → Tried edition years s (refusal_of edition years s)
      by true x = tried_by x _ _ _ _ _ _ _ refl refl refl refl refl refl refl
      by false x = edition_refused x

  pub tried_number : {n : ℕ} → Tried edition years s n → refusal_of edition years s ≡ n
  unfolding refusal_of record_number
  tried_number (edition_unknown x) = rw x
  tried_number (years_unknown x y) = rw (x, y)
  tried_number (head_short x y h) = rw (x, y, lt-ltb _ _ h)
  tried_number (kind_unknown x y l k) = rw (x, y, le-ltb _ _ l, lt-ltb _ _ k)
  tried_number (map_lacks h l) = rw (h.edition_in, h.years_in, le-ltb _ _ h.long, le-ltb _ _ h.known, l)
  tried_number (map_misses h l m) = rw (h.edition_in, h.years_in, le-ltb _ _ h.long, le-ltb _ _ h.known, l, m)
  tried_number (fields_short p f) =
      let h = p.head in rw (h.edition_in, h.years_in, le-ltb _ _ h.long, le-ltb _ _ h.known, p.lack, p.miss, lt-ltb _ _ f)
  tried_number (later_refused p f a) =
      let h = p.head in rw (h.edition_in, h.years_in, le-ltb _ _ h.long, le-ltb _ _ h.known, p.lack, p.miss, le-ltb _ _ f, a)
  tried_number (fields_tell p f a) =
      let h = p.head in rw (h.edition_in, h.years_in, le-ltb _ _ h.long, le-ltb _ _ h.known, p.lack, p.miss, le-ltb _ _ f, a)

-- no cause of document 01's table is found in it
pub record Accepted (edition years : ℕ) (s : List ℕ) : Type 0 where
  pub passes : MapPasses edition years s
  pub full : length_in edition years s ≤ length s
  pub later_in : all_later_allowed years s ≡ true
  pub no_field_refused : fields_number (rules_in edition s) (field_map_in s) (fields_in years s) ≡ 0

pub accept : (edition years : ℕ) (s : List ℕ) → Accepted edition years s
    → read_site edition years s ≡ Ok (site_in edition years s, length_in edition years s)
unfolding read_site
accept edition years s a = rw (tried_number edition years s (fields_tell a.passes a.full a.later_in), a.no_field_refused)

pub accepted : (edition years : ℕ) (s : List ℕ) → refusal_of edition years s ≡ 0 → Accepted edition years s
accepted edition years s e = by (tried edition years s) e
  where
    by : {n : ℕ} → Tried edition years s n → n ≡ 0 → Accepted edition years s
    by (edition_unknown x) z = absurd (omega arith)
    by (years_unknown x y) z = absurd (omega arith)
    by (head_short x y h) z = absurd (omega arith)
    by (kind_unknown x y l k) z = absurd (omega arith)
    by (map_lacks h l) z = absurd (omega arith)
    by (map_misses h l m) z = absurd (omega arith)
    by (fields_short p f) z = absurd (omega arith)
    by (later_refused p f a) z = absurd (omega arith)
    by (fields_tell p f a) z = record { passes = p; full = f; later_in = a; no_field_refused = z }

-- a record that misses no needed bit has two fields or more: its traffic, and a segment its length or a crossing its minor traffic
both_stand : (x y : ℕ) (later : Bool) → (not (eqb x 1) || (not (eqb y 1) || later)) ≡ false → 2 ≤ x + y
both_stand x y later m = by (eqb x 1) (eqb y 1) refl refl m
  where
    by : (a b : Bool) → eqb x 1 ≡ a → eqb y 1 ≡ b → (not a || (not b || later)) ≡ false → 2 ≤ x + y
    by true true p q e = omega (arith, eqb-true x 1 p, eqb-true y 1 q)
    by true false p q e = absurd (true≢false e)
    by false b p q e = absurd (true≢false e)

-- the rules of a kind and a map, with limited sight or without it
abbrev pub rules_by : (sight : Bool) (kind map : ℕ) → List Rule
rules_by sight kind map = settle (curved (entries_by sight kind) map) (entries_by sight kind)

pub words_least : (edition kind map : ℕ) → kind ≤ last_kind → misses (rules_read edition kind map) map ≡ false → 2 ≤ words (rules_read edition kind map) map
unfolding entries_of any_field words
words_least edition kind map =
    by_rules (λ sight kind. misses (rules_by sight kind map) map ≡ false → 2 ≤ words (rules_by sight kind map) map)
    (λ sight m. omega (arith, both_stand (map % 2) (map / 2 % 2) _ m))
    (λ m. omega (arith, crossing_both _ m))
    (λ m. omega (arith, crossing_both _ m))
    (λ m. omega (arith, crossing_both _ m))
    (λ m. omega (arith, crossing_both _ m))
    (λ sight m. omega (arith, crossing_both _ m))
    edition kind
  where
    crossing_both : (later : Bool) → (not (eqb (map % 2) 1) || (not (eqb (map / 2 / 1 % 2) 1) || later)) ≡ false → 2 ≤ map % 2 + map / 2 / 1 % 2
    crossing_both = both_stand (map % 2) (map / 2 / 1 % 2)

-- so the later values of an accepted record stand between its fields
pub fields_long : (edition years : ℕ) (s : List ℕ) → MapPasses edition years s → length_in edition years s ≤ length s
    → 4 + 2 * later_in years s + 2 * later_minor_in years s ≤ length (drop 3 s)
fields_long edition years s p f =
    omega (arith, length-drop 3 s, words_least edition (kind_in s) (field_map_in s) p.head.known (or_left (misses (rules_in edition s) (field_map_in s)) _ p.miss))

-- and are at most nine
pub later_most : (years : ℕ) (s : List ℕ) → years_known years ≡ true → (later_in years s ≤ later_years) × (later_minor_in years s ≤ later_years)
later_most years s e =
    let w = years_within years e in
    let few : years - 1 ≤ later_years = omega (arith, w.1) in
    let most : later_in years s ≤ later_years = le_trans (mul-le-mul (bit_most (map_in s)) few) (omega arith) in
    (most, le_trans (minor_most_lem (kind_in s) (later_in years s)) most)

-- no field is refused with a number above 9
field_most : (b a d : Bool) → cond b (cond a (cond d 9 0) 8) 0 ≤ 9
field_most false a d = omega arith
field_most true false d = omega arith
field_most true true true = omega arith
field_most true true false = omega arith

fields_most : (rules : List Rule) (map : ℕ) (s : List ℕ) → fields_number rules map s ≤ 9
unfolding fields_number
fields_most [] map s = omega arith
fields_most (rule ∷ rules) map s = by (eqb (field_number rule map s) 0) (fields_most rules (rest_of rule map) (after rule map s))
  where
    by : (b : Bool) → fields_number rules (rest_of rule map) (after rule map s) ≤ 9
        → cond b (fields_number rules (rest_of rule map) (after rule map s)) (field_number rule map s) ≤ 9
    by true later = later
    by false later = field_most (stands rule map) (allows rule (word s)) (holds (absent_of rule) (word s))

-- nor a record, so that each refusal has its number
pub refusal_most : (edition years : ℕ) (s : List ℕ) → refusal_of edition years s ≤ 10
refusal_most edition years s = by (tried edition years s)
  where
    by : {n : ℕ} → Tried edition years s n → n ≤ 10
    by (edition_unknown x) = omega arith
    by (years_unknown x y) = omega arith
    by (head_short x y h) = omega arith
    by (kind_unknown x y l k) = omega arith
    by (map_lacks h l) = omega arith
    by (map_misses h l m) = omega arith
    by (fields_short p f) = omega arith
    by (later_refused p f a) = omega arith
    by (fields_tell p f a) = omega (arith, fields_most (rules_in edition s) (field_map_in s) (fields_in years s))

pub number_read : (edition years : ℕ) (s : List ℕ) → read_number (read_site edition years s) ≡ refusal_of edition years s
unfolding read_site
number_read edition years s =
    number_in_read _ ∙ answer_by_number (refusal_of edition years s) (site_in edition years s, length_in edition years s) (refusal_most edition years s)
  where
    number_in_read : (answer : Result (Site × ℕ) Refusal) → read_number answer ≡ number_in answer
    number_in_read (Ok read) = refl
    number_in_read (Err refused) = refl

-- what is read is the site in the part, and its record's length
pub record Reading (edition years : ℕ) (s : List ℕ) (site : Site) (n : ℕ) : Type 0 where
  pub accepts : Accepted edition years s
  pub site_is : site_in edition years s ≡ site
  pub length_is : length_in edition years s ≡ n

pub reading : (edition years : ℕ) (s : List ℕ) (site : Site) (n : ℕ) → read_site edition years s ≡ Ok (site, n) → Reading edition years s site n
reading edition years s site n e =
    let z : refusal_of edition years s ≡ 0 = sym (number_read edition years s) ∙ ap read_number e in
    let a = accepted edition years s z in
    let parts = ok_parts _ _ _ _ (sym (accept edition years s a) ∙ e) in
    record { accepts = a; site_is = parts.0; length_is = parts.1 }
