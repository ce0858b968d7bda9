-- Reading: what the site reader answers for the bytes of a part, which starts at the record's kind byte.
use Rattle.std.specs.Prelude.{Result}
use Rattle.site.specs.declared.refusal.Refusal.{Refusal}
use Rattle.std.specs.Prelude.{Option, None, Some}
use Rattle.std.specs.Prelude.{ℕ, zero, suc, ◌+◌, ◌-◌, ◌*◌, ◌/◌, ◌%◌, Bool, true, false, cond, ◌&&◌, ◌||◌, not, List, [], ◌∷◌, ◌++◌, length, get_or, take, drop, ltb, eqb}
use Rattle.site.specs.declared.rules.Rule.{Rule}
use Rattle.site.specs.declared.rules.Entry.{Entry}
use Rattle.site.specs.declared.values.Later.{Later}
use Rattle.site.specs.declared.values.Site.{Site}
use Rattle.site.specs.Rules.{entries_of, last_kind, edition_known, years_known, later_years, traffic, allows, absent_of, needed, lacking, bits}
use Rattle.site.specs.Rules.{rule_of, on_curve, settle, holds}
use Rattle.site.specs.Yearly.{later_from_slots, later_minor}
use Rattle.site.specs.Answers.{read_answer}

-- "Two-byte numbers are unsigned, high byte first": the one that a list starts with
abbrev pub word : List ℕ → ℕ
word s = get_or s 0 0 * 256 + get_or s 1 0

-- "a two-byte bit map (bit 0 the lowest)": the bit of the next field, and what is left of the map after it
abbrev pub bit_of : Rule → ℕ → ℕ
bit_of rule map = map % (1 + bits rule)

abbrev pub rest_of : Rule → ℕ → ℕ
rest_of rule map = map / (1 + bits rule)

abbrev pub stands : Rule → ℕ → Bool
stands rule map = eqb (bit_of rule map) 1

-- some field passes a test as the bits are taken one by one, or what is left of the map passes the last
unfoldable pub any_field : {A : Type 0} → (A → Rule) → (A → ℕ → Bool) → (ℕ → Bool) → List A → ℕ → Bool
any_field rule test last [] map = last map
any_field rule test last (x ∷ xs) map = test x map || any_field rule test last xs (rest_of (rule x) map)

-- 6, "bit the kind lacks": it stands, or a bit past the last field does
abbrev pub lacked_bit_stands : Rule → ℕ → Bool
lacked_bit_stands rule map = lacking rule && stands rule map

abbrev pub lacks : List Rule → ℕ → Bool
lacks rules map = any_field (λ (rule : Rule). rule) lacked_bit_stands (λ (left : ℕ). ltb 0 left) rules map

-- 7, "needed bit absent"
abbrev pub needed_bit_absent : Rule → ℕ → Bool
needed_bit_absent rule map = needed rule && not (stands rule map)

abbrev pub misses : List Rule → ℕ → Bool
misses rules map = any_field (λ (rule : Rule). rule) needed_bit_absent (λ (left : ℕ). false) rules map

-- a record has a curve where a bit of the curve stands. The rules are then those of a curve, by which both its needed bits
-- must stand: 7, "curve bits unmatched"
abbrev pub curve_bit_stands : Entry → ℕ → Bool
curve_bit_stands entry map = on_curve entry && stands (rule_of entry) map

abbrev pub curved : List Entry → ℕ → Bool
curved entries map = any_field rule_of curve_bit_stands (λ (left : ℕ). false) entries map

abbrev pub rules_read : (edition kind map : ℕ) → List Rule
rules_read edition kind map = settle (curved (entries_of edition kind) map) (entries_of edition kind)

-- "then two bytes for each bit that stands": the two-byte numbers of a field, and of a record
abbrev pub field_words : Rule → ℕ → ℕ
field_words rule map = bit_of rule map

unfoldable pub words : List Rule → ℕ → ℕ
words [] map = 0
words (rule ∷ rules) map = field_words rule map + words rules (rest_of rule map)

-- a field that stands: 8, "field outside its range", then 9, "default spelled out"; otherwise 0
abbrev pub value_number : Rule → ℕ → ℕ
value_number rule value = cond (allows rule value) (cond (holds (absent_of rule) value) 9 0) 8

-- the next field, whose bytes a list starts with: its refusal or 0, its value, and what follows it
abbrev pub field_number : Rule → ℕ → List ℕ → ℕ
field_number rule map s = cond (stands rule map) (value_number rule (word s)) 0

abbrev pub field_value : Rule → ℕ → List ℕ → Option ℕ
field_value rule map s = cond (stands rule map) (Some (word s)) (absent_of rule)

abbrev pub after : Rule → ℕ → List ℕ → List ℕ
after rule map s = drop (2 * field_words rule map) s

-- "then field by field 8, 9": the first refusal, or 0
unfoldable pub fields_number : List Rule → ℕ → List ℕ → ℕ
fields_number [] map s = 0
fields_number (rule ∷ rules) map s =
    cond (eqb (field_number rule map s) 0) (fields_number rules (rest_of rule map) (after rule map s)) (field_number rule map s)

unfoldable pub fields_values : List Rule → ℕ → List ℕ → List (Option ℕ)
fields_values [] map s = []
fields_values (rule ∷ rules) map s = field_value rule map s ∷ fields_values rules (rest_of rule map) (after rule map s)

-- a site of its kind, its slots and the later years of its traffics
abbrev pub site_of : ℕ → List (Option ℕ) → (traffic minor : Later) → Site
site_of kind slots traffic minor =
    record {
      kind = kind;
      traffic = get_or slots 0 None;
      length = get_or slots 1 None;
      minor_traffic = get_or slots 2 None;
      observed = get_or slots 3 None;
      lane_width = get_or slots 4 None;
      shoulder_width = get_or slots 5 None;
      shoulder_type = get_or slots 6 None;
      curve_length = get_or slots 7 None;
      radius = get_or slots 8 None;
      spiral_ends = get_or slots 9 None;
      deficiency = get_or slots 10 None;
      grade = get_or slots 11 None;
      driveways = get_or slots 12 None;
      two_way_lane = get_or slots 13 None;
      passing = get_or slots 14 None;
      hazard_rating = get_or slots 15 None;
      skew = get_or slots 16 None;
      left_lanes = get_or slots 17 None;
      right_lanes = get_or slots 18 None;
      limited_sight = get_or slots 19 None;
      later_traffic = traffic;
      later_minor = minor;
    }

-- document 02, request 4: "Bit 15 of any kind of record .. has no field of its own": it stands or not, and the map without it is
-- that of the fields
abbrev pub yearly_bit : ℕ → ℕ
yearly_bit map = map / 32768 % 2

abbrev pub field_map : ℕ → ℕ
field_map map = map - 32768 * yearly_bit map

-- the parts of a record
abbrev pub kind_in : List ℕ → ℕ
kind_in s = get_or s 0 0

abbrev pub map_in : List ℕ → ℕ
map_in s = word (drop 1 s)

abbrev pub field_map_in : List ℕ → ℕ
field_map_in s = field_map (map_in s)

abbrev pub rules_in : (edition : ℕ) → List ℕ → List Rule
rules_in edition s = rules_read edition (kind_in s) (field_map_in s)

-- "each traffic field is followed by Y − 1 more values": how many follow the major traffic, and the minor
abbrev pub later_in : (years : ℕ) → List ℕ → ℕ
later_in years s = yearly_bit (map_in s) * (years - 1)

abbrev pub later_minor_in : (years : ℕ) → List ℕ → ℕ
later_minor_in years s = later_minor (kind_in s) (later_in years s)

-- they stand after the first number of the fields and after the second, the fields of bits 0 and 1: the fields without them
abbrev pub gathered : (later minor : ℕ) → List ℕ → List ℕ
gathered later minor s = take 2 s ++ (take 2 (drop (2 + 2 * later) s) ++ drop (4 + 2 * later + 2 * minor) s)

abbrev pub fields_in : (years : ℕ) → List ℕ → List ℕ
fields_in years s = gathered (later_in years s) (later_minor_in years s) (drop 3 s)

abbrev pub later_at : List ℕ → List ℕ
later_at s = drop 5 s

abbrev pub later_minor_at : (years : ℕ) → List ℕ → List ℕ
later_minor_at years s = drop (7 + 2 * later_in years s) s

-- so many values, "for years two to Y"; the years after them hold no number
unfoldable pub later_read : (years later : ℕ) → List ℕ → List (Option ℕ)
later_read zero later s = []
later_read (suc years) zero s = None ∷ later_read years zero s
later_read (suc years) (suc later) s = Some (word s) ∷ later_read years later (drop 2 s)

-- "Each has the range of the first"
unfoldable pub later_allowed : (later : ℕ) → List ℕ → Bool
later_allowed zero s = true
later_allowed (suc later) s = allows traffic (word s) && later_allowed later (drop 2 s)

abbrev pub all_later_allowed : (years : ℕ) → List ℕ → Bool
all_later_allowed years s = later_allowed (later_in years s) (later_at s) && later_allowed (later_minor_in years s) (later_minor_at years s)

abbrev pub length_in : (edition years : ℕ) → List ℕ → ℕ
length_in edition years s = 3 + 2 * (words (rules_in edition s) (field_map_in s) + (later_in years s + later_minor_in years s))

abbrev pub site_in : (edition years : ℕ) → List ℕ → Site
site_in edition years s =
    site_of (kind_in s) (fields_values (rules_in edition s) (field_map_in s) (fields_in years s))
    (later_from_slots (later_read later_years (later_in years s) (later_at s)))
    (later_from_slots (later_read later_years (later_minor_in years s) (later_minor_at years s)))

-- "Bit 15 with Y = 1 is refused with 7"
abbrev pub yearly_in_one : (years : ℕ) → List ℕ → Bool
yearly_in_one years s = eqb (yearly_bit (map_in s)) 1 && eqb years 1

abbrev pub misses_in : (edition years : ℕ) → List ℕ → Bool
misses_in edition years s = misses (rules_in edition s) (field_map_in s) || yearly_in_one years s

-- "6, 7, all fields present (1), then field by field 8, 9": the first refusal after the kind, or 0. A later value outside its range is
-- 8 in its turn: what stands before it has no default, so that no other number can come first
unfoldable pub record_number : (edition years : ℕ) → List ℕ → ℕ
record_number edition years s =
    cond (lacks (rules_in edition s) (field_map_in s)) 6
    (cond (misses_in edition years s) 7
    (cond (ltb (length s) (length_in edition years s)) 1
    (cond (all_later_allowed years s) (fields_number (rules_in edition s) (field_map_in s) (fields_in years s)) 8)))

-- "Where a request hands the edition or the years to the site reader .., one outside its limits is 3 or 4 at place 0, tried first";
-- then "kind and map present (1), 5, 6, 7, all fields present (1), then field by field 8, 9"
unfoldable pub refusal_of : (edition years : ℕ) → List ℕ → ℕ
refusal_of edition years s =
    cond (edition_known edition)
    (cond (years_known years)
    (cond (ltb (length s) 3) 1
    (cond (ltb last_kind (kind_in s)) 5
    (record_number edition years s)))
    4)
    3

-- what the site reader answers for a part, in a project of an edition and of so many years
unfoldable pub read_site : (edition years : ℕ) → List ℕ → Result (Site × ℕ) Refusal
read_site edition years s = read_answer (refusal_of edition years s) (site_in edition years s) (length_in edition years s)
