-- Document 01's bits, by number: what each bit of each kind's map means, where a field's two bytes stand, and what a field
-- that stands or does not stand is read as. With the reader's definitions it shares only what a range and a two-byte number are,
-- where kind and map stand, that a segment has no minor traffic, and which editions have limited sight. The bits of fields, 0 to 14,
-- are read from the map without bit 15, `field_map_in`: by `fields_keep_bits` and `fields_lack_fifteen` of BitLaws it has the bits of the
-- record's own map, `map_in`, but for 15. `fields_read` of FieldsRead and `record_cause_exactly` of RecordCauses tie it to the reader's
-- answer.
use Rattle.std.specs.Prelude.{Option, None, Some}
use Rattle.std.specs.Prelude.{◌≡◌, Bool, true, false, cond, List, [], ◌∷◌, ℕ, zero, suc, ◌+◌, ◌-◌, ◌*◌, ◌/◌, ◌%◌, ◌≤◌, ◌<◌, get_or, drop, eqb}
use Rattle.site.specs.declared.values.Site.{Site}
use Rattle.site.specs.Rules.{inside, has_sight}
use Rattle.site.specs.Yearly.{later_slots, yearly, later_minor}
use Rattle.site.specs.Record.{word, kind_in, map_in, field_map_in}

-- where a field's bit does not stand
pub data Absence : Type 0 where
  -- "Bits 0 and 1 always stand"
  never : Absence
  -- "Without bit 2 there is no history": the slot holds no number
  no_number : Absence
  -- "Any other absent field has its default"
  usual : ℕ → Absence
  -- "without them the road is straight": a field of the curve, as said on a curve and with no number on a straight road
  on_curve : Absence → Absence

-- what a bit means: the site's slot of that name, from a lowest to a highest number; or the kind lacks it
pub data Field : Type 0 where
  lacked : Field
  field : (Site → Option ℕ) → (low high : ℕ) → Absence → Field

pub data Row : Type 0 where
  bit : ℕ → Field → Row

-- "Segment bits"
abbrev pub segment_rows : List Row
segment_rows =
    bit 0 (field (λ site. site.traffic) 1 20000 never)
    ∷ bit 1 (field (λ site. site.length) 1 20000 never)
    ∷ bit 2 (field (λ site. site.observed) 0 500 no_number)
    ∷ bit 3 (field (λ site. site.lane_width) 8 14 (usual 12))
    ∷ bit 4 (field (λ site. site.shoulder_width) 0 10 (usual 6))
    ∷ bit 5 (field (λ site. site.shoulder_type) 0 3 (usual 0))
    ∷ bit 6 (field (λ site. site.curve_length) 1 20000 (on_curve never))
    ∷ bit 7 (field (λ site. site.radius) 100 30000 (on_curve never))
    ∷ bit 8 (field (λ site. site.spiral_ends) 0 2 (on_curve (usual 0)))
    ∷ bit 9 (field (λ site. site.deficiency) 0 100 (on_curve (usual 0)))
    ∷ bit 10 (field (λ site. site.grade) 0 12 (usual 0))
    ∷ bit 11 (field (λ site. site.driveways) 0 50 (usual 5))
    ∷ bit 12 (field (λ site. site.two_way_lane) 0 1 (usual 0))
    ∷ bit 13 (field (λ site. site.passing) 0 2 (usual 0))
    ∷ bit 14 (field (λ site. site.hazard_rating) 1 7 (usual 3))
    ∷ []

-- "Crossing bits", those that all crossings have: at most so many turn lanes
abbrev pub crossing_rows : ℕ → List Row → List Row
crossing_rows lanes rows =
    bit 0 (field (λ site. site.traffic) 1 20000 never)
    ∷ bit 1 (field (λ site. site.minor_traffic) 1 20000 never)
    ∷ bit 2 (field (λ site. site.observed) 0 500 no_number)
    ∷ bit 4 (field (λ site. site.left_lanes) 0 lanes (usual 0))
    ∷ bit 5 (field (λ site. site.right_lanes) 0 lanes (usual 0))
    ∷ rows

-- "3 skew degrees 0 to 60 (0), kinds 1 and 2"; "6 quadrants with limited sight (0), up to 2 at 3ST and 4 at 4ST"; document 02, request 6:
-- "Bit 6 of a crossing gets 6 in edition 2"
abbrev pub stop_rows : (sight : Bool) (quadrants : ℕ) → List Row
stop_rows sight quadrants =
    bit 3 (field (λ site. site.skew) 0 60 (usual 0))
    ∷ bit 6 (cond sight (field (λ site. site.limited_sight) 0 quadrants (usual 0)) lacked)
    ∷ []

-- 0 segment, 1 3ST, 2 4ST, 3 4SG: "each up to 1 at 3ST and 2 elsewhere", "4SG lacks bits 3 and 6"
abbrev pub rows_by : (sight : Bool) (kind : ℕ) → List Row
rows_by sight zero = segment_rows
rows_by sight (suc zero) = crossing_rows 1 (stop_rows sight 2)
rows_by sight (suc (suc zero)) = crossing_rows 2 (stop_rows sight 4)
rows_by sight (suc (suc (suc kind))) = crossing_rows 2 []

-- of an edition
abbrev pub rows_of : (edition kind : ℕ) → List Row
rows_of edition kind = rows_by (has_sight edition) kind

-- what a bit of these rows means: a kind lacks the bits that have no row
unfoldable pub field_at : List Row → ℕ → Field
field_at [] b = lacked
field_at (bit n x ∷ rows) b = cond (eqb b n) x (field_at rows b)

abbrev pub field_in : (edition : ℕ) → List ℕ → ℕ → Field
field_in edition s b = field_at (rows_of edition (kind_in s)) b

-- the bits of fields, 0 to 14: bit 15 of the map "has no field of its own"; and those of them that a kind lacks
abbrev pub map_bits : ℕ
map_bits = 15

unfoldable pub lacked_from : List Row → (from count : ℕ) → List ℕ
lacked_from rows b zero = []
lacked_from rows b (suc count) = only_lacked (field_at rows b) b (lacked_from rows (suc b) count)
  where
    only_lacked : Field → ℕ → List ℕ → List ℕ
    only_lacked lacked n later = n ∷ later
    only_lacked (field value low high absence) n later = later

-- they are none of a segment, and of a crossing 7 to 14; "4SG lacks bits 3 and 6", and an edition without limited sight has no 6
abbrev pub no_crossing : List ℕ
no_crossing = 7 ∷ 8 ∷ 9 ∷ 10 ∷ 11 ∷ 12 ∷ 13 ∷ 14 ∷ []

abbrev pub lacked_of : (sight : Bool) (kind : ℕ) → List ℕ
lacked_of sight zero = []
lacked_of sight (suc kind) = cond (eqb kind 2) (3 ∷ 6 ∷ no_crossing) (cond sight no_crossing (6 ∷ no_crossing))

abbrev pub lacked_bits : (edition kind : ℕ) → List ℕ
lacked_bits edition kind = lacked_of (has_sight edition) kind

-- the slots of other kinds, and of other editions, which no bit of this kind is for
abbrev pub others_by : (sight : Bool) (kind : ℕ) → Site → List (Option ℕ)
others_by sight zero site = site.minor_traffic ∷ site.skew ∷ site.left_lanes ∷ site.right_lanes ∷ site.limited_sight ∷ []
others_by sight (suc kind) site =
    site.length
    ∷ site.lane_width
    ∷ site.shoulder_width
    ∷ site.shoulder_type
    ∷ site.curve_length
    ∷ site.radius
    ∷ site.spiral_ends
    ∷ site.deficiency
    ∷ site.grade
    ∷ site.driveways
    ∷ site.two_way_lane
    ∷ site.passing
    ∷ site.hazard_rating
    ∷ cond (eqb kind 2) (site.skew ∷ site.limited_sight ∷ []) (cond sight [] (site.limited_sight ∷ []))

abbrev pub others_of : (edition kind : ℕ) → Site → List (Option ℕ)
others_of edition kind site = others_by (has_sight edition) kind site

-- "a two-byte bit map (bit 0 the lowest)": a bit stands
abbrev pub bit_at : ℕ → ℕ → Bool
bit_at zero map = eqb (map % 2) 1
bit_at (suc b) map = bit_at b (map / 2)

-- how many of the bits below b stand
unfoldable pub standing : ℕ → ℕ → ℕ
standing zero map = 0
standing (suc b) map = map % 2 + standing b (map / 2)

-- document 02, request 4: "Bit 15 of any kind of record now says that each traffic field is followed by Y − 1 more values": how many
-- follow the traffic. As many follow the minor traffic, which a segment does not have
abbrev pub later_told : (years : ℕ) → List ℕ → ℕ
later_told years s = cond (bit_at 15 (map_in s)) (years - 1) 0

-- how many numbers the field of a bit has
abbrev pub numbers_of : (kind later : ℕ) → ℕ → ℕ
numbers_of kind later zero = 1 + later
numbers_of kind later (suc zero) = 1 + later_minor kind later
numbers_of kind later (suc (suc b)) = 1

abbrev pub numbers_in : (years : ℕ) → List ℕ → ℕ → ℕ
numbers_in years s b = numbers_of (kind_in s) (later_told years s) b

-- "then two bytes for each bit that stands, in rising order": how many numbers the fields of the bits below b have
unfoldable pub numbers_below : (ℕ → ℕ) → ℕ → ℕ → ℕ
numbers_below numbers zero map = 0
numbers_below numbers (suc b) map = map % 2 * numbers 0 + numbers_below (λ c. numbers (suc c)) b (map / 2)

abbrev pub place_of : (years : ℕ) → ℕ → List ℕ → ℕ
place_of years b s = 3 + 2 * numbers_below (numbers_in years s) b (field_map_in s)

-- the numbers of a bit that stands, those of the later years after that of the first
abbrev pub value_at : (years b i : ℕ) → List ℕ → ℕ
value_at years b i s = word (drop (place_of years b s + 2 * i) s)

abbrev pub number_at : (years b : ℕ) → List ℕ → ℕ
number_at years b s = value_at years b 0 s

-- where the fields end, which is "the record's length"
abbrev pub fields_end : (years : ℕ) → List ℕ → ℕ
fields_end years s = place_of years map_bits s

-- "field outside its range": a number is not so
abbrev pub in_range : Field → ℕ → Bool
in_range lacked number = false
in_range (field value low high absence) number = inside low high number

-- "default spelled out": a number is what the field has where its bit does not stand
abbrev pub is_usual : Absence → ℕ → Bool
is_usual never number = false
is_usual no_number number = false
is_usual (usual d) number = eqb number d
is_usual (on_curve absence) number = is_usual absence number

abbrev pub spells_default : Field → ℕ → Bool
spells_default lacked number = false
spells_default (field value low high absence) number = is_usual absence number

-- what a slot holds where its bit does not stand, on a curve or not
abbrev pub AbsentAs : Absence → Bool → Option ℕ → Type 0
AbsentAs never curve slot = ⊥
AbsentAs no_number curve slot = slot ≡ None
AbsentAs (usual d) curve slot = slot ≡ Some d
AbsentAs (on_curve absence) true slot = AbsentAs absence true slot
AbsentAs (on_curve absence) false slot = slot ≡ None

-- a segment whose bit 6 stands is on a curve
abbrev pub road_curves : ℕ → ℕ → Bool
road_curves zero map = bit_at 6 map
road_curves (suc kind) map = false

-- a field of a record that is read. A standing number is the slot's, in its range, and "a field may not spell its default out"
pub record FieldRead (years : ℕ) (s : List ℕ) (site : Site) (b : ℕ) (value : Site → Option ℕ) (low high : ℕ) (absence : Absence) : Type 0 where
  pub standing_is : bit_at b (field_map_in s) ≡ true → value site ≡ Some (number_at years b s)
  pub at_least : bit_at b (field_map_in s) ≡ true → low ≤ number_at years b s
  pub at_most : bit_at b (field_map_in s) ≡ true → number_at years b s ≤ high
  pub not_spelled : bit_at b (field_map_in s) ≡ true → is_usual absence (number_at years b s) ≡ false
  pub absent_as : bit_at b (field_map_in s) ≡ false → AbsentAs absence (road_curves (kind_in s) (field_map_in s)) (value site)

-- a bit of a record that is read, by what it means: one that the kind lacks does not stand
abbrev pub BitRead : (years : ℕ) → List ℕ → Site → ℕ → Field → Type 0
BitRead years s site b lacked = bit_at b (field_map_in s) ≡ false
BitRead years s site b (field value low high absence) = FieldRead years s site b value low high absence

-- "for years two to Y": the later values of the field of a bit. "Each has the range of the first", and "a site holds no number for a
-- year not given"
pub record LaterYears (years : ℕ) (s : List ℕ) (b later : ℕ) (slots : List (Option ℕ)) : Type 0 where
  pub value_is : (i : ℕ) → i < later → get_or slots i None ≡ Some (value_at years b (suc i) s)
  pub at_least : (i : ℕ) → i < later → 1 ≤ value_at years b (suc i) s
  pub at_most : (i : ℕ) → i < later → value_at years b (suc i) s ≤ 20000
  pub not_given : (i : ℕ) → later ≤ i → get_or slots i None ≡ None

-- none of these slots holds a number
abbrev pub AllAbsent : List (Option ℕ) → Type 0
AllAbsent [] = Unit
AllAbsent (slot ∷ slots) = (slot ≡ None) × AllAbsent slots

-- what is read from a part: kind, every bit of the map, no number in a slot of another kind, the later years of both traffics, which
-- the site has where bit 15 stands, and "the record's length"
pub record FieldsRead (edition years : ℕ) (s : List ℕ) (site : Site) (n : ℕ) : Type 0 where
  pub kind_is : site.kind ≡ kind_in s
  pub bits : (b : ℕ) → BitRead years s site b (field_in edition s b)
  pub others : AllAbsent (others_of edition (kind_in s) site)
  pub yearly_is : yearly site ≡ bit_at 15 (map_in s)
  pub later_traffic : LaterYears years s 0 (later_told years s) (later_slots site.later_traffic)
  pub later_minor : LaterYears years s 1 (later_minor (kind_in s) (later_told years s)) (later_slots site.later_minor)
  pub length_is : n ≡ fields_end years s
