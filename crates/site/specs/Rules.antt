-- The rules of each kind and field: document 01, "Segment bits" and "Crossing bits".
-- Every range and every default stands here once, and once in `src/rules.rt`, proved equal.
use Rattle.std.specs.Prelude.{Option, None, Some}
use Rattle.std.specs.Prelude.{ℕ, Bool, true, false, cond, ◌&&◌, List, [], ◌∷◌, map, get_or, leb, eqb}
use Rattle.site.specs.declared.rules.Rule.{Rule}
use Rattle.site.specs.declared.rules.Rule.TheVariants.{Foreign, Lacking, Needed, Optional, Default}
use Rattle.site.specs.declared.rules.Entry.{Entry}
use Rattle.site.specs.declared.rules.Entry.TheVariants.{Always, OnCurve}

-- "traffic A in vehicles a day, 1 to 20,000"; of a crossing "major traffic A; minor traffic B (each 1 to 20,000)"
abbrev pub traffic : Rule
traffic = Needed 1 20000

-- "length L in thousandths of a mile, 1 to 20,000"
abbrev pub segment_length : Rule
segment_length = Needed 1 20000

-- "observed crashes O over the Y years, 0 to 500"; "Without bit 2 there is no history; a standing 0 is a history of none"
abbrev pub observed : Rule
observed = Optional 0 500

-- "lane feet 8 to 14 (default 12)"
abbrev pub lane_width : Rule
lane_width = Default 8 14 12

-- "shoulder feet 0 to 10 (6)"
abbrev pub shoulder_width : Rule
shoulder_width = Default 0 10 6

-- "shoulder type, 0 paved, 1 gravel, 2 composite, 3 turf (0)"
abbrev pub shoulder_type : Rule
shoulder_type = Default 0 3 0

-- "curve length Lc, thousandths of a mile, 1 to 20,000"
abbrev pub curve_length : Rule
curve_length = Needed 1 20000

-- "radius R in feet, 100 to 30,000"
abbrev pub radius : Rule
radius = Needed 100 30000

-- "curve ends with a spiral, 0 to 2 (0)"
abbrev pub spiral_ends : Rule
spiral_ends = Default 0 2 0

-- "superelevation deficiency D in thousandths, 0 to 100 (0)"
abbrev pub deficiency : Rule
deficiency = Default 0 100 0

-- "grade G in percent, 0 to 12 (0)"
abbrev pub grade : Rule
grade = Default 0 12 0

-- "driveways per mile DD, 0 to 50 (5)"
abbrev pub driveways : Rule
driveways = Default 0 50 5

-- "two-way left-turn lane, 0 or 1 (0)"
abbrev pub two_way_lane : Rule
two_way_lane = Default 0 1 0

-- "passing: 1 passing lane, 2 short four-lane section (0 none)"
abbrev pub passing : Rule
passing = Default 0 2 0

-- "roadside hazard rating RHR, 1 to 7 (3)"
abbrev pub hazard_rating : Rule
hazard_rating = Default 1 7 3

-- "skew degrees 0 to 60 (0), kinds 1 and 2"
abbrev pub skew : Rule
skew = Default 0 60 0

-- "major-road left-turn lanes (0); right-turn lanes (0), each up to 1 at 3ST and 2 elsewhere"
abbrev pub turn_lanes : ℕ → Rule
turn_lanes most = Default 0 most 0

-- document 02, request 6: "Bit 6 of a crossing gets 6 in edition 2": the editions whose stop crossings have it
abbrev pub has_sight : (edition : ℕ) → Bool
has_sight edition = leb edition 1

-- "quadrants with limited sight (0), up to 2 at 3ST and 4 at 4ST", where the edition has the bit
abbrev pub limited_sight : (sight : Bool) (most : ℕ) → Rule
limited_sight sight most = cond sight (Default 0 most 0) Lacking

-- The fields in the order of a site's slots, which is the rising order of the bits of each kind. A foreign field takes no
-- bit, so that bit 3 of a segment is the lane width and bit 3 of a crossing the skew.
-- "Bits 6 and 7 of a segment stand together, and 8 and 9 only with them": the four fields of a curve.
abbrev pub segment : List Entry
segment =
    Always traffic
    ∷ Always segment_length
    ∷ Always Foreign
    ∷ Always observed
    ∷ Always lane_width
    ∷ Always shoulder_width
    ∷ Always shoulder_type
    ∷ OnCurve curve_length
    ∷ OnCurve radius
    ∷ OnCurve spiral_ends
    ∷ OnCurve deficiency
    ∷ Always grade
    ∷ Always driveways
    ∷ Always two_way_lane
    ∷ Always passing
    ∷ Always hazard_rating
    ∷ Always Foreign
    ∷ Always Foreign
    ∷ Always Foreign
    ∷ Always Foreign
    ∷ []

-- a crossing's skew, left-turn lanes, right-turn lanes and limited sight after what all crossings have
abbrev pub crossing : Rule → Rule → Rule → Rule → List Entry
crossing angle left right sight =
    Always traffic
    ∷ Always Foreign
    ∷ Always traffic
    ∷ Always observed
    ∷ Always Foreign
    ∷ Always Foreign
    ∷ Always Foreign
    ∷ Always Foreign
    ∷ Always Foreign
    ∷ Always Foreign
    ∷ Always Foreign
    ∷ Always Foreign
    ∷ Always Foreign
    ∷ Always Foreign
    ∷ Always Foreign
    ∷ Always Foreign
    ∷ Always angle
    ∷ Always left
    ∷ Always right
    ∷ Always sight
    ∷ []

-- "kind byte (0 segment, 1 3ST, 2 4ST, 3 4SG)"; "4SG lacks bits 3 and 6". Editions differ in limited sight alone
abbrev pub table : (sight : Bool) → List (List Entry)
table sight =
    segment
    ∷ crossing skew (turn_lanes 1) (turn_lanes 1) (limited_sight sight 2)
    ∷ crossing skew (turn_lanes 2) (turn_lanes 2) (limited_sight sight 4)
    ∷ crossing Lacking (turn_lanes 2) (turn_lanes 2) Lacking
    ∷ []

-- the rules of a kind, one for each slot of a site, and in an edition
abbrev pub entries_by : (sight : Bool) (kind : ℕ) → List Entry
entries_by sight kind = get_or (table sight) kind []

unfoldable pub entries_of : (edition kind : ℕ) → List Entry
entries_of edition kind = entries_by (has_sight edition) kind

-- "kind above 3"
abbrev pub last_kind : ℕ
last_kind = 3

-- what a site has: traffic, length, minor traffic and so on
abbrev pub slot_count : ℕ
slot_count = 20

-- a value lies from low to high
abbrev pub inside : ℕ → ℕ → ℕ → Bool
inside low high value = leb low value && leb value high

-- "edition, 1", and document 02, request 6: "3 now means neither 1 nor 2"
abbrev pub last_edition : ℕ
last_edition = 2

abbrev pub edition_known : ℕ → Bool
edition_known edition = inside 1 last_edition edition

-- "years Y, 1 to 10"
abbrev pub most_years : ℕ
most_years = 10

abbrev pub years_known : ℕ → Bool
years_known years = inside 1 most_years years

-- years two to ten
abbrev pub later_years : ℕ
later_years = 9

-- a number that the rule takes
abbrev pub allows : Rule → ℕ → Bool
allows Foreign value = false
allows Lacking value = false
allows (Needed low high) value = inside low high value
allows (Optional low high) value = inside low high value
allows (Default low high usual) value = inside low high value

-- what a field that does not stand is read as: "Any other absent field has its default"
abbrev pub absent_of : Rule → Option ℕ
absent_of Foreign = None
absent_of Lacking = None
absent_of (Needed low high) = None
absent_of (Optional low high) = None
absent_of (Default low high usual) = Some usual

-- "needed bit absent": the field always stands
abbrev pub needed : Rule → Bool
needed Foreign = false
needed Lacking = false
needed (Needed low high) = true
needed (Optional low high) = false
needed (Default low high usual) = false

-- "bit the kind lacks"
abbrev pub lacking : Rule → Bool
lacking Foreign = false
lacking Lacking = true
lacking (Needed low high) = false
lacking (Optional low high) = false
lacking (Default low high usual) = false

-- how many bits of the map a field has
abbrev pub bits : Rule → ℕ
bits Foreign = 0
bits Lacking = 1
bits (Needed low high) = 1
bits (Optional low high) = 1
bits (Default low high usual) = 1

-- the rule of a field on a curve
abbrev pub rule_of : Entry → Rule
rule_of (Always rule) = rule
rule_of (OnCurve rule) = rule

-- the field belongs to the curve
abbrev pub on_curve : Entry → Bool
on_curve (Always rule) = false
on_curve (OnCurve rule) = true

-- "without them the road is straight": a straight road lacks the fields of a curve
abbrev pub settled : Bool → Entry → Rule
settled curved (Always rule) = rule
settled curved (OnCurve rule) = cond curved rule Lacking

abbrev pub settle : Bool → List Entry → List Rule
settle curved entries = map (settled curved) entries

-- a slot that holds no number
abbrev pub absent : Option ℕ → Bool
absent None = true
absent (Some value) = false

-- a number is what the slot holds
abbrev pub holds : Option ℕ → ℕ → Bool
holds None value = false
holds (Some held) value = eqb value held
