-- Writing: what the site writer answers for a site, and what it leaves in the buffer.
use Rattle.std.specs.Prelude.{Result}
use Rattle.site.specs.declared.refusal.Refusal.{Refusal}
use Rattle.std.specs.Prelude.{Option, None, Some}
use Rattle.std.specs.Prelude.{ℕ, zero, suc, ◌+◌, ◌*◌, ◌/◌, ◌%◌, ◌≡◌, Bool, true, false, cond, ◌&&◌, ◌||◌, not, List, [], ◌∷◌, ◌++◌, length, get_or, drop, leb, eqb}
use Rattle.site.specs.declared.rules.Rule.{Rule}
use Rattle.site.specs.declared.rules.Rule.TheVariants.{Foreign}
use Rattle.site.specs.declared.rules.Entry.{Entry}
use Rattle.site.specs.declared.values.Site.{Site}
use Rattle.site.specs.Rules.{entries_of, last_kind, edition_known, years_known, traffic, allows, absent_of, needed, bits, on_curve, settle, absent, holds}
use Rattle.site.specs.Yearly.{later_slots, yearly, later_given, later_minor}
use Rattle.site.specs.Answers.{wrote_answer}
use Rattle.laws.specs.Lent.{laid}

-- the slots of a site, in the order of the rules
abbrev pub slots_of : Site → List (Option ℕ)
slots_of site =
    site.traffic
    ∷ site.length
    ∷ site.minor_traffic
    ∷ site.observed
    ∷ site.lane_width
    ∷ site.shoulder_width
    ∷ site.shoulder_type
    ∷ site.curve_length
    ∷ site.radius
    ∷ site.spiral_ends
    ∷ site.deficiency
    ∷ site.grade
    ∷ site.driveways
    ∷ site.two_way_lane
    ∷ site.passing
    ∷ site.hazard_rating
    ∷ site.skew
    ∷ site.left_lanes
    ∷ site.right_lanes
    ∷ site.limited_sight
    ∷ []

-- a site has a curve where a slot of the curve holds a number: with half a curve, a needed slot of it is absent
unfoldable pub curve_held : List Entry → List (Option ℕ) → Bool
curve_held [] slots = false
curve_held (entry ∷ entries) [] = false
curve_held (entry ∷ entries) (slot ∷ slots) = (on_curve entry && not (absent slot)) || curve_held entries slots

abbrev pub rules_held : (edition kind : ℕ) → List (Option ℕ) → List Rule
rules_held edition kind slots = settle (curve_held (entries_of edition kind) slots) (entries_of edition kind)

-- a slot is within its rule: a number that the rule takes, or absent where the reader can leave it so
abbrev pub fits : Rule → Option ℕ → Bool
fits rule None = not (needed rule) && absent (absent_of rule)
fits rule (Some value) = allows rule value

unfoldable pub all_fit : List Rule → List (Option ℕ) → Bool
all_fit [] slots = true
all_fit (rule ∷ rules) [] = false
all_fit (rule ∷ rules) (slot ∷ slots) = fits rule slot && all_fit rules slots

-- "drops defaults": the bit of a slot, 0 where it is absent or its rule's default
abbrev pub slot_bit : Rule → Option ℕ → ℕ
slot_bit rule None = 0
slot_bit rule (Some value) = cond (holds (absent_of rule) value) 0 (bits rule)

unfoldable pub map_of : List Rule → List (Option ℕ) → ℕ
map_of [] slots = 0
map_of (rule ∷ rules) [] = 0
map_of (rule ∷ rules) (slot ∷ slots) = slot_bit rule slot + (1 + bits rule) * map_of rules slots

-- "Two-byte numbers are unsigned, high byte first"
abbrev pub two_bytes : ℕ → List ℕ
two_bytes value = value / 256 ∷ value % 256 ∷ []

-- "two bytes for each bit that stands, in rising order"
abbrev pub slot_bytes : Option ℕ → List ℕ
slot_bytes None = []
slot_bytes (Some value) = two_bytes value

abbrev pub field_bytes : Rule → Option ℕ → List ℕ
field_bytes rule slot = cond (eqb (slot_bit rule slot) 1) (slot_bytes slot) []

unfoldable pub bytes_of : List Rule → List (Option ℕ) → List ℕ
bytes_of [] slots = []
bytes_of (rule ∷ rules) [] = []
bytes_of (rule ∷ rules) (slot ∷ slots) = field_bytes rule slot ++ bytes_of rules slots

-- document 02, request 4: the later values, year by year
unfoldable pub later_bytes : List (Option ℕ) → List ℕ
later_bytes [] = []
later_bytes (slot ∷ slots) = slot_bytes slot ++ later_bytes slots

-- "each traffic field is followed by Y − 1 more values": the fields of traffic, length and minor traffic and of all others, with the
-- later values of traffic and of minor traffic after each
unfoldable pub spread_bytes : List Rule → List (Option ℕ) → (traffic minor : List ℕ) → List ℕ
spread_bytes rules slots traffic minor =
    field_bytes (get_or rules 0 Foreign) (get_or slots 0 None)
    ++ (traffic
    ++ (field_bytes (get_or rules 1 Foreign) (get_or slots 1 None)
    ++ (field_bytes (get_or rules 2 Foreign) (get_or slots 2 None)
    ++ (minor
    ++ bytes_of (drop 3 rules) (drop 3 slots)))))

-- "A record is a kind byte, a two-byte bit map, then two bytes for each bit that stands", and bit 15 where there are later values
unfoldable pub record_by : List Rule → (kind : ℕ) → List (Option ℕ) → (yearly : Bool) → (traffic minor : List (Option ℕ)) → List ℕ
record_by rules kind slots yearly traffic minor =
    kind ∷ (two_bytes (map_of rules slots + cond yearly 32768 0) ++ spread_bytes rules slots (later_bytes traffic) (later_bytes minor))

abbrev pub record_of : (edition : ℕ) → Site → List ℕ
record_of edition site =
    record_by (rules_held edition site.kind (slots_of site)) site.kind (slots_of site)
    (yearly site) (later_slots site.later_traffic) (later_slots site.later_minor)

-- "The site writer counts yearly values with Y = 1, or not Y − 1 of them for each traffic field, as outside the range": the first
-- later years have a value, within the traffic's range, and the others hold no number
unfoldable pub later_fits : ℕ → List (Option ℕ) → Bool
later_fits later [] = eqb later 0
later_fits zero (slot ∷ slots) = absent slot && later_fits zero slots
later_fits (suc later) (slot ∷ slots) = fits traffic slot && later_fits later slots

abbrev pub later_sound : (years : ℕ) → Site → Bool
later_sound years site =
    later_fits (later_given years site) (later_slots site.later_traffic)
    && later_fits (later_minor site.kind (later_given years site)) (later_slots site.later_minor)

-- nothing of a site is outside its range: "a kind above 3, a value that the kind lacks, half a curve, or a spiral or D on a
-- straight road counts as outside its range"
unfoldable pub sound_site : (edition years : ℕ) → Site → Bool
sound_site edition years site =
    leb site.kind last_kind && (all_fit (rules_held edition site.kind (slots_of site)) (slots_of site) && later_sound years site)

-- nor are the edition and the years
unfoldable pub sound : (edition years : ℕ) → Site → Bool
sound edition years site = edition_known edition && (years_known years && sound_site edition years site)

-- a site that the writer takes, and a record can be read as, in a project of an edition and of so many years
pub record Valid (edition years : ℕ) (site : Site) : Type 0 where
  pub is_sound : sound edition years site ≡ true

-- what a site measures: the length of its record
unfoldable pub measure_of : (edition years : ℕ) → Site → Option ℕ
measure_of edition years site = cond (sound edition years site) (Some (length (record_of edition site))) None

-- an edition or years "outside its limits is 3 or 4 .., tried first"; then "It refuses only with 8, then 10": the writer's number where
-- the buffer has so much room
unfoldable pub write_refusal : (edition years : ℕ) → Site → ℕ → ℕ
write_refusal edition years site room =
    cond (edition_known edition)
    (cond (years_known years) (cond (sound_site edition years site) (cond (leb (length (record_of edition site)) room) 0 10) 8) 4)
    3

-- and of a site that is measured: the writer's where the buffer just suffices
abbrev pub measure_refusal : (edition years : ℕ) → Site → ℕ
measure_refusal edition years site = write_refusal edition years site (length (record_of edition site))

-- what the site writer answers
unfoldable pub write_answer : (edition years : ℕ) → Site → ℕ → Result ℕ Refusal
write_answer edition years site room = wrote_answer (write_refusal edition years site room) (length (record_of edition site))

-- the buffer afterwards
unfoldable pub write_into : (edition years : ℕ) → Site → List ℕ → List ℕ
write_into edition years site before = cond (sound edition years site) (laid (record_of edition site) before) before
