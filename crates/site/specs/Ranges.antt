-- The ranges of a site that a record can be read as: what the rules say of each field, by kind.
use Rattle.std.specs.Prelude.{Option, None, Some}
use Rattle.std.specs.Prelude.{◌≡◌, refl, Bool, true, false, cond, ◌&&◌, List, [], ◌∷◌, ◌⊎◌, ◌↔◌, ℕ, zero, suc, ◌-◌, ◌≤◌, ◌<◌, get_or, ltb, leb, eqb}
use Rattle.std.proofs.Common.{sym, true≢false, inl, inr, arith, ltb-true, ltb-false, leb-true, le-leb, eqb-true, ne_eqb}
use Rattle.std.proofs.lemmas.Bool.{eqb-false}
use Rattle.site.specs.declared.rules.Rule.{Rule}
use Rattle.site.specs.declared.rules.Rule.TheVariants.{Foreign, Lacking, Needed, Optional, Default}
use Rattle.site.specs.declared.rules.Entry.TheVariants.{OnCurve}
use Rattle.site.specs.declared.values.Site.{Site}
use Rattle.site.specs.Rules as rules
use Rattle.site.specs.Rules.{has_sight, entries_of, last_kind, edition_known, years_known, segment, crossing, inside, settled, settle}
use Rattle.site.specs.Yearly.{later_slots, yearly, later_given, later_minor}
use Rattle.site.specs.Writing.{slots_of, curve_held, rules_held, fits, all_fit, later_fits, later_sound, sound_site, sound, Valid}
use Rattle.laws.specs.Truth.{and_left, and_right, not_both, never_so}

-- a slot holds a number from low to high
pub record Within (low high : ℕ) (slot : Option ℕ) : Type 0 where
  pub value : ℕ
  pub is : slot ≡ Some value
  pub at_least : low ≤ value
  pub at_most : value ≤ high

-- a slot obeys a rule: what it then holds
abbrev pub Obeys : Rule → Option ℕ → Type 0
Obeys Foreign slot = slot ≡ None
Obeys Lacking slot = slot ≡ None
Obeys (Needed low high) slot = Within low high slot
Obeys (Optional low high) slot = (slot ≡ None) ⊎ Within low high slot
Obeys (Default low high usual) slot = Within low high slot

within : (low high value : ℕ) → inside low high value ≡ true → Within low high (Some value)
within low high value e =
    record {
      value = value;
      is = refl;
      at_least = leb-true low value (and_left (leb low value) (leb value high) e);
      at_most = leb-true value high (and_right (leb low value) (leb value high) e);
    }

pub fit_obeys : (rule : Rule) (slot : Option ℕ) → fits rule slot ≡ true → Obeys rule slot
fit_obeys Foreign None e = refl
fit_obeys Foreign (Some value) e = absurd (true≢false (sym e))
fit_obeys Lacking None e = refl
fit_obeys Lacking (Some value) e = absurd (true≢false (sym e))
fit_obeys (Needed low high) None e = absurd (true≢false (sym e))
fit_obeys (Needed low high) (Some value) e = within low high value e
fit_obeys (Optional low high) None e = inl refl
fit_obeys (Optional low high) (Some value) e = inr (within low high value e)
fit_obeys (Default low high usual) None e = absurd (true≢false (sym e))
fit_obeys (Default low high usual) (Some value) e = within low high value e

-- every slot by its rule
abbrev AllObey : List Rule → List (Option ℕ) → Type 0
AllObey [] slots = Unit
AllObey (rule ∷ rules) [] = Unit
AllObey (rule ∷ rules) (slot ∷ slots) = Obeys rule slot × AllObey rules slots

all_obey : (rules : List Rule) (slots : List (Option ℕ)) → all_fit rules slots ≡ true → AllObey rules slots
unfolding all_fit
all_obey [] slots e = tt
all_obey (rule ∷ rules) [] e = tt
all_obey (rule ∷ rules) (slot ∷ slots) e =
    (fit_obeys rule slot (and_left (fits rule slot) (all_fit rules slots) e), all_obey rules slots (and_right (fits rule slot) (all_fit rules slots) e))

-- the curve of a segment: on a straight road its four slots are absent
pub record StraightRoad (site : Site) : Type 0 where
  pub curve_length : site.curve_length ≡ None
  pub radius : site.radius ≡ None
  pub spiral_ends : site.spiral_ends ≡ None
  pub deficiency : site.deficiency ≡ None

pub record CurvedRoad (site : Site) : Type 0 where
  pub curve_length : Obeys rules.curve_length site.curve_length
  pub radius : Obeys rules.radius site.radius
  pub spiral_ends : Obeys rules.spiral_ends site.spiral_ends
  pub deficiency : Obeys rules.deficiency site.deficiency

-- the fields of a segment
pub record SegmentRanges (site : Site) : Type 0 where
  pub traffic : Obeys rules.traffic site.traffic
  pub length : Obeys rules.segment_length site.length
  pub observed : Obeys rules.observed site.observed
  pub lane_width : Obeys rules.lane_width site.lane_width
  pub shoulder_width : Obeys rules.shoulder_width site.shoulder_width
  pub shoulder_type : Obeys rules.shoulder_type site.shoulder_type
  pub road : StraightRoad site ⊎ CurvedRoad site
  pub grade : Obeys rules.grade site.grade
  pub driveways : Obeys rules.driveways site.driveways
  pub two_way_lane : Obeys rules.two_way_lane site.two_way_lane
  pub passing : Obeys rules.passing site.passing
  pub hazard_rating : Obeys rules.hazard_rating site.hazard_rating

-- the fields of a crossing, by the rules in which the kinds differ
pub record CrossingRanges (angle left right sight : Rule) (site : Site) : Type 0 where
  pub traffic : Obeys rules.traffic site.traffic
  pub minor_traffic : Obeys rules.traffic site.minor_traffic
  pub observed : Obeys rules.observed site.observed
  pub skew : Obeys angle site.skew
  pub left_lanes : Obeys left site.left_lanes
  pub right_lanes : Obeys right site.right_lanes
  pub limited_sight : Obeys sight site.limited_sight

-- what the tests of a site come to
pub record Tests (edition years : ℕ) (site : Site) : Type 0 where
  pub edition_in : edition_known edition ≡ true
  pub years_in : years_known years ≡ true
  pub known : leb site.kind last_kind ≡ true
  pub fit : all_fit (rules_held edition site.kind (slots_of site)) (slots_of site) ≡ true
  pub later_traffic : later_fits (later_given years site) (later_slots site.later_traffic) ≡ true
  pub later_minor : later_fits (later_minor site.kind (later_given years site)) (later_slots site.later_minor) ≡ true

pub tests : (edition years : ℕ) (site : Site) → Valid edition years site → Tests edition years site
unfolding sound sound_site
tests edition years site v =
    let x = and_left (edition_known edition) _ v.is_sound in
    let s0 = and_right (edition_known edition) _ v.is_sound in
    let y = and_left (years_known years) _ s0 in
    let s = and_right (years_known years) _ s0 in
    let k = and_left (leb site.kind last_kind) _ s in
    let s1 = and_right (leb site.kind last_kind) _ s in
    let f = and_left (all_fit (rules_held edition site.kind (slots_of site)) (slots_of site)) _ s1 in
    let both = and_right (all_fit (rules_held edition site.kind (slots_of site)) (slots_of site)) _ s1 in
    record {
      edition_in = x;
      years_in = y;
      known = k;
      fit = f;
      later_traffic = and_left (later_fits (later_given years site) (later_slots site.later_traffic)) _ both;
      later_minor = and_right (later_fits (later_given years site) (later_slots site.later_traffic)) _ both;
    }

pub sound_by : (edition years : ℕ) (site : Site) → Tests edition years site → Valid edition years site
unfolding sound sound_site
sound_by edition years site t =
    record { is_sound = rw (t.edition_in, t.years_in, t.known, t.fit, t.later_traffic, t.later_minor) }

pub valid_fits : (edition years : ℕ) (site : Site) → Valid edition years site → (kind : ℕ) → site.kind ≡ kind
    → all_fit (rules_held edition kind (slots_of site)) (slots_of site) ≡ true
valid_fits edition years site v kind e = rw e at (tests edition years site v).fit

pub valid_kind : (edition years : ℕ) (site : Site) → Valid edition years site → site.kind ≤ last_kind
valid_kind edition years site v = leb-true site.kind last_kind (tests edition years site v).known

road_by : (site : Site) (c : Bool)
    → Obeys (settled c (OnCurve rules.curve_length)) site.curve_length → Obeys (settled c (OnCurve rules.radius)) site.radius
    → Obeys (settled c (OnCurve rules.spiral_ends)) site.spiral_ends → Obeys (settled c (OnCurve rules.deficiency)) site.deficiency
    → StraightRoad site ⊎ CurvedRoad site
road_by site true l r s d = inr (record { curve_length = l; radius = r; spiral_ends = s; deficiency = d })
road_by site false l r s d = inl (record { curve_length = l; radius = r; spiral_ends = s; deficiency = d })

segment_by : (site : Site) (c : Bool) → all_fit (settle c segment) (slots_of site) ≡ true → SegmentRanges site
segment_by site c e =
    let h = all_obey (settle c segment) (slots_of site) e in
    let r4 = h.1.1.1.1 in
    let r7 = r4.1.1.1 in
    let r11 = r7.1.1.1.1 in
    record {
      traffic = h.0;
      length = h.1.0;
      observed = h.1.1.1.0;
      lane_width = r4.0;
      shoulder_width = r4.1.0;
      shoulder_type = r4.1.1.0;
      road = road_by site c r7.0 r7.1.0 r7.1.1.0 r7.1.1.1.0;
      grade = r11.0;
      driveways = r11.1.0;
      two_way_lane = r11.1.1.0;
      passing = r11.1.1.1.0;
      hazard_rating = r11.1.1.1.1.0;
    }

pub segment_ranges : (edition years : ℕ) (site : Site) → Valid edition years site → site.kind ≡ 0 → SegmentRanges site
unfolding entries_of
segment_ranges edition years site v e = segment_by site (curve_held segment (slots_of site)) (valid_fits edition years site v 0 e)

crossing_by : (site : Site) (angle left right sight : Rule) (c : Bool)
    → all_fit (settle c (crossing angle left right sight)) (slots_of site) ≡ true
    → CrossingRanges angle left right sight site
crossing_by site angle left right sight c e =
    let h = all_obey (settle c (crossing angle left right sight)) (slots_of site) e in
    let r4 = h.1.1.1.1 in
    let r8 = r4.1.1.1.1 in
    let r12 = r8.1.1.1.1 in
    let r16 = r12.1.1.1.1 in
    record {
      traffic = h.0;
      minor_traffic = h.1.1.0;
      observed = h.1.1.1.0;
      skew = r16.0;
      left_lanes = r16.1.0;
      right_lanes = r16.1.1.0;
      limited_sight = r16.1.1.1.0;
    }

-- kind 1, 3ST
pub three_leg_ranges : (edition years : ℕ) (site : Site) → Valid edition years site → site.kind ≡ 1
    → CrossingRanges rules.skew (rules.turn_lanes 1) (rules.turn_lanes 1) (rules.limited_sight (has_sight edition) 2) site
unfolding entries_of
three_leg_ranges edition years site v e =
    crossing_by site rules.skew (rules.turn_lanes 1) (rules.turn_lanes 1) (rules.limited_sight (has_sight edition) 2)
    (curve_held (entries_of edition 1) (slots_of site)) (valid_fits edition years site v 1 e)

-- kind 2, 4ST
pub four_leg_ranges : (edition years : ℕ) (site : Site) → Valid edition years site → site.kind ≡ 2
    → CrossingRanges rules.skew (rules.turn_lanes 2) (rules.turn_lanes 2) (rules.limited_sight (has_sight edition) 4) site
unfolding entries_of
four_leg_ranges edition years site v e =
    crossing_by site rules.skew (rules.turn_lanes 2) (rules.turn_lanes 2) (rules.limited_sight (has_sight edition) 4)
    (curve_held (entries_of edition 2) (slots_of site)) (valid_fits edition years site v 2 e)

-- kind 3, 4SG
pub signal_ranges : (edition years : ℕ) (site : Site) → Valid edition years site → site.kind ≡ 3
    → CrossingRanges Lacking (rules.turn_lanes 2) (rules.turn_lanes 2) Lacking site
unfolding entries_of
signal_ranges edition years site v e =
    crossing_by site Lacking (rules.turn_lanes 2) (rules.turn_lanes 2) Lacking (curve_held (entries_of edition 3) (slots_of site)) (valid_fits edition years site v 3 e)

-- THE LATER YEARS of a traffic: so many hold a number in its range, and the years after them none
pub record YearsHeld (later : ℕ) (slots : List (Option ℕ)) : Type 0 where
  pub given : (i : ℕ) → i < later → Within 1 20000 (get_or slots i None)
  pub not_given : (i : ℕ) → later ≤ i → get_or slots i None ≡ None

within_fits : (slot : Option ℕ) → Within 1 20000 slot → fits rules.traffic slot ≡ true
within_fits slot w = rw (w.is, le-leb 1 w.value w.at_least, le-leb w.value 20000 w.at_most)

no_within : {low high : ℕ} {slot : Option ℕ} → Within low high slot → slot ≡ None → ⊥
no_within w e = let is = w.is in let z : ◌≡◌ {A = ℕ} 0 1 = cc in omega arith

years_held : (later : ℕ) (slots : List (Option ℕ)) → later_fits later slots ≡ true → YearsHeld later slots
unfolding later_fits
years_held later [] e = record { given = λ i h. absurd (omega (arith, eqb-true later 0 e)); not_given = λ i h. refl }
years_held zero (None ∷ slots) e =
    let rest = years_held zero slots e in
    record { given = λ i h. absurd (omega arith); not_given = elim [ zero ↦ λ h. refl | suc i ↦ λ h. rest.not_given i (omega arith) ] }
years_held zero (Some value ∷ slots) e = absurd (true≢false (sym e))
years_held (suc later) (slot ∷ slots) e =
    let rest = years_held later slots (and_right (fits rules.traffic slot) _ e) in
    record {
      given = elim [ zero ↦ λ h. fit_obeys rules.traffic slot (and_left _ _ e) | suc i ↦ λ h. rest.given i (omega arith) ];
      not_given = elim [ zero ↦ λ h. absurd (omega arith) | suc i ↦ λ h. rest.not_given i (omega arith) ];
    }

held_years : (later : ℕ) (slots : List (Option ℕ)) → YearsHeld later slots → later_fits later slots ≡ true
unfolding later_fits
held_years zero [] h = refl
held_years (suc later) [] h = absurd (no_within (h.given 0 (omega arith)) refl)
held_years zero (slot ∷ slots) h =
    rw (h.not_given 0 (omega arith)) (held_years zero slots (record { given = λ i l. absurd (omega arith); not_given = λ i l. h.not_given (suc i) (omega arith) }))
held_years (suc later) (slot ∷ slots) h =
    rw (within_fits slot (h.given 0 (omega arith)))
    (held_years later slots (record { given = λ i l. h.given (suc i) (omega arith); not_given = λ i l. h.not_given (suc i) (omega arith) }))

pub later_fits_exactly : (later : ℕ) (slots : List (Option ℕ)) → (later_fits later slots ≡ true) ↔ YearsHeld later slots
later_fits_exactly later slots = (years_held later slots, held_years later slots)

-- of a site, year by year: year i + 2 of its traffic and of its minor traffic
abbrev pub later_traffic : Site → ℕ → Option ℕ
later_traffic site i = get_or (later_slots site.later_traffic) i None

abbrev pub later_minor_traffic : Site → ℕ → Option ℕ
later_minor_traffic site i = get_or (later_slots site.later_minor) i None

-- where the site has a traffic for each year, that of each year of the project is in its range, and at a crossing so is the minor
-- traffic; nothing else holds a number: no year past the last, none where bit 15 does not stand, and no minor traffic of a segment
pub record YearHeld (years : ℕ) (site : Site) (i : ℕ) : Type 0 where
  pub traffic_given : yearly site ≡ true → suc i < years → Within 1 20000 (later_traffic site i)
  pub traffic_past : years ≤ suc i → later_traffic site i ≡ None
  pub traffic_none : yearly site ≡ false → later_traffic site i ≡ None
  pub minor_given : yearly site ≡ true → 1 ≤ site.kind → suc i < years → Within 1 20000 (later_minor_traffic site i)
  pub minor_past : years ≤ suc i → later_minor_traffic site i ≡ None
  pub minor_none : yearly site ≡ false → later_minor_traffic site i ≡ None
  pub segment_none : site.kind ≡ 0 → later_minor_traffic site i ≡ None

module _ (years : ℕ) (site : Site) where
  given_few : (i : ℕ) → years ≤ suc i → later_given years site ≤ i
  given_few i h = by (yearly site)
    where
      by : (b : Bool) → cond b (years - 1) 0 ≤ i
      by true = omega arith
      by false = omega arith

  minor_few : (i : ℕ) → later_given years site ≤ i → later_minor site.kind (later_given years site) ≤ i
  minor_few i h = by (eqb site.kind 0)
    where
      by : (b : Bool) → cond b 0 (later_given years site) ≤ i
      by true = omega arith
      by false = h

  pub held_by : later_sound years site ≡ true → (i : ℕ) → YearHeld years site i
  held_by e i =
      let t = years_held _ _ (and_left (later_fits (later_given years site) (later_slots site.later_traffic)) _ e) in
      let m = years_held _ _ (and_right (later_fits (later_given years site) (later_slots site.later_traffic)) _ e) in
      record {
        traffic_given = λ y h. t.given i (rw y (omega arith));
        traffic_past = λ h. t.not_given i (given_few i h);
        traffic_none = λ y. t.not_given i (rw y (omega arith));
        minor_given = λ y from h. m.given i (rw (ne_eqb site.kind 0 (λ z. omega arith), y) (omega arith));
        minor_past = λ h. m.not_given i (minor_few i (given_few i h));
        minor_none = λ y. m.not_given i (minor_few i (rw y (omega arith)));
        segment_none = λ k. m.not_given i (rw k (omega arith));
      }

  sound_held : ((i : ℕ) → YearHeld years site i) → later_sound years site ≡ true
  sound_held h = rw (held_years _ _ (traffic (yearly site) refl), held_years _ _ (minor (eqb site.kind 0) (yearly site) refl refl))
    where
      traffic : (b : Bool) → yearly site ≡ b → YearsHeld (cond b (years - 1) 0) (later_slots site.later_traffic)
      traffic true y = record { given = λ i l. (h i).traffic_given y (omega arith); not_given = λ i l. (h i).traffic_past (omega arith) }
      traffic false y = record { given = λ i l. absurd (omega arith); not_given = λ i l. (h i).traffic_none y }

      minor : (k b : Bool) → eqb site.kind 0 ≡ k → yearly site ≡ b → YearsHeld (cond k 0 (cond b (years - 1) 0)) (later_slots site.later_minor)
      minor true b k y = record { given = λ i l. absurd (omega arith); not_given = λ i l. (h i).segment_none (eqb-true site.kind 0 k) }
      minor false true k y =
          record {
            given = λ i l. (h i).minor_given y (omega (arith, eqb-false site.kind 0 k)) (omega arith);
            not_given = λ i l. (h i).minor_past (omega arith);
          }
      minor false false k y = record { given = λ i l. absurd (omega arith); not_given = λ i l. (h i).minor_none y }

  -- THE WRITER'S CLAUSE, YEAR BY YEAR: "not Y − 1 of them for each traffic field" is just where some year is not so
  pub later_sound_exactly : (later_sound years site ≡ true) ↔ ((i : ℕ) → YearHeld years site i)
  later_sound_exactly = (held_by, sound_held)

pub valid_later : (edition years : ℕ) (site : Site) → Valid edition years site → (i : ℕ) → YearHeld years site i
valid_later edition years site v = let t = tests edition years site v in held_by years site (rw (t.later_traffic, t.later_minor))

-- THE SITES THAT IT REFUSES: a year is missing, or holds a number past the last year ("with Y = 1": every later year is), beside a
-- second year that holds none, or outside the range; and so of the minor traffic, which at a segment holds none
pub data WrongLater (years : ℕ) (site : Site) : Type 0 where
  year_missing : yearly site ≡ true → (i : ℕ) → suc i < years → later_traffic site i ≡ None → WrongLater years site
  year_past : (i value : ℕ) → years ≤ suc i → later_traffic site i ≡ Some value → WrongLater years site
  year_alone : yearly site ≡ false → (i value : ℕ) → later_traffic site i ≡ Some value → WrongLater years site
  year_outside : (i value : ℕ) → later_traffic site i ≡ Some value → inside 1 20000 value ≡ false → WrongLater years site
  minor_missing : yearly site ≡ true → 1 ≤ site.kind → (i : ℕ) → suc i < years → later_minor_traffic site i ≡ None → WrongLater years site
  minor_past : (i value : ℕ) → years ≤ suc i → later_minor_traffic site i ≡ Some value → WrongLater years site
  minor_alone : yearly site ≡ false → (i value : ℕ) → later_minor_traffic site i ≡ Some value → WrongLater years site
  minor_outside : (i value : ℕ) → later_minor_traffic site i ≡ Some value → inside 1 20000 value ≡ false → WrongLater years site
  minor_of_segment : site.kind ≡ 0 → (i value : ℕ) → later_minor_traffic site i ≡ Some value → WrongLater years site

module _ {slot : Option ℕ} (value : ℕ) (is : slot ≡ Some value) where
  no_absent : slot ≡ None → ⊥
  no_absent e = let z : ◌≡◌ {A = ℕ} 0 1 = cc in omega arith

  no_outside : inside 1 20000 value ≡ false → Within 1 20000 slot → ⊥
  no_outside o w =
      let v : w.value ≡ value = cc w.is in
      not_both (inside 1 20000 value) (rw (← v, le-leb 1 w.value w.at_least, le-leb w.value 20000 w.at_most)) o

-- a year that is wrong among the years of a traffic
data WrongYear (later : ℕ) (slots : List (Option ℕ)) : Type 0 where
  missing_at : (i : ℕ) → i < later → get_or slots i None ≡ None → WrongYear later slots
  outside_at : (i value : ℕ) → get_or slots i None ≡ Some value → inside 1 20000 value ≡ false → WrongYear later slots
  past_at : (i value : ℕ) → later ≤ i → get_or slots i None ≡ Some value → WrongYear later slots

one_on : {slot : Option ℕ} {slots : List (Option ℕ)} {later : ℕ} → WrongYear later slots → WrongYear (suc later) (slot ∷ slots)
one_on (missing_at i h e) = missing_at (suc i) (omega arith) e
one_on (outside_at i value is o) = outside_at (suc i) value is o
one_on (past_at i value h is) = past_at (suc i) value (omega arith) is

none_on : {slot : Option ℕ} {slots : List (Option ℕ)} → WrongYear 0 slots → WrongYear 0 (slot ∷ slots)
none_on (missing_at i h e) = absurd (omega arith)
none_on (outside_at i value is o) = outside_at (suc i) value is o
none_on (past_at i value h is) = past_at (suc i) value (omega arith) is

wrong_year : (later : ℕ) (slots : List (Option ℕ)) → later_fits later slots ≡ false → WrongYear later slots
unfolding later_fits
wrong_year later [] e = missing_at 0 (omega (arith, eqb-false later 0 e)) refl
wrong_year zero (None ∷ slots) e = none_on (wrong_year zero slots e)
wrong_year zero (Some value ∷ slots) e = past_at 0 value (omega arith) refl
wrong_year (suc later) (None ∷ slots) e = missing_at 0 (omega arith) refl
wrong_year (suc later) (Some value ∷ slots) e = by (inside 1 20000 value) refl e (λ q. wrong_year later slots q)
  where
    by : (b : Bool) → inside 1 20000 value ≡ b → (b && later_fits later slots) ≡ false → (later_fits later slots ≡ false → WrongYear later slots)
        → WrongYear (suc later) (Some value ∷ slots)
    by false q f rest = outside_at 0 value refl q
    by true q f rest = one_on (rest f)

module _ (years : ℕ) (site : Site) where
  never_held : WrongLater years site → ((i : ℕ) → YearHeld years site i) → ⊥
  never_held (year_missing y i h e) held = no_within ((held i).traffic_given y h) e
  never_held (year_past i value h is) held = no_absent value is ((held i).traffic_past h)
  never_held (year_alone y i value is) held = no_absent value is ((held i).traffic_none y)
  never_held (year_outside i value is o) held =
      by (ltb (suc i) years) (yearly site) refl refl
    where
      by : (l y : Bool) → ltb (suc i) years ≡ l → yearly site ≡ y → ⊥
      by true true l y = no_outside value is o ((held i).traffic_given y (ltb-true (suc i) years l))
      by true false l y = no_absent value is ((held i).traffic_none y)
      by false y l e = no_absent value is ((held i).traffic_past (ltb-false (suc i) years l))
  never_held (minor_missing y from i h e) held = no_within ((held i).minor_given y from h) e
  never_held (minor_past i value h is) held = no_absent value is ((held i).minor_past h)
  never_held (minor_alone y i value is) held = no_absent value is ((held i).minor_none y)
  never_held (minor_outside i value is o) held =
      by (ltb (suc i) years) (yearly site) (eqb site.kind 0) refl refl refl
    where
      by : (l y k : Bool) → ltb (suc i) years ≡ l → yearly site ≡ y → eqb site.kind 0 ≡ k → ⊥
      by l y true p e k = no_absent value is ((held i).segment_none (eqb-true site.kind 0 k))
      by true true false p e k =
          no_outside value is o ((held i).minor_given e (omega (arith, eqb-false site.kind 0 k)) (ltb-true (suc i) years p))
      by true false false p e k = no_absent value is ((held i).minor_none e)
      by false y false p e k = no_absent value is ((held i).minor_past (ltb-false (suc i) years p))
  never_held (minor_of_segment k i value is) held = no_absent value is ((held i).segment_none k)

  -- and no others: the site writer's clause fails just where a year is wrong
  traffic_wrong : (b : Bool) → yearly site ≡ b → WrongYear (cond b (years - 1) 0) (later_slots site.later_traffic) → WrongLater years site
  traffic_wrong b y (outside_at i value is o) = year_outside i value is o
  traffic_wrong true y (missing_at i h e) = year_missing y i (omega arith) e
  traffic_wrong true y (past_at i value h is) = year_past i value (omega arith) is
  traffic_wrong false y (missing_at i h e) = absurd (omega arith)
  traffic_wrong false y (past_at i value h is) = year_alone y i value is

  minor_wrong : (k b : Bool) → eqb site.kind 0 ≡ k → yearly site ≡ b
      → WrongYear (cond k 0 (cond b (years - 1) 0)) (later_slots site.later_minor) → WrongLater years site
  minor_wrong k b q y (outside_at i value is o) = minor_outside i value is o
  minor_wrong true b q y (missing_at i h e) = absurd (omega arith)
  minor_wrong true b q y (past_at i value h is) = minor_of_segment (eqb-true site.kind 0 q) i value is
  minor_wrong false true q y (missing_at i h e) = minor_missing y (omega (arith, eqb-false site.kind 0 q)) i (omega arith) e
  minor_wrong false true q y (past_at i value h is) = minor_past i value (omega arith) is
  minor_wrong false false q y (missing_at i h e) = absurd (omega arith)
  minor_wrong false false q y (past_at i value h is) = minor_alone y i value is

  some_wrong : later_sound years site ≡ false → WrongLater years site
  some_wrong e = by (later_fits (later_given years site) (later_slots site.later_traffic)) refl e
    where
      by : (b : Bool) → later_fits (later_given years site) (later_slots site.later_traffic) ≡ b
          → (b && later_fits (later_minor site.kind (later_given years site)) (later_slots site.later_minor)) ≡ false → WrongLater years site
      by false q e = traffic_wrong (yearly site) refl (wrong_year _ _ q)
      by true q e = minor_wrong (eqb site.kind 0) (yearly site) refl refl (wrong_year _ _ e)

  pub later_wrong_exactly : (later_sound years site ≡ false) ↔ WrongLater years site
  later_wrong_exactly = (some_wrong, λ w. never_so (later_sound years site) (λ e. never_held w (held_by years site e)))

-- so each of them is refused, in every edition
pub wrong_later : (edition years : ℕ) (site : Site) → WrongLater years site → sound edition years site ≡ false
wrong_later edition years site w =
    never_so (sound edition years site) (λ e. never_held years site w (valid_later edition years site (record { is_sound = e })))
