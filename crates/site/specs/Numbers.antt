-- A site's numbers by its kind, as the model takes them, and their ranges where the site is valid.
use Rattle.std.specs.Prelude.{Option, None, Some}
use Rattle.std.specs.Prelude.{ℕ, zero, suc, ◌≤◌, ◌<◌, ◌≡◌, refl, Bool, true, false, not, ◌⊎◌}
use Rattle.std.proofs.Common.{sym, ap, inl, inr, le_trans, le_of_eq, arith, lit≤}
use Rattle.site.specs.declared.rules.Rule.{Rule}
use Rattle.site.specs.declared.rules.Rule.TheVariants.{Foreign, Lacking, Needed, Optional, Default}
use Rattle.site.specs.declared.values.Site.{Site}
use Rattle.site.specs.declared.numbers.Segment.{Segment}
use Rattle.site.specs.declared.numbers.Crossing.{Crossing}
use Rattle.site.specs.Rules as rules
use Rattle.site.specs.Rules.{has_sight, absent}
use Rattle.site.specs.Yearly.{yearly}
use Rattle.site.specs.Writing.{Valid}
use Rattle.site.specs.Tested.{by_kind, top}
use Rattle.site.specs.Ranges.{Within, Obeys, StraightRoad, CurvedRoad, CrossingRanges, later_traffic, later_minor_traffic, valid_later}
use Rattle.site.specs.Ranges.{valid_kind, segment_ranges, three_leg_ranges, four_leg_ranges, signal_ranges}

-- the number in a slot; a valid site has one wherever the model asks for it
abbrev pub number : Option ℕ → ℕ
number None = 0
number (Some n) = n

-- a segment at a traffic
abbrev pub segment_of : (traffic : ℕ) → Site → Segment
segment_of traffic site = record {
  traffic = traffic;
  length = number site.length;
  lane_width = number site.lane_width;
  shoulder_width = number site.shoulder_width;
  shoulder_type = number site.shoulder_type;
  curve_length = number site.curve_length;
  radius = number site.radius;
  spiral_ends = number site.spiral_ends;
  deficiency = number site.deficiency;
  grade = number site.grade;
  driveways = number site.driveways;
  two_way_lane = number site.two_way_lane;
  passing = number site.passing;
  hazard_rating = number site.hazard_rating;
  curved = not (absent site.curve_length);
}

-- a crossing at a traffic of its major and its minor road
abbrev pub crossing_of : (traffic minor : ℕ) → Site → Crossing
crossing_of traffic minor site = record {
  kind = site.kind;
  traffic = traffic;
  minor = minor;
  skew = number site.skew;
  left_lanes = number site.left_lanes;
  right_lanes = number site.right_lanes;
  limited_sight = number site.limited_sight;
}

-- the least number of a field that obeys a rule; the largest is its top
abbrev rule_least : Rule → ℕ
rule_least Foreign = 0
rule_least Lacking = 0
rule_least (Needed low high) = low
rule_least (Optional low high) = 0
rule_least (Default low high usual) = low

within_least : {low high : ℕ} {slot : Option ℕ} → Within low high slot → low ≤ number slot
within_least {low} w = le_trans w.at_least (le_of_eq (ap number (sym w.is)))

within_most : {low high : ℕ} {slot : Option ℕ} → Within low high slot → number slot ≤ high
within_most w = le_trans (le_of_eq (ap number w.is)) w.at_most

absent_most : {slot : Option ℕ} → slot ≡ None → number slot ≤ 0
absent_most e = le_of_eq (ap number e)

obeys_least : (rule : Rule) (slot : Option ℕ) → Obeys rule slot → rule_least rule ≤ number slot
obeys_least Foreign slot h = omega arith
obeys_least Lacking slot h = omega arith
obeys_least (Needed low high) slot h = within_least h
obeys_least (Optional low high) slot h = omega arith
obeys_least (Default low high usual) slot h = within_least h

obeys_most : (rule : Rule) (slot : Option ℕ) → Obeys rule slot → number slot ≤ top rule
obeys_most Foreign slot h = absent_most h
obeys_most Lacking slot h = absent_most h
obeys_most (Needed low high) slot h = within_most h
obeys_most (Optional low high) slot (inl h) = omega (arith, absent_most h)
obeys_most (Optional low high) slot (inr h) = within_most h
obeys_most (Default low high usual) slot h = within_most h

-- THE SIZES of a segment's numbers: a traffic's are its rule's
pub record TrafficSizes (traffic : ℕ) : Type 0 where
  pub least : 1 ≤ traffic
  pub most : traffic ≤ 20000

pub record CurveSizes (v : Segment) : Type 0 where
  pub length_least : 1 ≤ v.curve_length
  pub length_most : v.curve_length ≤ 20000
  pub radius_least : 100 ≤ v.radius
  pub radius_most : v.radius ≤ 30000
  pub spirals_most : v.spiral_ends ≤ 2
  pub deficiency_most : v.deficiency ≤ 100

pub record SegmentSizes (v : Segment) : Type 0 where
  pub traffic : TrafficSizes v.traffic
  pub length_least : 1 ≤ v.length
  pub length_most : v.length ≤ 20000
  pub type_most : v.shoulder_type ≤ 3
  pub grade_most : v.grade ≤ 12
  pub driveways_most_lem : v.driveways ≤ 50
  pub passing_most : v.passing ≤ 2
  pub rating_least : 1 ≤ v.hazard_rating
  pub rating_most : v.hazard_rating ≤ 7
  -- a road that is not straight has a curve's numbers
  pub bend : v.curved ≡ true → CurveSizes v

-- and of a crossing's
pub record CrossingSizes (v : Crossing) : Type 0 where
  pub kind_least : 1 ≤ v.kind
  pub kind_most : v.kind ≤ 3
  pub traffic : TrafficSizes v.traffic
  pub minor : TrafficSizes v.minor
  pub skew_most_lem : v.skew ≤ 60
  pub left_most : v.left_lanes ≤ 2
  pub right_most : v.right_lanes ≤ 2
  pub sight_most : v.limited_sight ≤ 4

-- a field that obeys its rule
traffic_sizes : (slot : Option ℕ) → Obeys rules.traffic slot → TrafficSizes (number slot)
traffic_sizes slot h = record { least = obeys_least rules.traffic slot h; most = obeys_most rules.traffic slot h }

module _ (edition years : ℕ) (site : Site) (valid : Valid edition years site) where
  -- a road that has a curve length is no straight one
  bend_of : (traffic : ℕ) → StraightRoad site ⊎ CurvedRoad site → not (absent site.curve_length) ≡ true → CurveSizes (segment_of traffic site)
  bend_of traffic (inl s) e = let straight = s.curve_length in let z : ◌≡◌ {A = ℕ} 0 1 = cc in absurd (omega arith)
  bend_of traffic (inr c) e = record {
    length_least = obeys_least rules.curve_length site.curve_length c.curve_length;
    length_most = obeys_most rules.curve_length site.curve_length c.curve_length;
    radius_least = obeys_least rules.radius site.radius c.radius;
    radius_most = obeys_most rules.radius site.radius c.radius;
    spirals_most = obeys_most rules.spiral_ends site.spiral_ends c.spiral_ends;
    deficiency_most = obeys_most rules.deficiency site.deficiency c.deficiency;
  }

  pub segment_sizes : site.kind ≡ 0 → (traffic : ℕ) → TrafficSizes traffic → SegmentSizes (segment_of traffic site)
  segment_sizes e traffic sizes = let r = segment_ranges edition years site valid e in record {
    traffic = sizes;
    length_least = obeys_least rules.segment_length site.length r.length;
    length_most = obeys_most rules.segment_length site.length r.length;
    type_most = obeys_most rules.shoulder_type site.shoulder_type r.shoulder_type;
    grade_most = obeys_most rules.grade site.grade r.grade;
    driveways_most_lem = obeys_most rules.driveways site.driveways r.driveways;
    passing_most = obeys_most rules.passing site.passing r.passing;
    rating_least = obeys_least rules.hazard_rating site.hazard_rating r.hazard_rating;
    rating_most = obeys_most rules.hazard_rating site.hazard_rating r.hazard_rating;
    bend = bend_of traffic r.road;
  }

-- a crossing's kind is one of three
pub by_crossing : (P : ℕ → Type 0) → P 1 → P 2 → P 3 → (kind : ℕ) → 1 ≤ kind → kind ≤ 3 → P kind
by_crossing P three_leg_stop four_leg_stop signal kind l m =
    by_kind (λ k. 1 ≤ k → P k) (λ h. absurd (omega arith)) (λ h. three_leg_stop) (λ h. four_leg_stop) (λ h. signal) kind m l

-- what a valid crossing of any kind has, by the rules in which the kinds differ
record CrossingRules (site : Site) : Type 0 where
  angle : Rule
  left : Rule
  right : Rule
  sight : Rule
  obeyed : CrossingRanges angle left right sight site
  angle_most : top angle ≤ 60
  left_most : top left ≤ 2
  right_most : top right ≤ 2
  sight_most : top sight ≤ 4

sight_top : (most : ℕ) → most ≤ 4 → (sight : Bool) → top (rules.limited_sight sight most) ≤ 4
sight_top most h true = h
sight_top most h false = lit≤ tt

crossing_rules : (edition years : ℕ) (site : Site) → Valid edition years site → 1 ≤ site.kind → CrossingRules site
crossing_rules edition years site v from =
    by_crossing (λ kind. site.kind ≡ kind → CrossingRules site)
    (λ e. of _ _ _ _ (three_leg_ranges edition years site v e) (lit≤ tt) (lit≤ tt) (lit≤ tt) (sight_top 2 (lit≤ tt) (has_sight edition)))
    (λ e. of _ _ _ _ (four_leg_ranges edition years site v e) (lit≤ tt) (lit≤ tt) (lit≤ tt) (sight_top 4 (lit≤ tt) (has_sight edition)))
    (λ e. of _ _ _ _ (signal_ranges edition years site v e) (lit≤ tt) (lit≤ tt) (lit≤ tt) (lit≤ tt))
    site.kind from (valid_kind edition years site v) refl
  where
    of : (angle left right sight : Rule) → CrossingRanges angle left right sight site → top angle ≤ 60 → top left ≤ 2
        → top right ≤ 2 → top sight ≤ 4 → CrossingRules site
    of angle left right sight c a l r s = record {
      angle = angle;
      left = left;
      right = right;
      sight = sight;
      obeyed = c;
      angle_most = a;
      left_most = l;
      right_most = r;
      sight_most = s;
    }

module _ (edition years : ℕ) (site : Site) (valid : Valid edition years site) where
  pub crossing_sizes : 1 ≤ site.kind → (traffic minor : ℕ) → TrafficSizes traffic → TrafficSizes minor → CrossingSizes (crossing_of traffic minor site)
  crossing_sizes from traffic minor sizes minor_sizes = let r = crossing_rules edition years site valid from in let c = r.obeyed in record {
    kind_least = from;
    kind_most = valid_kind edition years site valid;
    traffic = sizes;
    minor = minor_sizes;
    skew_most_lem = le_trans (obeys_most r.angle site.skew c.skew) r.angle_most;
    left_most = le_trans (obeys_most r.left site.left_lanes c.left_lanes) r.left_most;
    right_most = le_trans (obeys_most r.right site.right_lanes c.right_lanes) r.right_most;
    sight_most = le_trans (obeys_most r.sight site.limited_sight c.limited_sight) r.sight_most;
  }

  pub crossing_minor : 1 ≤ site.kind → TrafficSizes (number site.minor_traffic)
  crossing_minor from = traffic_sizes site.minor_traffic (crossing_rules edition years site valid from).obeyed.minor_traffic

  -- OF EVERY KIND
  by_ranges : {P : Type 0} → (site.kind ≡ 0 → P) → (1 ≤ site.kind → P) → P
  by_ranges {P} segment crossing = by site.kind refl
    where
      by : (kind : ℕ) → site.kind ≡ kind → P
      by zero e = segment e
      by (suc kind) e = crossing (omega arith)

  pub site_traffic : TrafficSizes (number site.traffic)
  site_traffic =
      by_ranges (λ e. traffic_sizes site.traffic (segment_ranges edition years site valid e).traffic)
      (λ from. traffic_sizes site.traffic (crossing_rules edition years site valid from).obeyed.traffic)

  pub observed_most : number site.observed ≤ 500
  observed_most =
      by_ranges (λ e. obeys_most rules.observed site.observed (segment_ranges edition years site valid e).observed)
      (λ from. obeys_most rules.observed site.observed (crossing_rules edition years site valid from).obeyed.observed)

  -- THE TRAFFIC OF A LATER YEAR of a site that has one for each year
  pub later_traffic_sizes : yearly site ≡ true → (i : ℕ) → suc i < years → TrafficSizes (number (later_traffic site i))
  later_traffic_sizes e i h = traffic_sizes (later_traffic site i) ((valid_later edition years site valid i).traffic_given e h)

  pub later_minor_sizes : yearly site ≡ true → 1 ≤ site.kind → (i : ℕ) → suc i < years → TrafficSizes (number (later_minor_traffic site i))
  later_minor_sizes e from i h = traffic_sizes (later_minor_traffic site i) ((valid_later edition years site valid i).minor_given e from h)
