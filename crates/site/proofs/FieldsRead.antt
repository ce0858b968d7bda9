-- Laws of FieldsRead in specs/.
use Rattle.std.specs.Prelude.{Ok}
use Rattle.std.specs.Prelude.{Option, None, Some}
use Rattle.std.specs.Prelude.{◌≡◌, refl, Bool, true, false, cond, List, [], ◌∷◌, ◌↔◌, ℕ, zero, suc, ◌*◌, ◌%◌, ◌<◌, ◌≤◌, get_or, drop, leb, eqb}
use Rattle.std.proofs.Common.{ap, sym, ◌∙◌, inl, inr, arith, leb-true, eqb-true}
use Rattle.std.proofs.Math.Nat.{mod-one}
use Rattle.site.specs.declared.rules.Rule.{Rule}
use Rattle.site.specs.declared.rules.Rule.TheVariants.{Foreign, Lacking, Needed, Optional, Default}
use Rattle.site.specs.declared.rules.Entry.{Entry}
use Rattle.site.specs.declared.rules.Entry.TheVariants.{Always, OnCurve}
use Rattle.site.specs.declared.values.Site.{Site}
use Rattle.site.specs.Rules.{segment, entries_by, entries_of, last_kind, later_years, inside, absent_of, needed, lacking}
use Rattle.site.specs.Rules.{settled, settle}
use Rattle.site.specs.Record.{any_field, lacked_bit_stands, lacks, misses, curved, rules_read, word, words, value_number}
use Rattle.site.specs.Record.{fields_number, fields_values, kind_in, field_map_in, rules_in, later_in, later_minor_in, fields_in, later_at, later_minor_at, later_read}
use Rattle.site.specs.Record.{later_allowed, length_in, site_in, read_site}
use Rattle.site.specs.Fields.{Absence, never, no_number, usual, on_curve, Field, lacked, field, Row, bit, segment_rows, rows_by, rows_of, field_at}
use Rattle.site.specs.Fields.{map_bits, field_in, others_by, others_of, bit_at, standing, value_at, number_at}
use Rattle.site.specs.Fields.{is_usual, AbsentAs, FieldRead, BitRead, LaterYears, AllAbsent, FieldsRead}
use Rattle.site.specs.Writing.{slots_of}
use Rattle.laws.specs.Truth.{and_left, and_right, or_left, or_right, not_both, never_so}
use Rattle.site.specs.Tested.{by_rules, tested_rules}
use Rattle.site.specs.LaterLaws.{later_given_lem, later_absent, allowed_at}
use Rattle.site.specs.Accepted.{Accepted, later_most, reading}
use Rattle.site.specs.ReadWrite.{value_taken}
use Rattle.site.proofs.ReadWrite.{no_miss, between, slots_again, later_slots_again, minor_slots_again, yearly_again}
use Rattle.site.proofs.PlaceLaws.{passes_both, number_of}
use Rattle.site.specs.PlaceLaws.{later_of, minor_of, end_of}
use Rattle.site.specs.BitLaws.{yearly_told, later_told_lem, minor_told, bit_rules, bit_slots, with_bits, listed, words_listed, value_at_lem, needed_stands}
use Rattle.site.specs.BitLaws.{BitsTell, bits_tell, all_right, StandingBit, Past, lacked_found, lacked_told, standing_past, same_road}
use Rattle.site.proofs.Curve.{curved_by_six}
use Rattle.site.specs.FieldsRead.{ByBits, RuleTells, among, bits_held, each_has_bit, lacked_past, rule_at, rule_for, rules_at, rules_of_bit, wrong_number}

few_bits : (kind : ℕ) → bits_held kind ≤ map_bits
few_bits zero = omega arith
few_bits (suc kind) = omega arith

-- THE TWO TABLES ARE ONE: by computation, for every kind, on a curve and on a straight road
pub rules_by_bit : (edition kind : ℕ) → kind ≤ last_kind → (curve : Bool)
    → bit_rules (settle curve (entries_of edition kind)) ≡ listed (rules_at edition kind curve) (bits_held kind)
unfolding entries_of bit_rules listed field_at
rules_by_bit edition kind h true =
    by_rules (λ sight kind. bit_rules (settle true (entries_by sight kind)) ≡ listed (rules_of_bit sight kind true) (bits_held kind))
    (λ sight. refl) refl refl refl refl (λ sight. refl) edition kind h
rules_by_bit edition kind h false =
    by_rules (λ sight kind. bit_rules (settle false (entries_by sight kind)) ≡ listed (rules_of_bit sight kind false) (bits_held kind))
    (λ sight. refl) refl refl refl refl (λ sight. refl) edition kind h

-- each row names the slot of its bit: the slots by name, and by number
unfoldable by_name : List Row → Site → List (Option ℕ)
by_name [] site = []
by_name (bit n lacked ∷ rows) site = by_name rows site
by_name (bit n (field value low high absence) ∷ rows) site = value site ∷ by_name rows site

unfoldable by_number : List Row → List (Option ℕ) → List (Option ℕ)
by_number [] slots = []
by_number (bit n lacked ∷ rows) slots = by_number rows slots
by_number (bit n (field value low high absence) ∷ rows) slots = get_or slots n None ∷ by_number rows slots

named : (edition kind : ℕ) → kind ≤ last_kind → (curve : Bool) (site : Site)
    → by_name (rows_of edition kind) site ≡ by_number (rows_of edition kind) (bit_slots (settle curve (entries_of edition kind)) (slots_of site))
unfolding entries_of bit_slots by_name by_number
named edition kind h curve site =
    by_rules (λ sight kind. by_name (rows_by sight kind) site ≡ by_number (rows_by sight kind) (bit_slots (settle curve (entries_by sight kind)) (slots_of site)))
    (λ sight. by curve) refl refl refl refl (λ sight. refl) edition kind h
  where
    by : (curve : Bool) → by_name segment_rows site ≡ by_number segment_rows (bit_slots (settle curve segment) (slots_of site))
    by true = refl
    by false = refl

abbrev NamedAt : List (Option ℕ) → Site → ℕ → Field → Type 0
NamedAt slots site b lacked = Unit
NamedAt slots site b (field value low high absence) = value site ≡ get_or slots b None

named_at : (rows : List Row) (slots : List (Option ℕ)) (site : Site) → by_name rows site ≡ by_number rows slots → (b : ℕ) → NamedAt slots site b (field_at rows b)
unfolding field_at by_name by_number
named_at [] slots site e b = tt
named_at (bit n lacked ∷ rows) slots site e b = by (eqb b n) (named_at rows slots site e b)
  where
    by : (t : Bool) → NamedAt slots site b (field_at rows b) → NamedAt slots site b (cond t lacked (field_at rows b))
    by true later = tt
    by false later = later
named_at (bit n (field value low high absence) ∷ rows) slots site e b = by (eqb b n) refl (named_at rows slots site (cc) b)
  where
    by : (t : Bool) → eqb b n ≡ t → NamedAt slots site b (field_at rows b) → NamedAt slots site b (cond t (field value low high absence) (field_at rows b))
    by true t later = let p : value site ≡ get_or slots n None = cc in rw (eqb-true b n t) p
    by false t later = later

pub by_bits : (edition kind map : ℕ) (s : List ℕ) → kind ≤ last_kind → ByBits edition kind map s
by_bits edition kind map s h =
    let w = with_bits (settle true (entries_of edition kind)) map s in
    let r = rules_by_bit edition kind h true in
    let q = same_road _ (entries_of edition kind) map s (tested_rules edition kind true h).entries_right refl in
    record { lack = q.lack ∙ (rw r at w.lack); count = q.count ∙ (rw r at w.count); number = q.number ∙ (rw r at w.number) }

pub fields_by_bits : (edition kind map : ℕ) (s : List ℕ) → kind ≤ last_kind
    → BitsTell (bits_held kind) (rules_at edition kind true) map s (fields_number (rules_read edition kind map) map s)
fields_by_bits edition kind map s h =
    rw (by_bits edition kind map s h).number (bits_tell (bits_held kind) (rules_at edition kind true) map s (each_has_bit edition kind true))

rule_tells : (low high : ℕ) (absence : Absence) → RuleTells low high absence
rule_tells low high never = record { has = refl; allowed = λ number. refl; held = λ number. refl }
rule_tells low high no_number = record { has = refl; allowed = λ number. refl; held = λ number. refl }
rule_tells low high (usual d) = record { has = refl; allowed = λ number. refl; held = λ number. refl }
rule_tells low high (on_curve absence) =
    let r = rule_tells low high absence in record { has = r.has; allowed = r.allowed; held = r.held }

-- 6 BY BIT NUMBER: the rules lack a bit that stands exactly where a bit stands that no row is for
lacking_at : (x : Field) → lacking (rule_at true x) ≡ true → x ≡ lacked
lacking_at lacked e = refl
lacking_at (field value low high absence) e = not_both _ e (rule_tells low high absence).has

module _ (edition kind map : ℕ) (known : kind ≤ last_kind) where
  past_lacked : (b : ℕ) → Past (bits_held kind) (rules_at edition kind true) b → field_at (rows_of edition kind) b ≡ lacked
  past_lacked b (inl e) = lacking_at (field_at (rows_of edition kind) b) e
  past_lacked b (inr h) = lacked_past edition kind b h

  pub lacks_exactly : (lacks (rules_read edition kind map) map ≡ true) ↔ StandingBit map (λ b. field_at (rows_of edition kind) b ≡ lacked)
  lacks_exactly = (
    λ e.
        let r =
        lacked_found (bits_held kind) (rules_at edition kind true) map (each_has_bit edition kind true) (sym (by_bits edition kind map [] known).lack ∙ e) in
        record { at = r.at; stands = r.stands; holds = past_lacked r.at r.holds },
    λ r.
        (by_bits edition kind map [] known).lack
        ∙ lacked_told (bits_held kind) (rules_at edition kind true) map r.at (each_has_bit edition kind true) r.stands (inl (rw r.holds)),
  )

-- where no such bit stands, the record has a two-byte number for each bit of the map that stands
module _ (edition kind map : ℕ) (known : kind ≤ last_kind) (none : (b : ℕ) → bit_at b map ≡ true → field_at (rows_of edition kind) b ≡ lacked → ⊥) where
  unset_past : (b : ℕ) → bits_held kind ≤ b → bit_at b map ≡ false
  unset_past b h = never_so (bit_at b map) (λ t. none b t (lacked_past edition kind b h))

  pub words_standing : words (rules_read edition kind map) map ≡ standing map_bits map
  words_standing =
      (by_bits edition kind map [] known).count
      ∙ words_listed (bits_held kind) (rules_at edition kind true) map (each_has_bit edition kind true)
      ∙ sym (standing_past (bits_held kind) map_bits map (few_bits kind) unset_past)

-- a slot of another kind holds no number
abbrev is_other : Entry → Bool
is_other (Always Foreign) = true
is_other (Always Lacking) = true
is_other (Always (Needed low high)) = false
is_other (Always (Optional low high)) = false
is_other (Always (Default low high d)) = false
is_other (OnCurve rule) = false

unfoldable other_slots : List Entry → List (Option ℕ) → List (Option ℕ)
other_slots [] slots = []
other_slots (entry ∷ entries) [] = []
other_slots (entry ∷ entries) (slot ∷ slots) = cond (is_other entry) (slot ∷ other_slots entries slots) (other_slots entries slots)

others_absent : (curve : Bool) (entries : List Entry) (map : ℕ) (s : List ℕ) → lacks (settle curve entries) map ≡ false
    → AllAbsent (other_slots entries (fields_values (settle curve entries) map s))
unfolding other_slots any_field fields_values
others_absent curve [] map s e = tt
others_absent curve (Always Foreign ∷ entries) map s e = (rw (mod-one map), others_absent curve entries _ _ e)
others_absent curve (Always Lacking ∷ entries) map s e = (rw (or_left (eqb (map % 2) 1) _ e), others_absent curve entries _ _ (or_right (eqb (map % 2) 1) _ e))
others_absent curve (Always (Needed low high) ∷ entries) map s e = others_absent curve entries _ _ e
others_absent curve (Always (Optional low high) ∷ entries) map s e = others_absent curve entries _ _ e
others_absent curve (Always (Default low high d) ∷ entries) map s e = others_absent curve entries _ _ e
others_absent curve (OnCurve rule ∷ entries) map s e = others_absent curve entries _ _ (or_right (lacked_bit_stands (settled curve (OnCurve rule)) map) _ e)

others_are : (edition kind : ℕ) → kind ≤ last_kind → (site : Site) → others_of edition kind site ≡ other_slots (entries_of edition kind) (slots_of site)
unfolding entries_of other_slots
others_are edition kind h site =
    by_rules (λ sight kind. others_by sight kind site ≡ other_slots (entries_by sight kind) (slots_of site)) (λ sight. refl) refl refl refl refl (λ sight. refl)
    edition kind h

pub wrong_number_lem : (x : Field) (number : ℕ) → value_number (rule_at true x) number ≡ wrong_number x number
wrong_number_lem lacked number = refl
wrong_number_lem (field value low high absence) number = let r = rule_tells low high absence in rw (r.allowed number, r.held number)

-- what an absent field is read as
absent_for : (low high : ℕ) (absence : Absence) (curve : Bool) → (needed (rule_for low high absence curve) ≡ true → ⊥)
    → AbsentAs absence curve (absent_of (rule_for low high absence curve))
absent_for low high never curve ne = ne refl
absent_for low high no_number curve ne = refl
absent_for low high (usual d) curve ne = refl
absent_for low high (on_curve absence) true ne = absent_for low high absence true ne
absent_for low high (on_curve absence) false ne = refl

module _ (edition years : ℕ) (s : List ℕ) (a : Accepted edition years s) where
  slot_at : (b : ℕ) → b < bits_held (kind_in s)
      → get_or (bit_slots (rules_in edition s) (slots_of (site_in edition years s))) b None
      ≡ cond (bit_at b (field_map_in s)) (Some (number_at years b s)) (absent_of (rules_at edition (kind_in s) (curved (entries_of edition (kind_in s)) (field_map_in s)) b))
  slot_at b h =
      let c = curved (entries_of edition (kind_in s)) (field_map_in s) in
      let w = with_bits (rules_in edition s) (field_map_in s) (fields_in years s) in
      ap (λ (l : List (Option ℕ)). get_or (bit_slots (rules_in edition s) l) b None) (slots_again edition years s a)
      ∙ ap (λ (l : List (Option ℕ)). get_or l b None) (w.values ∙ ap (λ (l : List Rule). fields_values l (field_map_in s) (fields_in years s)) (rules_by_bit edition (kind_in s) a.passes.head.known c))
      ∙ value_at_lem (bits_held (kind_in s)) (rules_at edition (kind_in s) c) (field_map_in s) (fields_in years s) (each_has_bit edition (kind_in s) c) b h
      ∙ ap (λ (k : ℕ). cond (bit_at b (field_map_in s)) (Some k) (absent_of (rules_at edition (kind_in s) c b)))
      (number_of years s (passes_both edition years s a.passes) (between edition years s a) b)

  number_at_lem : (b : ℕ) → b < bits_held (kind_in s) → bit_at b (field_map_in s) ≡ true → wrong_number (field_in edition s b) (number_at years b s) ≡ 0
  number_at_lem b h e =
      let n = all_right (fields_by_bits edition (kind_in s) (field_map_in s) (fields_in years s) a.passes.head.known) a.no_field_refused b h in
      sym (wrong_number_lem (field_in edition s b) (number_at years b s)) ∙
      (rw (e, number_of years s (passes_both edition years s a.passes) (between edition years s a) b) at n)

  never_absent : (b : ℕ) → b < bits_held (kind_in s) → bit_at b (field_map_in s) ≡ false
      → needed (rules_at edition (kind_in s) (curved (entries_of edition (kind_in s)) (field_map_in s)) b) ≡ true → ⊥
  never_absent b h e k =
      let c = curved (entries_of edition (kind_in s)) (field_map_in s) in
      let m = (with_bits (rules_in edition s) (field_map_in s) (fields_in years s)).miss
      ∙ ap (λ (l : List Rule). misses l (field_map_in s)) (rules_by_bit edition (kind_in s) a.passes.head.known c) in
      not_both (bit_at b (field_map_in s))
      (needed_stands (bits_held (kind_in s)) (rules_at edition (kind_in s) c) (field_map_in s) (each_has_bit edition (kind_in s) c) (sym m ∙ no_miss edition years s a) b h k) e

  lacked_unset : (b : ℕ) → field_in edition s b ≡ lacked → bit_at b (field_map_in s) ≡ false
  lacked_unset b e =
      never_so (bit_at b (field_map_in s))
      (λ t. not_both _ ((lacks_exactly edition (kind_in s) (field_map_in s) a.passes.head.known).1 (record { at = b; stands = t; holds = e })) a.passes.lack)

  bit_read : (b : ℕ) (x : Field) → field_in edition s b ≡ x
      → NamedAt (bit_slots (rules_in edition s) (slots_of (site_in edition years s))) (site_in edition years s) b x
      → BitRead years s (site_in edition years s) b x
  bit_read b lacked e n = lacked_unset b e
  bit_read b (field value low high absence) e n =
      let c = curved (entries_of edition (kind_in s)) (field_map_in s) in
      let h = among edition (kind_in s) b (λ l. let z : ◌≡◌ {A = ℕ} 0 1 = cc in omega arith) in
      let is = n ∙ slot_at b h in
      let right : bit_at b (field_map_in s) ≡ true → (inside low high (number_at years b s) ≡ true) × (is_usual absence (number_at years b s) ≡ false) =
      λ t. value_taken _ _ (rw e at (number_at_lem b h t)) in
      record {
        standing_is = λ t. rw t at is;
        at_least = λ t. leb-true low (number_at years b s) (and_left (leb low (number_at years b s)) _ (right t).0);
        at_most = λ t. leb-true (number_at years b s) high (and_right (leb low (number_at years b s)) _ (right t).0);
        not_spelled = λ t. (right t).1;
        absent_as = λ t.
            let q : value (site_in edition years s) ≡ absent_of (rule_for low high absence c) = rw (t, e) at is in
            let ne : needed (rule_for low high absence c) ≡ true → ⊥ = rw e at (never_absent b h t) in
            let w = absent_for low high absence c ne in
            rw (← curved_by_six edition (kind_in s) (field_map_in s) a.passes.head.known (no_miss edition years s a), q) w;
      }

  -- the later values of a traffic
  later_years_lem : (b later : ℕ) (values : List ℕ) → later ≤ later_years → later_allowed later values ≡ true
      → ((i : ℕ) → word (drop (2 * i) values) ≡ value_at years b (suc i) s) → LaterYears years s b later (later_read later_years later values)
  later_years_lem b later values few right at =
      record {
        value_is = λ i h. later_given_lem later_years later values few i h ∙ ap Some (at i);
        at_least = λ i h. rw (← at i) (leb-true 1 (word (drop (2 * i) values)) (and_left _ _ (allowed_at later values right i h)));
        at_most = λ i h.
            rw (← at i) (leb-true (word (drop (2 * i) values)) 20000 (and_right (leb 1 (word (drop (2 * i) values))) _ (allowed_at later values right i h)));
        not_given = λ i h. later_absent later_years later values i h;
      }

  fields_in_lem : FieldsRead edition years s (site_in edition years s) (length_in edition years s)
  fields_in_lem =
      let c = curved (entries_of edition (kind_in s)) (field_map_in s) in
      let none : (b : ℕ) → bit_at b (field_map_in s) ≡ true → field_in edition s b ≡ lacked → ⊥ = λ b t e. not_both _ t (lacked_unset b e) in
      let both = passes_both edition years s a.passes in
      let most = later_most years s a.passes.head.years_in in
      record {
        kind_is = refl;
        bits = λ b. bit_read b (field_in edition s b) refl
            (named_at (rows_of edition (kind_in s)) _ (site_in edition years s) (named edition (kind_in s) a.passes.head.known c (site_in edition years s)) b);
        others =
            rw (others_are edition (kind_in s) a.passes.head.known (site_in edition years s), slots_again edition years s a)
            (others_absent c (entries_of edition (kind_in s)) (field_map_in s) (fields_in years s) a.passes.lack);
        yearly_is = yearly_again edition years s a ∙ sym (yearly_told s);
        later_traffic =
            rw (later_told_lem years s, later_slots_again edition years s a)
            (later_years_lem 0 (later_in years s) (later_at s) most.0 (and_left (later_allowed (later_in years s) (later_at s)) _ a.later_in) (later_of years s));
        later_minor =
            rw (minor_told years s, minor_slots_again edition years s a)
            (later_years_lem 1 (later_minor_in years s) (later_minor_at years s) most.1 (and_right (later_allowed (later_in years s) (later_at s)) _ a.later_in) (minor_of years s both));
        length_is = end_of edition years s both (words_standing edition (kind_in s) (field_map_in s) a.passes.head.known none);
      }

-- A RECORD THAT IS READ HAS THE FIELDS OF DOCUMENT 01, bit by bit
pub fields_read : (edition years : ℕ) (s : List ℕ) (site : Site) (n : ℕ) → read_site edition years s ≡ Ok (site, n) → FieldsRead edition years s site n
fields_read edition years s site n e =
    let r = reading edition years s site n e in rw (← r.site_is, ← r.length_is) (fields_in_lem edition years s r.accepts)

-- "Without bit 2 there is no history; a standing 0 is a history of none", of every kind
pub history_read : (edition years : ℕ) (s : List ℕ) (site : Site) (n : ℕ) → read_site edition years s ≡ Ok (site, n)
    → site.observed ≡ cond (bit_at 2 (field_map_in s)) (Some (number_at years 2 s)) None
unfolding field_at
history_read edition years s site n e = by (kind_in s) ((fields_read edition years s site n e).bits 2)
  where
    told : FieldRead years s site 2 (λ x. x.observed) 0 500 no_number → (b : Bool) → bit_at 2 (field_map_in s) ≡ b
        → site.observed ≡ cond b (Some (number_at years 2 s)) None
    told r true t = r.standing_is t
    told r false t = r.absent_as t

    by : (kind : ℕ) → BitRead years s site 2 (field_at (rows_of edition kind) 2)
        → site.observed ≡ cond (bit_at 2 (field_map_in s)) (Some (number_at years 2 s)) None
    by zero r = told r _ refl
    by (suc zero) r = told r _ refl
    by (suc (suc zero)) r = told r _ refl
    by (suc (suc (suc kind))) r = told r _ refl
