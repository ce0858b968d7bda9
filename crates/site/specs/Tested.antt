-- The table of rules passes one test, which every law below rests on: a new field or kind touches the table and this.
use Rattle.std.specs.Prelude.{None}
use Rattle.std.specs.Prelude.{◌≡◌, refl, Bool, true, false, ◌&&◌, ◌||◌, not, List, [], ◌∷◌, ◌↔◌, ℕ, zero, suc, ◌+◌, ◌≤◌, length, get_or, leb, ltb, eqb}
use Rattle.std.proofs.Common.{sym, ◌∙◌, true≢false, arith, eqb-true, leb-true, le-leb}
use Rattle.std.proofs.lemmas.List.{length-map}
use Rattle.site.specs.declared.rules.Rule.{Rule}
use Rattle.site.specs.declared.rules.Rule.TheVariants.{Foreign, Lacking, Needed, Optional, Default}
use Rattle.site.specs.declared.rules.Entry.{Entry}
use Rattle.site.specs.declared.rules.Entry.TheVariants.{Always, OnCurve}
use Rattle.site.specs.Rules.{has_sight, entries_by, entries_of, last_kind, most_years, years_known, slot_count, allows, absent_of, needed, lacking, bits}
use Rattle.site.specs.Rules.{rule_of, on_curve, settled, settle}
use Rattle.site.specs.Writing.{fits}
use Rattle.site.specs.LaterLaws.{years_within}
use Rattle.laws.specs.Truth.{and_left, and_right}

-- a kind is one of four
pub by_kind : (P : ℕ → Type 0) → P 0 → P 1 → P 2 → P 3 → (kind : ℕ) → kind ≤ last_kind → P kind
by_kind P segment three_leg_stop four_leg_stop signal zero h = segment
by_kind P segment three_leg_stop four_leg_stop signal (suc zero) h = three_leg_stop
by_kind P segment three_leg_stop four_leg_stop signal (suc (suc zero)) h = four_leg_stop
by_kind P segment three_leg_stop four_leg_stop signal (suc (suc (suc zero))) h = signal
by_kind P segment three_leg_stop four_leg_stop signal (suc (suc (suc (suc kind)))) h = absurd (omega arith)

-- 1 to 10 are the years
pub years_exactly : (years : ℕ) → (years_known years ≡ true) ↔ ((1 ≤ years) × (years ≤ 10))
years_exactly years = (
  λ e. ((years_within years e).0, omega (arith, (years_within years e).1)),
  λ h. rw (le-leb 1 years h.0, le-leb years most_years (omega (arith, h.1))),
)

-- and an edition has limited sight at stop crossings, or lacks it
pub by_rules : (P : Bool → ℕ → Type 0) → ((sight : Bool) → P sight 0) → P true 1 → P false 1 → P true 2 → P false 2
    → ((sight : Bool) → P sight 3) → (edition kind : ℕ) → kind ≤ last_kind → P (has_sight edition) kind
by_rules P segment three_leg_stop three_leg_stop' four_leg_stop four_leg_stop' signal edition = by (has_sight edition)
  where
    by : (sight : Bool) (kind : ℕ) → kind ≤ last_kind → P sight kind
    by true = by_kind (P true) (segment true) three_leg_stop four_leg_stop (signal true)
    by false = by_kind (P false) (segment false) three_leg_stop' four_leg_stop' (signal false)

-- what an absent field is read as is within its rule, unless the field is needed: a default lies in its range
abbrev pub right : Rule → Bool
right rule = needed rule || fits rule (absent_of rule)

-- and a field of the curve has a bit
abbrev pub entry_right : Entry → Bool
entry_right entry = right (rule_of entry) && (not (on_curve entry) || eqb (bits (rule_of entry)) 1)

unfoldable pub every : {A : Type 0} → (A → Bool) → List A → Bool
every test [] = true
every test (x ∷ xs) = test x && every test xs

-- the bits of a kind
unfoldable pub bit_count : List Rule → ℕ
bit_count [] = 0
bit_count (rule ∷ rules) = bits rule + bit_count rules

unfoldable pub has_curve : List Entry → Bool
has_curve [] = false
has_curve (entry ∷ entries) = on_curve entry || has_curve entries

unfoldable pub needs_curve : List Entry → Bool
needs_curve [] = false
needs_curve (entry ∷ entries) = (on_curve entry && needed (rule_of entry)) || needs_curve entries

-- the highest number that a rule takes
abbrev pub top : Rule → ℕ
top Foreign = 0
top Lacking = 0
top (Needed low high) = high
top (Optional low high) = high
top (Default low high usual) = high

-- two bytes hold every number that a rule takes, and no rule takes 65,535
abbrev pub top_low : Rule → Bool
top_low rule = ltb (top rule) 65535

-- a rule for each slot, at most 15 bits, and where a kind has a curve, a field that every curve needs
abbrev pub tested : List Entry → Bool
tested entries =
    eqb (length entries) slot_count
    && (leb (bit_count (settle true entries)) 15
    && (every entry_right entries && ((not (has_curve entries) || needs_curve entries) && every (λ entry. top_low (rule_of entry)) entries)))

pub table_tested : (edition kind : ℕ) → kind ≤ last_kind → tested (entries_of edition kind) ≡ true
unfolding entries_of every bit_count has_curve needs_curve
table_tested = by_rules (λ sight kind. tested (entries_by sight kind) ≡ true) (λ sight. refl) refl refl refl refl (λ sight. refl)

not_or : (a b : Bool) → (not a || b) ≡ true → a ≡ true → b ≡ true
not_or true b e p = e
not_or false b e p = absurd (true≢false (sym p))

-- the bits of a field are the same on a curve and on a straight road
pub settled_bits : (curved : Bool) (entry : Entry) → entry_right entry ≡ true
    → bits (settled curved entry) ≡ bits (rule_of entry)
settled_bits curved (Always rule) e = refl
settled_bits true (OnCurve rule) e = refl
settled_bits false (OnCurve rule) e = sym (eqb-true (bits rule) 1 (and_right (right rule) (eqb (bits rule) 1) e))

settled_right : (curved : Bool) (entry : Entry) → entry_right entry ≡ true → right (settled curved entry) ≡ true
settled_right curved (Always rule) e = and_left (right rule) _ e
settled_right true (OnCurve rule) e = and_left (right rule) _ e
settled_right false (OnCurve rule) e = refl

settled_low : (curved : Bool) (entry : Entry) → top_low (rule_of entry) ≡ true → top_low (settled curved entry) ≡ true
settled_low curved (Always rule) e = e
settled_low true (OnCurve rule) e = e
settled_low false (OnCurve rule) e = refl

settle_every : (test : Entry → Bool) (passed : Rule → Bool) (curved : Bool)
    → ((entry : Entry) → test entry ≡ true → passed (settled curved entry) ≡ true)
    → (entries : List Entry) → every test entries ≡ true → every passed (settle curved entries) ≡ true
unfolding every
settle_every test passed curved law [] e = refl
settle_every test passed curved law (entry ∷ entries) e =
    rw (law entry (and_left (test entry) _ e), settle_every test passed curved law entries (and_right (test entry) _ e))

settle_bits : (curved : Bool) (entries : List Entry) → every entry_right entries ≡ true
    → bit_count (settle curved entries) ≡ bit_count (settle true entries)
unfolding every bit_count
settle_bits curved [] e = refl
settle_bits curved (entry ∷ entries) e =
    let r : entry_right entry ≡ true = and_left (entry_right entry) (every entry_right entries) e in
    let p = settled_bits curved entry r in
    let q = settled_bits true entry r in
    let t = settle_bits curved entries (and_right (entry_right entry) (every entry_right entries) e) in
    omega arith

-- what the test says of a kind, on a curve or not
pub record TestedRules (entries : List Entry) (curved : Bool) : Type 0 where
  pub count : length (settle curved entries) ≡ slot_count
  pub few : bit_count (settle curved entries) ≤ 15
  pub rights : every right (settle curved entries) ≡ true
  pub entries_right : every entry_right entries ≡ true
  pub needs_curve : has_curve entries ≡ true → needs_curve entries ≡ true
  pub tops_low : every top_low (settle curved entries) ≡ true

pub tested_rules : (edition kind : ℕ) (curved : Bool) → kind ≤ last_kind → TestedRules (entries_of edition kind) curved
tested_rules edition kind curved h =
    let entries = entries_of edition kind in
    let t = table_tested edition kind h in
    let c = and_left (eqb (length entries) slot_count) _ t in
    let t1 = and_right (eqb (length entries) slot_count) _ t in
    let b = and_left (leb (bit_count (settle true entries)) 15) _ t1 in
    let t2 = and_right (leb (bit_count (settle true entries)) 15) _ t1 in
    let r = and_left (every entry_right entries) _ t2 in
    let t3 = and_right (every entry_right entries) _ t2 in
    let n = and_left (not (has_curve entries) || needs_curve entries) _ t3 in
    let top = and_right (not (has_curve entries) || needs_curve entries) _ t3 in
    let few : bit_count (settle true entries) ≤ 15 = leb-true (bit_count (settle true entries)) 15 b in
    record {
      count = length-map entries (settled curved) ∙ eqb-true (length entries) slot_count c;
      few = rw (settle_bits curved entries r) few;
      rights = settle_every entry_right right curved (settled_right curved) entries r;
      entries_right = r;
      needs_curve = not_or (has_curve entries) (needs_curve entries) n;
      tops_low = settle_every (λ entry. top_low (rule_of entry)) top_low curved (settled_low curved) entries top;
    }

-- the first field, and one of the two after it, always stand, and the other is foreign: "Bits 0 and 1 always stand"
abbrev pub leads : List Rule → Bool
leads rules =
    needed (get_or rules 0 Foreign)
    && ((needed (get_or rules 1 Foreign) && eqb (bits (get_or rules 2 Foreign)) 0) || (eqb (bits (get_or rules 1 Foreign)) 0 && needed (get_or rules 2 Foreign)))

pub rules_lead : (edition kind : ℕ) (curved : Bool) → kind ≤ last_kind → leads (settle curved (entries_of edition kind)) ≡ true
unfolding entries_of
rules_lead edition kind curved =
    by_rules (λ sight kind. leads (settle curved (entries_by sight kind)) ≡ true) (λ sight. refl) refl refl refl refl (λ sight. refl) edition kind

pub entries_count : (edition kind : ℕ) → kind ≤ last_kind → length (entries_of edition kind) ≡ slot_count
entries_count edition kind h = sym (length-map (entries_of edition kind) (settled true)) ∙ (tested_rules edition kind true h).count

-- a rule's own laws, each by the cases of a rule
pub bits_most : (rule : Rule) → bits rule ≤ 1
bits_most Foreign = omega arith
bits_most Lacking = omega arith
bits_most (Needed low high) = omega arith
bits_most (Optional low high) = omega arith
bits_most (Default low high usual) = omega arith

-- a rule that takes a number has a bit, and lacks nothing
pub allows_bit : (rule : Rule) (value : ℕ) → allows rule value ≡ true → (bits rule ≡ 1) × (lacking rule ≡ false)
allows_bit Foreign value e = absurd (true≢false (sym e))
allows_bit Lacking value e = absurd (true≢false (sym e))
allows_bit (Needed low high) value e = (refl, refl)
allows_bit (Optional low high) value e = (refl, refl)
allows_bit (Default low high usual) value e = (refl, refl)

pub allows_top : (rule : Rule) (value : ℕ) → allows rule value ≡ true → value ≤ top rule
allows_top Foreign value e = absurd (true≢false (sym e))
allows_top Lacking value e = absurd (true≢false (sym e))
allows_top (Needed low high) value e = leb-true value high (and_right (leb low value) (leb value high) e)
allows_top (Optional low high) value e = leb-true value high (and_right (leb low value) (leb value high) e)
allows_top (Default low high usual) value e = leb-true value high (and_right (leb low value) (leb value high) e)

-- a needed field has a bit and no default
pub needed_bit : (rule : Rule) → needed rule ≡ true → (bits rule ≡ 1) × (absent_of rule ≡ None)
needed_bit Foreign e = absurd (true≢false (sym e))
needed_bit Lacking e = absurd (true≢false (sym e))
needed_bit (Needed low high) e = (refl, refl)
needed_bit (Optional low high) e = absurd (true≢false (sym e))
needed_bit (Default low high usual) e = absurd (true≢false (sym e))
