-- The walk over a kind's rules, told by bit number: a rule with no bit drops out, and the b-th of the others is that of bit b.
use Rattle.std.specs.Prelude.{Option, None, Some}
use Rattle.std.specs.Prelude.{◌≡◌, refl, Bool, true, false, cond, ◌&&◌, ◌||◌, not, List, [], ◌∷◌, ℕ, zero, suc, ◌+◌, ◌-◌, ◌*◌, ◌/◌, ◌%◌, ◌^◌, ◌<◌, ◌≤◌, get_or, drop, eqb, ◌⊎◌}
use Rattle.std.proofs.Common.{ap, sym, ◌∙◌, div-one, zero-add, mul_assoc, arith, drop-drop, pow-add, ltb-true, lt-ltb, eqb-true, eq-eqb, ne_eqb, inl, inr, ⊎_elim}
use Rattle.std.proofs.Math.Bool.{or-true, and-false}
use Rattle.std.proofs.Math.Nat.{mod-one, div-div-eq-div-mul}
use Rattle.std.proofs.lemmas.Bool.{eqb-false, not-false}
use Rattle.site.specs.declared.rules.Rule.{Rule}
use Rattle.site.specs.declared.rules.Rule.TheVariants.{Foreign, Lacking, Needed, Optional, Default}
use Rattle.site.specs.declared.rules.Entry.{Entry}
use Rattle.site.specs.declared.rules.Entry.TheVariants.{Always, OnCurve}
use Rattle.site.specs.Rules.{absent_of, needed, lacking, bits, settle}
use Rattle.site.specs.Yearly.{later_minor}
use Rattle.site.specs.Record.{word, rest_of, any_field, needed_bit_absent, lacks, misses, curved}
use Rattle.site.specs.Record.{words, value_number, field_number, after, fields_number, fields_values}
use Rattle.site.specs.Record.{yearly_bit, field_map, kind_in, map_in, field_map_in, later_in, later_minor_in}
use Rattle.site.specs.Fields.{map_bits, bit_at, standing, later_told}
use Rattle.laws.specs.Truth.{and_left, and_right, or_left, or_right}
use Rattle.site.specs.Tested.{right, entry_right, every}

-- a bit of a map is its digit by powers of 2
pub bit_by_power : (b map : ℕ) → bit_at b map ≡ eqb (map / 2 ^ b % 2) 1
bit_by_power zero map = rw (div-one map)
bit_by_power (suc b) map =
    let e : suc b ≡ 1 + b = omega arith in
    let d : map / 2 / 2 ^ b ≡ map / 2 ^ suc b = div-div-eq-div-mul map 2 (2 ^ b) ∙ rw (e, pow-add 2 1 b) in
    bit_by_power b (map / 2) ∙ ap (λ (m : ℕ). eqb (m % 2) 1) d

-- the bits below k do not see what is above them
twice : (k n : ℕ) → 2 ^ suc k * n ≡ 2 * (2 ^ k * n)
twice k n = let e : suc k ≡ 1 + k = omega arith in rw (e, pow-add 2 1 k) (mul_assoc 2 (2 ^ k) n)

low_bits : (k b n m : ℕ) → b < k → bit_at b (m + 2 ^ k * n) ≡ bit_at b m
low_bits zero b n m h = absurd (omega arith)
low_bits (suc k) zero n m h = let d : (m + 2 ^ suc k * n) % 2 ≡ m % 2 = omega (arith, twice k n) in rw d
low_bits (suc k) (suc b) n m h =
    let d : (m + 2 ^ suc k * n) / 2 ≡ m / 2 + 2 ^ k * n = omega (arith, twice k n) in
    rw d (low_bits k b n (m / 2) (omega arith))

-- THE MAP OF THE FIELDS has the bits of the record's own map, and not bit 15
pub fields_keep_bits : (s : List ℕ) (b : ℕ) → b < map_bits → bit_at b (field_map_in s) ≡ bit_at b (map_in s)
fields_keep_bits s b h =
    let m = map_in s in
    let whole : field_map m + 32768 * yearly_bit m ≡ m = omega arith in
    sym (low_bits 15 b (yearly_bit m) (field_map m) h) ∙ ap (bit_at b) whole

pub fields_lack_fifteen : (s : List ℕ) → bit_at 15 (field_map_in s) ≡ false
fields_lack_fifteen s =
    let m = map_in s in
    bit_by_power 15 (field_map m) ∙ ne_eqb (field_map m / 32768 % 2) 1 (λ e. omega arith)

-- bit 15 by its number, and how many later values it tells of: the reader's count of them
pub yearly_told : (s : List ℕ) → bit_at 15 (map_in s) ≡ eqb (yearly_bit (map_in s)) 1
yearly_told s = bit_by_power 15 (map_in s)

pub later_told_lem : (years : ℕ) (s : List ℕ) → later_told years s ≡ later_in years s
later_told_lem years s = rw (yearly_told s) (by (yearly_bit (map_in s)) (omega arith))
  where
    by : (b : ℕ) → b ≤ 1 → cond (eqb b 1) (years - 1) 0 ≡ b * (years - 1)
    by zero h = omega arith
    by (suc zero) h = omega arith
    by (suc (suc b)) h = absurd (omega arith)

pub minor_told : (years : ℕ) (s : List ℕ) → later_minor (kind_in s) (later_told years s) ≡ later_minor_in years s
minor_told years s = ap (later_minor (kind_in s)) (later_told_lem years s)

-- the rules that have a bit, and the slots of these
unfoldable pub bit_rules : List Rule → List Rule
bit_rules [] = []
bit_rules (rule ∷ rules) = cond (eqb (bits rule) 0) (bit_rules rules) (rule ∷ bit_rules rules)

unfoldable pub bit_slots : List Rule → List (Option ℕ) → List (Option ℕ)
bit_slots [] slots = []
bit_slots (rule ∷ rules) [] = []
bit_slots (rule ∷ rules) (slot ∷ slots) = cond (eqb (bits rule) 0) (bit_slots rules slots) (slot ∷ bit_slots rules slots)

pub record WithBits (rules : List Rule) (map : ℕ) (s : List ℕ) : Type 0 where
  pub lack : lacks rules map ≡ lacks (bit_rules rules) map
  pub miss : misses rules map ≡ misses (bit_rules rules) map
  pub count : words rules map ≡ words (bit_rules rules) map
  pub number : fields_number rules map s ≡ fields_number (bit_rules rules) map s
  pub values : bit_slots rules (fields_values rules map s) ≡ fields_values (bit_rules rules) map s

with_bit : (rule : Rule) (rules : List Rule) (map : ℕ) (s : List ℕ) → bits rule ≡ 1
    → WithBits rules (rest_of rule map) (after rule map s) → WithBits (rule ∷ rules) map s
unfolding bit_rules bit_slots any_field words fields_number fields_values
with_bit rule rules map s e w =
    record {
      lack = rw (w.lack, e, e);
      miss = rw (w.miss, e, e);
      count = rw (w.count, e, e);
      number = rw (w.number, e, e);
      values = rw (w.values, e, e);
    }

without_bit : (rules : List Rule) (map : ℕ) (s : List ℕ) → WithBits rules map s → WithBits (Foreign ∷ rules) map s
unfolding bit_rules bit_slots any_field words fields_number fields_values
without_bit rules map s w =
    record {
      lack = rw (div-one map) w.lack;
      miss = rw (div-one map) w.miss;
      count = rw (div-one map, mod-one map, zero-add) w.count;
      number = rw (div-one map, mod-one map) w.number;
      values = rw (div-one map, mod-one map) w.values;
    }

pub with_bits : (rules : List Rule) (map : ℕ) (s : List ℕ) → WithBits rules map s
unfolding bit_rules bit_slots any_field words fields_number fields_values
with_bits [] map s = record { lack = refl; miss = refl; count = refl; number = refl; values = refl }
with_bits (Foreign ∷ rules) map s = without_bit rules map s (with_bits rules map s)
with_bits (Lacking ∷ rules) map s = with_bit Lacking rules map s refl (with_bits rules _ _)
with_bits (Needed low high ∷ rules) map s = with_bit (Needed low high) rules map s refl (with_bits rules _ _)
with_bits (Optional low high ∷ rules) map s = with_bit (Optional low high) rules map s refl (with_bits rules _ _)
with_bits (Default low high usual ∷ rules) map s = with_bit (Default low high usual) rules map s refl (with_bits rules _ _)

-- the rules of the first n bits
unfoldable pub listed : (ℕ → Rule) → ℕ → List Rule
listed g zero = []
listed g (suc n) = g 0 ∷ listed (λ b. g (suc b)) n

abbrev pub EachHasBit : (ℕ → Rule) → Type 0
EachHasBit g = (b : ℕ) → bits (g b) ≡ 1

-- the number of a bit in what follows the map, and its refusal or 0
abbrev pub word_at : ℕ → ℕ → List ℕ → ℕ
word_at b map s = word (drop (2 * standing b map) s)

abbrev pub bit_number : (ℕ → Rule) → ℕ → ℕ → List ℕ → ℕ
bit_number g b map s = cond (bit_at b map) (value_number (g b) (word_at b map s)) 0

word_after : (b map : ℕ) (s : List ℕ) → word_at (suc b) map s ≡ word_at b (map / 2) (drop (2 * (map % 2)) s)
unfolding standing
word_after b map s =
    let e : 2 * (map % 2 + standing b (map / 2)) ≡ 2 * (map % 2) + 2 * standing b (map / 2) = omega arith in
    ap word (ap (λ (k : ℕ). drop k s) e ∙ sym (drop-drop (2 * standing b (map / 2)) (2 * (map % 2)) s))

pub words_listed : (n : ℕ) (g : ℕ → Rule) (map : ℕ) → EachHasBit g → words (listed g n) map ≡ standing n map
unfolding listed words standing
words_listed zero g map one = refl
words_listed (suc n) g map one = rw (one 0, words_listed n (λ b. g (suc b)) (map / 2) (λ b. one (suc b)))

-- the slot of a bit
pub value_at_lem : (n : ℕ) (g : ℕ → Rule) (map : ℕ) (s : List ℕ) → EachHasBit g → (b : ℕ) → b < n
    → get_or (fields_values (listed g n) map s) b None ≡ cond (bit_at b map) (Some (word_at b map s)) (absent_of (g b))
unfolding listed fields_values standing
value_at_lem zero g map s one b h = let z : ⊥ = omega arith in absurd z
value_at_lem (suc n) g map s one zero h = rw (one 0)
value_at_lem (suc n) g map s one (suc b) h =
    rw (one 0, word_after b map s) (value_at_lem n (λ k. g (suc k)) (map / 2) (drop (2 * (map % 2)) s) (λ k. one (suc k)) b (omega arith))

-- no needed bit is absent
pub needed_stands : (n : ℕ) (g : ℕ → Rule) (map : ℕ) → EachHasBit g → misses (listed g n) map ≡ false
    → (b : ℕ) → b < n → needed (g b) ≡ true → bit_at b map ≡ true
unfolding listed any_field
needed_stands zero g map one e b h k = let z : ⊥ = omega arith in absurd z
needed_stands (suc n) g map one e zero h k =
    let q : (true && not (eqb (map % 2) 1)) ≡ false = rw (k, one 0) at (or_left (needed_bit_absent (g 0) map) _ e) in not-false (eqb (map % 2) 1) q
needed_stands (suc n) g map one e (suc b) h k =
    let q : misses (listed (λ j. g (suc j)) n) (map / 2) ≡ false = rw (one 0) at (or_right (needed_bit_absent (g 0) map) _ e) in
    needed_stands n (λ j. g (suc j)) (map / 2) (λ j. one (suc j)) q b (omega arith) k

-- the number of the fields, told by bit number: that of the first bit that is refused, or no bit is
pub data BitsTell (n : ℕ) (g : ℕ → Rule) (map : ℕ) (s : List ℕ) : ℕ → Type 0 where
  none_refused : ((c : ℕ) → c < n → bit_number g c map s ≡ 0) → BitsTell n g map s 0
  first_refused : {number : ℕ} → (number ≡ 0 → ⊥) → (b : ℕ) → bit_number g b map s ≡ number → ((c : ℕ) → c < b → bit_number g c map s ≡ 0)
      → BitsTell n g map s number

pub bits_tell : (n : ℕ) (g : ℕ → Rule) (map : ℕ) (s : List ℕ) → EachHasBit g → BitsTell n g map s (fields_number (listed g n) map s)
unfolding listed fields_number standing
bits_tell zero g map s one = none_refused (λ c h. absurd (omega arith))
bits_tell (suc n) g map s one =
    by (eqb (field_number (g 0) map s) 0) refl (bits_tell n (λ j. g (suc j)) (map / 2) (drop (2 * (map % 2)) s) (λ j. one (suc j)))
  where
    below : (m : ℕ) → bit_number g 0 map s ≡ 0 → ((c : ℕ) → c < m → bit_number (λ j. g (suc j)) c (map / 2) (drop (2 * (map % 2)) s) ≡ 0)
        → (c : ℕ) → c < suc m → bit_number g c map s ≡ 0
    below m z later zero h = z
    below m z later (suc c) h = rw (word_after c map s) (later c (omega arith))

    one_up : {number : ℕ} → bit_number g 0 map s ≡ 0 → BitsTell n (λ j. g (suc j)) (map / 2) (drop (2 * (map % 2)) s) number → BitsTell (suc n) g map s number
    one_up z (none_refused later) = none_refused (below n z later)
    one_up z (first_refused ne b e later) = first_refused ne (suc b) (rw (word_after b map s) e) (below b z later)

    by : (b : Bool) → eqb (field_number (g 0) map s) 0 ≡ b
        → BitsTell n (λ j. g (suc j)) (map / 2) (drop (2 * (map % 2)) s) (fields_number (listed (λ j. g (suc j)) n) (map / 2) (drop (2 * (map % 2)) s))
        → BitsTell (suc n) g map s (cond b (fields_number (listed (λ j. g (suc j)) n) (rest_of (g 0) map) (after (g 0) map s)) (field_number (g 0) map s))
    by true t later = rw (one 0) (one_up (rw (one 0) at (eqb-true (field_number (g 0) map s) 0 t)) later)
    by false t later = first_refused (eqb-false (field_number (g 0) map s) 0 t) 0 (rw (one 0) refl) (λ c h. absurd (omega arith))

pub all_right : {n : ℕ} {g : ℕ → Rule} {map : ℕ} {s : List ℕ} {number : ℕ} → BitsTell n g map s number → number ≡ 0
    → (b : ℕ) → b < n → bit_number g b map s ≡ 0
all_right (none_refused all) z = all
all_right (first_refused ne b e below) z = absurd (ne z)

pub refused_first : (n : ℕ) (g : ℕ → Rule) (map : ℕ) (s : List ℕ) (number b : ℕ) → EachHasBit g → (number ≡ 0 → ⊥)
    → b < n → bit_number g b map s ≡ number → ((c : ℕ) → c < b → bit_number g c map s ≡ 0) → fields_number (listed g n) map s ≡ number
unfolding listed fields_number standing
refused_first zero g map s number b one ne h e below = let z : ⊥ = omega arith in absurd z
refused_first (suc n) g map s number zero one ne h e below =
    let q : eqb (bit_number g 0 map s) 0 ≡ false = rw e (ne_eqb number 0 ne) in
    rw (one 0, q) e
refused_first (suc n) g map s number (suc b) one ne h e below =
    let q : eqb (bit_number g 0 map s) 0 ≡ true = eq-eqb _ 0 (below 0 (omega arith)) in
    rw (one 0, q)
    (refused_first n (λ j. g (suc j)) (map / 2) (drop (2 * (map % 2)) s) number b (λ j. one (suc j)) ne (omega arith) (rw (word_after b map s) at e)
    (λ c k. rw (word_after c map s) at (below (suc c) (omega arith))))

-- a map that is not 0 has a bit that stands, and only such a map
pub record StandingBit (map : ℕ) (Holds : ℕ → Type 0) : Type 0 where
  pub at : ℕ
  pub stands : bit_at at map ≡ true
  pub holds : Holds at

some_bit : (most map : ℕ) → map ≤ most → 0 < map → StandingBit map (λ b. Unit)
some_bit zero map h k = let z : ⊥ = omega arith in absurd z
some_bit (suc most) map h k = by (eqb (map % 2) 1) refl (λ q. some_bit most (map / 2) (omega arith) q)
  where
    by : (b : Bool) → eqb (map % 2) 1 ≡ b → (0 < map / 2 → StandingBit (map / 2) (λ b. Unit)) → StandingBit map (λ b. Unit)
    by true t later = record { at = 0; stands = t; holds = tt }
    by false t later = let r = later (omega (arith, eqb-false (map % 2) 1 t)) in record { at = suc r.at; stands = r.stands; holds = tt }

not_zero : (b map : ℕ) → bit_at b map ≡ true → 0 < map
not_zero zero map e = omega (arith, eqb-true (map % 2) 1 e)
not_zero (suc b) map e = omega (arith, not_zero b (map / 2) e)

-- a bit stands that the rules lack, or one past them
abbrev pub Past : ℕ → (ℕ → Rule) → ℕ → Type 0
Past n g b = (lacking (g b) ≡ true) ⊎ (n ≤ b)

pub lacked_found : (n : ℕ) (g : ℕ → Rule) (map : ℕ) → EachHasBit g → lacks (listed g n) map ≡ true → StandingBit map (Past n g)
unfolding listed any_field
lacked_found zero g map one e =
    let r = some_bit map map (omega arith) (ltb-true 0 map e) in record { at = r.at; stands = r.stands; holds = inr (omega arith) }
lacked_found (suc n) g map one e =
    by (lacking (g 0)) (eqb (map % 2) 1) refl refl (rw (one 0) at e) (λ q. lacked_found n (λ j. g (suc j)) (map / 2) (λ j. one (suc j)) q)
  where
    one_up : StandingBit (map / 2) (Past n (λ j. g (suc j))) → StandingBit map (Past (suc n) g)
    one_up r = record { at = suc r.at; stands = r.stands; holds = ⊎_elim (λ x. inl x) (λ x. inr (omega arith)) r.holds }

    by : (a b : Bool) → lacking (g 0) ≡ a → eqb (map % 2) 1 ≡ b → ((a && b) || lacks (listed (λ j. g (suc j)) n) (map / 2)) ≡ true
        → (lacks (listed (λ j. g (suc j)) n) (map / 2) ≡ true → StandingBit (map / 2) (Past n (λ j. g (suc j)))) → StandingBit map (Past (suc n) g)
    by true true p t q later = record { at = 0; stands = t; holds = inl p }
    by true false p t q later = one_up (later q)
    by false b p t q later = one_up (later q)

pub lacked_told : (n : ℕ) (g : ℕ → Rule) (map b : ℕ) → EachHasBit g → bit_at b map ≡ true → Past n g b → lacks (listed g n) map ≡ true
unfolding listed any_field
lacked_told zero g map b one e p = lt-ltb 0 map (not_zero b map e)
lacked_told (suc n) g map zero one e (inl p) = rw (p, one 0, e)
lacked_told (suc n) g map zero one e (inr h) = let z : ⊥ = omega arith in absurd z
lacked_told (suc n) g map (suc b) one e (inl p) =
    rw (one 0, lacked_told n (λ j. g (suc j)) (map / 2) b (λ j. one (suc j)) e (inl p)) (or-true (lacking (g 0) && eqb (map % 2) 1))
lacked_told (suc n) g map (suc b) one e (inr h) =
    rw (one 0, lacked_told n (λ j. g (suc j)) (map / 2) b (λ j. one (suc j)) e (inr (omega arith))) (or-true (lacking (g 0) && eqb (map % 2) 1))

-- a map with no bit past the first n has no more standing bits than these
pub standing_past : (n m map : ℕ) → n ≤ m → ((b : ℕ) → n ≤ b → bit_at b map ≡ false) → standing m map ≡ standing n map
unfolding standing
standing_past zero zero map h none = refl
standing_past (suc n) zero map h none = let z : ⊥ = omega arith in absurd z
standing_past zero (suc m) map h none =
    omega (arith, eqb-false (map % 2) 1 (none 0 (omega arith)), standing_past zero m (map / 2) (omega arith) (λ b k. none (suc b) (omega arith)))
standing_past (suc n) (suc m) map h none = rw (standing_past n m (map / 2) (omega arith) (λ b k. none (suc b) (omega arith)))

-- where no bit of the curve stands, a straight road's rules refuse what a curve's do
pub record SameRoad (curve : Bool) (entries : List Entry) (map : ℕ) (s : List ℕ) : Type 0 where
  pub lack : lacks (settle curve entries) map ≡ lacks (settle true entries) map
  pub count : words (settle curve entries) map ≡ words (settle true entries) map
  pub number : fields_number (settle curve entries) map s ≡ fields_number (settle true entries) map s

pub same_road : (curve : Bool) (entries : List Entry) (map : ℕ) (s : List ℕ) → every entry_right entries ≡ true → curved entries map ≡ curve
    → SameRoad curve entries map s
unfolding any_field words fields_number every
same_road true entries map s r e = record { lack = refl; count = refl; number = refl }
same_road false [] map s r e = record { lack = refl; count = refl; number = refl }
same_road false (Always rule ∷ entries) map s r e =
    let w = same_road false entries (rest_of rule map) (after rule map s) (and_right (entry_right (Always rule)) _ r) e in
    record { lack = rw w.lack; count = rw w.count; number = rw w.number }
same_road false (OnCurve rule ∷ entries) map s r e =
    let one : bits rule ≡ 1 = eqb-true (bits rule) 1 (and_right (right rule) _ (and_left _ _ r)) in
    let e' : (eqb (map % 2) 1 || curved entries (map / 2)) ≡ false = rw one at e in
    let off = or_left (eqb (map % 2) 1) (curved entries (map / 2)) e' in
    let w = same_road false entries (map / 2) (drop (2 * (map % 2)) s) (and_right (entry_right (OnCurve rule)) _ r) (or_right (eqb (map % 2) 1) _ e') in
    record { lack = rw (one, off, and-false (lacking rule)) w.lack; count = rw (one, w.count); number = rw (one, off) w.number }
