-- Laws of Bytes in specs/.
use Rattle.std.specs.Prelude.{Option, None, Some}
use Rattle.std.specs.Prelude.{◌≡◌, refl, Bool, true, false, cond, List, [], ◌∷◌, ◌++◌, ℕ, zero, suc, ◌+◌, ◌<◌, get_or, ltb, eqb}
use Rattle.std.proofs.Common.{sym, true≢false, append-nil, arith, ltb-true}
use Rattle.site.specs.declared.rules.Rule.{Rule}
use Rattle.site.specs.declared.values.Site.{Site}
use Rattle.site.specs.Rules.{entries_of, traffic}
use Rattle.site.specs.Yearly.{later_slots, yearly}
use Rattle.site.specs.Writing.{slots_of, curve_held, rules_held, fits, all_fit, slot_bit, map_of, two_bytes, slot_bytes, field_bytes, bytes_of}
use Rattle.site.specs.Writing.{later_bytes, spread_bytes, record_by, record_of, later_fits, Valid}
use Rattle.laws.specs.Truth.{and_left, and_right}
use Rattle.site.specs.Digits.{Bytes}
use Rattle.site.specs.Digits.{bytes_append}
use Rattle.site.specs.Tested.{top, allows_top, tested_rules, every, top_low}
use Rattle.site.specs.Ranges.{tests, valid_kind}
use Rattle.site.specs.WriteRead.{map_small}
use Rattle.site.proofs.WriteRead.{first_field, second_field, other_fields, spread_parts, bytes_parts}
use Rattle.site.specs.Bytes.{bytes_cons, bytes_nil, two_bytes_of}

fits_bytes : (rule : Rule) (slot : Option ℕ) → fits rule slot ≡ true → top rule < 65535 → Bytes (slot_bytes slot)
fits_bytes rule None f h = bytes_nil
fits_bytes rule (Some value) f h = two_bytes_of value (omega (arith, allows_top rule value f))

field_bytes_lem : (rule : Rule) (slot : Option ℕ) → fits rule slot ≡ true → top rule < 65535 → Bytes (field_bytes rule slot)
field_bytes_lem rule None f h = bytes_nil
field_bytes_lem rule (Some value) f h = by (eqb (slot_bit rule (Some value)) 1) (fits_bytes rule (Some value) f h)
  where
    by : (b : Bool) → Bytes (slot_bytes (Some value)) → Bytes (cond b (slot_bytes (Some value)) [])
    by true bytes = bytes
    by false bytes = bytes_nil

fields_bytes : (rules : List Rule) (slots : List (Option ℕ)) → all_fit rules slots ≡ true → every top_low rules ≡ true → Bytes (bytes_of rules slots)
unfolding all_fit every bytes_of
fields_bytes [] slots f h = bytes_nil
fields_bytes (rule ∷ rules) [] f h = bytes_nil
fields_bytes (rule ∷ rules) (slot ∷ slots) f h =
    bytes_append (field_bytes rule slot) (bytes_of rules slots)
    (field_bytes_lem rule slot (and_left _ _ f) (ltb-true (top rule) 65535 (and_left _ _ h)))
    (fields_bytes rules slots (and_right (fits rule slot) _ f) (and_right (ltb (top rule) 65535) _ h))

-- later values fit their bytes
later_bytes_lem : (later : ℕ) (slots : List (Option ℕ)) → later_fits later slots ≡ true → Bytes (later_bytes slots)
unfolding later_bytes later_fits
later_bytes_lem later [] f = bytes_nil
later_bytes_lem zero (None ∷ slots) f = later_bytes_lem zero slots f
later_bytes_lem zero (Some value ∷ slots) f = absurd (true≢false (sym f))
later_bytes_lem (suc later) (slot ∷ slots) f =
    bytes_append (slot_bytes slot) (later_bytes slots) (fits_bytes traffic slot (and_left (fits traffic slot) _ f) (omega arith))
    (later_bytes_lem later slots (and_right (fits traffic slot) _ f))

-- fields put between bytes are bytes where all of them are
parts_bytes : (a b r t u : List ℕ) → Bytes (a ++ (b ++ r)) → Bytes t → Bytes u → Bytes (a ++ (t ++ (b ++ (u ++ r))))
parts_bytes a b r t u all bt bu =
    bytes_append a (t ++ (b ++ (u ++ r))) (front_bytes a (b ++ r) all)
    (bytes_append t (b ++ (u ++ r)) bt
    (bytes_append b (u ++ r) (front_bytes b r (back_bytes a (b ++ r) all)) (bytes_append u r bu (back_bytes b r (back_bytes a (b ++ r) all)))))
  where
    front_bytes : (s t : List ℕ) → Bytes (s ++ t) → (i : ℕ) → get_or s i 0 < 256
    front_bytes [] t bytes i = omega arith
    front_bytes (x ∷ s) t bytes zero = bytes 0
    front_bytes (x ∷ s) t bytes (suc i) = front_bytes s t (λ j. bytes (suc j)) i

    back_bytes : (s t : List ℕ) → Bytes (s ++ t) → (i : ℕ) → get_or t i 0 < 256
    back_bytes [] t bytes i = bytes i
    back_bytes (x ∷ s) t bytes i = back_bytes s t (λ j. bytes (suc j)) i

-- what the writer emits is bytes
pub record_bytes : (edition years : ℕ) (site : Site) → Valid edition years site → Bytes (record_of edition site)
unfolding record_by
record_bytes edition years site v =
    let slots = slots_of site in
    let rules = rules_held edition site.kind slots in
    let hk = valid_kind edition years site v in
    let c = tests edition years site v in
    let s = tested_rules edition site.kind (curve_held (entries_of edition site.kind) slots) hk in
    let small = map_small rules slots 0 s.few in
    let map = map_of rules slots + cond (yearly site) 32768 0 in
    let traffic_bytes = later_bytes_lem _ _ c.later_traffic in
    let minor_bytes = later_bytes_lem _ _ c.later_minor in
    let traffic = later_bytes (later_slots site.later_traffic) in
    let minor = later_bytes (later_slots site.later_minor) in
    let plain = rw (bytes_parts rules slots s.count refl) at (fields_bytes rules slots c.fit s.tops_low) in
    let spread : Bytes (spread_bytes rules slots traffic minor) =
    rw (← append-nil (spread_bytes rules slots traffic minor), spread_parts rules slots traffic minor [], append-nil (other_fields rules slots))
    (parts_bytes (first_field rules slots) (second_field rules slots) (other_fields rules slots) traffic minor plain traffic_bytes minor_bytes) in
    let words = bytes_append (two_bytes map) (spread_bytes rules slots traffic minor) (two_bytes_of map (below (yearly site) small)) spread in
    bytes_cons site.kind (two_bytes map ++ spread_bytes rules slots traffic minor) (omega arith) words
  where
    below : (b : Bool) {m : ℕ} → m < 32768 → m + cond b 32768 0 < 65536
    below true h = omega arith
    below false h = omega arith
