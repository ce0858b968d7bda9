-- What is written is read back: field by field, then the curve, then the whole record.
use Rattle.std.specs.Prelude.{Option, None, Some}
use Rattle.std.specs.Prelude.{◌≡◌, refl, Bool, true, false, ℕ, zero, suc, ◌+◌, ◌*◌, ◌^◌, ◌<◌, ◌≤◌, eqb}
use Rattle.std.proofs.Common.{le_refl, le_trans, lt_of_lt_of_le, pow_pos, pow-add}
use Rattle.std.proofs.Math.Bool.{cond}
use mathlib.Core.List.{List, [], ◌∷◌, ◌++◌}
use Rattle.std.proofs.Math.Nat.{pow-le-pow_right}
use native.Mathlib.Omega.{arith}
use Rattle.std.proofs.Math.ListN.{length, drop, length-append}
use Rattle.site.specs.declared.rules.Rule.{Rule}
use Rattle.site.specs.Rules.{absent_of, bits}
use Rattle.site.specs.Rules.{holds}
use Rattle.site.specs.Record.{lacked_bit_stands, needed_bit_absent}
use Rattle.site.specs.Record.{words, field_number, field_value, after}
use Rattle.site.specs.Writing.{slot_bit, map_of, slot_bytes, field_bytes, bytes_of}
use Rattle.site.specs.Digits.{digit_low, digit_rest}
use Rattle.site.specs.Tested.{bit_count, bits_most}

pub slot_bit_most : (rule : Rule) (slot : Option ℕ) → slot_bit rule slot ≤ bits rule
slot_bit_most rule None = omega arith
slot_bit_most rule (Some value) = by (holds (absent_of rule) value)
  where
    by : (b : Bool) → cond b 0 (bits rule) ≤ bits rule
    by true = omega arith
    by false = le_refl (bits rule)

-- a map is below 2 to its count of bits
map_below : (rules : List Rule) (slots : List (Option ℕ)) → map_of rules slots < 2 ^ bit_count rules
unfolding map_of bit_count
map_below [] slots = pow_pos 0
map_below (rule ∷ rules) [] = pow_pos (bits rule + bit_count rules)
map_below (rule ∷ rules) (slot ∷ slots) =
    rw (pow-add 2 (bits rule) (bit_count rules)) (by (bits rule) (slot_bit rule slot) (bits_most rule) (slot_bit_most rule slot) (map_below rules slots))
  where
    by : (b d : ℕ) → b ≤ 1 → d ≤ b → map_of rules slots < 2 ^ bit_count rules
        → d + (1 + b) * map_of rules slots < 2 ^ b * 2 ^ bit_count rules
    by zero d h k l = omega arith
    by (suc zero) d h k l = omega arith
    by (suc (suc b)) d h k l = let z : ⊥ = omega arith in absurd z

bits_left : (rules : List Rule) (i : ℕ) → bit_count (drop i rules) ≤ bit_count rules
unfolding bit_count
bits_left [] zero = omega arith
bits_left [] (suc i) = omega arith
bits_left (rule ∷ rules) zero = omega arith
bits_left (rule ∷ rules) (suc i) = omega (arith, bits_left rules i)

pub map_small : (rules : List Rule) (slots : List (Option ℕ)) (i : ℕ) → bit_count rules ≤ 15
    → map_of (drop i rules) (drop i slots) < 32768
map_small rules slots i h = by (bit_count (drop i rules)) (map_below (drop i rules) (drop i slots)) (omega (arith, bits_left rules i))
  where
    by : (n : ℕ) → map_of (drop i rules) (drop i slots) < 2 ^ n → n ≤ 15 → map_of (drop i rules) (drop i slots) < 32768
    by n l k = let two : 0 < 2 = omega arith in lt_of_lt_of_le l (pow-le-pow_right two k)

-- what one field that is written says to the reader
pub record FieldReadBack (rule : Rule) (slot : Option ℕ) (map : ℕ) (t : List ℕ) : Type 0 where
  pub stray : lacked_bit_stands rule map ≡ false
  pub want : needed_bit_absent rule map ≡ false
  pub number : field_number rule map (field_bytes rule slot ++ t) ≡ 0
  pub value : field_value rule map (field_bytes rule slot ++ t) ≡ slot
  pub rest : after rule map (field_bytes rule slot ++ t) ≡ t

-- a field that is written has two bytes for each of its words
pub length_field : (rule : Rule) (slot : Option ℕ) → length (field_bytes rule slot) ≡ 2 * slot_bit rule slot
length_field rule None = refl
length_field rule (Some value) = by (slot_bit rule (Some value)) (le_trans (slot_bit_most rule (Some value)) (bits_most rule))
  where
    by : (b : ℕ) → b ≤ 1 → length (cond (eqb b 1) (slot_bytes (Some value)) []) ≡ 2 * b
    by zero h = refl
    by (suc zero) h = refl
    by (suc (suc b)) h = let z : ⊥ = omega arith in absurd z

pub length_bytes : (rules : List Rule) (slots : List (Option ℕ)) → length slots ≡ length rules
    → length (bytes_of rules slots) ≡ 2 * words rules (map_of rules slots)
unfolding bytes_of words map_of
length_bytes [] slots l = refl
length_bytes (rule ∷ rules) [] l = let z : ⊥ = omega arith in absurd z
length_bytes (rule ∷ rules) (slot ∷ slots) l =
    rw (
      digit_low (slot_bit rule slot) (bits rule) (map_of rules slots) (slot_bit_most rule slot),
      digit_rest (slot_bit rule slot) (bits rule) (map_of rules slots) (slot_bit_most rule slot),
    )
    (omega (arith, length-append (field_bytes rule slot) (bytes_of rules slots), length_field rule slot, length_bytes rules slots (omega arith)))
