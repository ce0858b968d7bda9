-- The rows of document 01 are the table of rules, bit by bit; so a record that is read has the values that they say.
use Rattle.std.specs.Prelude.{◌≡◌, refl, Bool, true, false, cond, ◌&&◌, List, [], ◌∷◌, ℕ, zero, suc, ◌<◌, ◌≤◌, ltb}
use Rattle.std.proofs.Common.{lt_of_not-le, arith, ltb-true, ne_eqb}
use Rattle.site.specs.declared.rules.Rule.{Rule}
use Rattle.site.specs.declared.rules.Rule.TheVariants.{Lacking, Needed, Optional, Default}
use Rattle.site.specs.Rules.{has_sight, last_kind, inside, allows, absent_of, lacking, bits}
use Rattle.site.specs.Rules.{holds}
use Rattle.site.specs.Record.{lacks, rules_read, words}
use Rattle.site.specs.Record.{fields_number}
use Rattle.site.specs.Fields.{Absence, never, no_number, usual, on_curve, Field, lacked, field, Row, bit, rows_by, rows_of, field_at}
use Rattle.site.specs.Fields.{map_bits, lacked_from, lacked_of, lacked_bits, in_range}
use Rattle.site.specs.Fields.{is_usual, spells_default}
use Rattle.laws.specs.Truth.{and_left, and_right}
use Rattle.site.specs.Tested.{by_rules}
use Rattle.site.specs.BitLaws.{listed, EachHasBit}

-- the rule that a field has in the table of rules, on a curve or not
abbrev pub rule_for : (low high : ℕ) → Absence → Bool → Rule
rule_for low high never curve = Needed low high
rule_for low high no_number curve = Optional low high
rule_for low high (usual d) curve = Default low high d
rule_for low high (on_curve absence) curve = cond curve (rule_for low high absence curve) Lacking

abbrev pub rule_at : Bool → Field → Rule
rule_at curve lacked = Lacking
rule_at curve (field value low high absence) = rule_for low high absence curve

-- the rules of a kind by bit number, and how many bits it has
abbrev pub rules_of_bit : (sight : Bool) (kind : ℕ) (curve : Bool) → ℕ → Rule
rules_of_bit sight kind curve b = rule_at curve (field_at (rows_by sight kind) b)

abbrev pub rules_at : (edition kind : ℕ) (curve : Bool) → ℕ → Rule
rules_at edition kind curve = rules_of_bit (has_sight edition) kind curve

abbrev pub bits_held : ℕ → ℕ
bits_held zero = 15
bits_held (suc kind) = 7

rule_for_bit : (low high : ℕ) (absence : Absence) (curve : Bool) → bits (rule_for low high absence curve) ≡ 1
rule_for_bit low high never curve = refl
rule_for_bit low high no_number curve = refl
rule_for_bit low high (usual d) curve = refl
rule_for_bit low high (on_curve absence) true = rule_for_bit low high absence true
rule_for_bit low high (on_curve absence) false = refl

rule_at_bit : (curve : Bool) (x : Field) → bits (rule_at curve x) ≡ 1
rule_at_bit curve lacked = refl
rule_at_bit curve (field value low high absence) = rule_for_bit low high absence curve

pub each_has_bit : (edition kind : ℕ) (curve : Bool) → EachHasBit (rules_at edition kind curve)
each_has_bit edition kind curve b = rule_at_bit curve (field_at (rows_of edition kind) b)

-- a kind lacks every bit past its own
unfoldable below_all : ℕ → List Row → Bool
below_all most [] = true
below_all most (bit n x ∷ rows) = ltb n most && below_all most rows

past_all : (rows : List Row) (most b : ℕ) → below_all most rows ≡ true → most ≤ b → field_at rows b ≡ lacked
unfolding field_at below_all
past_all [] most b e h = refl
past_all (bit n x ∷ rows) most b e h =
    let l = ltb-true n most (and_left (ltb n most) _ e) in
    rw (ne_eqb b n (λ q. omega arith)) (past_all rows most b (and_right (ltb n most) _ e) h)

pub lacked_past : (edition kind b : ℕ) → bits_held kind ≤ b → field_at (rows_of edition kind) b ≡ lacked
unfolding below_all
lacked_past edition zero b h = past_all (rows_of edition 0) 15 b refl h
lacked_past edition (suc zero) b h = past_all (rows_of edition 1) 7 b refl h
lacked_past edition (suc (suc zero)) b h = past_all (rows_of edition 2) 7 b refl h
lacked_past edition (suc (suc (suc kind))) b h = past_all (rows_of edition 3) 7 b refl h

-- so a bit that it does not lack is one of its own
pub among : (edition kind b : ℕ) → (field_at (rows_of edition kind) b ≡ lacked → ⊥) → b < bits_held kind
among edition kind b has = lt_of_not-le (λ h. has (lacked_past edition kind b h))

-- the rules of a kind and a map, told by bit number
pub record ByBits (edition : ℕ) (kind map : ℕ) (s : List ℕ) : Type 0 where
  pub lack : lacks (rules_read edition kind map) map ≡ lacks (listed (rules_at edition kind true) (bits_held kind)) map
  pub count : words (rules_read edition kind map) map ≡ words (listed (rules_at edition kind true) (bits_held kind)) map
  pub number : fields_number (rules_read edition kind map) map s ≡ fields_number (listed (rules_at edition kind true) (bits_held kind)) map s

pub lacked_bits_lem : (edition kind : ℕ) → kind ≤ last_kind → lacked_from (rows_of edition kind) 0 map_bits ≡ lacked_bits edition kind
unfolding field_at lacked_from
lacked_bits_lem = by_rules (λ sight kind. lacked_from (rows_by sight kind) 0 map_bits ≡ lacked_of sight kind) (λ sight. refl) refl refl refl refl (λ sight. refl)

-- a field's rule on a curve: the kind does not lack it, it takes the numbers in its range, and its default is what its absence says
pub record RuleTells (low high : ℕ) (absence : Absence) : Type 0 where
  pub has : lacking (rule_for low high absence true) ≡ false
  pub allowed : (number : ℕ) → allows (rule_for low high absence true) number ≡ inside low high number
  pub held : (number : ℕ) → holds (absent_of (rule_for low high absence true)) number ≡ is_usual absence number

-- the refusal of a number at a field: 8, then 9, or 0
abbrev pub wrong_number : Field → ℕ → ℕ
wrong_number x number = cond (in_range x number) (cond (spells_default x number) 9 0) 8
