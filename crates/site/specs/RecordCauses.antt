-- Document 01's causes to refuse the bytes that a record starts, 3 of the edition and 4 of the years, then 1 and 5 to 9, in its own words
-- and order and by bit number.
-- The site reader has a number for them exactly where that cause is the first.
use Rattle.std.proofs.Math.Path.{◌≡◌}
use Rattle.std.specs.Prelude.{Bool, true, false, ◌&&◌, not, List, ℕ, ◌<◌, ◌≤◌, length, eqb}
use Rattle.site.specs.Rules.{last_kind, edition_known, years_known}
use Rattle.site.specs.Record.{kind_in, map_in, field_map_in}
use Rattle.site.specs.Fields.{lacked, field_in, bit_at, numbers_in, value_at, number_at, fields_end, in_range}
use Rattle.site.specs.Fields.{spells_default}
use Rattle.site.specs.Accepted.{HeadPresent}
use Rattle.site.specs.Curve.{map_matched}

-- no bit stands that the kind lacks
abbrev pub NoneLacked : (edition : ℕ) → List ℕ → Type 0
NoneLacked edition s = (b : ℕ) → bit_at b (field_map_in s) ≡ true → field_in edition s b ≡ lacked → ⊥

-- nor is one missing: "Bits 0 and 1 always stand", the curve bits are matched, and "Bit 15 with Y = 1 is refused"
abbrev pub all_matched : (years : ℕ) → List ℕ → Bool
all_matched years s = map_matched (kind_in s) (field_map_in s) && not (bit_at 15 (map_in s) && eqb years 1)

pub record MapRight (edition years : ℕ) (s : List ℕ) : Type 0 where
  pub head : HeadPresent edition years s
  pub none_lacked : NoneLacked edition s
  pub all_matched : all_matched years s ≡ true

-- the numbers of a bit, "Each has the range of the first"
abbrev pub AllInRange : (edition years : ℕ) → List ℕ → ℕ → Type 0
AllInRange edition years s b = (i : ℕ) → i < numbers_in years s b → in_range (field_in edition s b) (value_at years b i s) ≡ true

-- "all fields present", and those that stand below a bit are in their range and spell no default out
pub record RightBelow (edition years : ℕ) (s : List ℕ) (b : ℕ) : Type 0 where
  pub map_right : MapRight edition years s
  pub present : fields_end years s ≤ length s
  pub in_range : (c : ℕ) → c < b → bit_at c (field_map_in s) ≡ true → AllInRange edition years s c
  pub not_spelled : (c : ℕ) → c < b → bit_at c (field_map_in s) ≡ true → spells_default (field_in edition s c) (number_at years c s) ≡ false

-- an edition or years "outside its limits is 3 or 4 .., tried first"; "kind and map present (1), 5, 6, 7, all fields present (1), then
-- field by field 8, 9"
pub data RecordCause (edition years : ℕ) (s : List ℕ) : ℕ → Type 0 where
  edition_neither : (edition ≡ 1 → ⊥) → (edition ≡ 2 → ⊥) → RecordCause edition years s 3
  years_outside : edition_known edition ≡ true → years_known years ≡ false → RecordCause edition years s 4
  map_past : edition_known edition ≡ true → years_known years ≡ true → length s < 3 → RecordCause edition years s 1
  kind_above : edition_known edition ≡ true → years_known years ≡ true → 3 ≤ length s → last_kind < kind_in s → RecordCause edition years s 5
  bit_lacked : HeadPresent edition years s → (b : ℕ) → bit_at b (field_map_in s) ≡ true → field_in edition s b ≡ lacked → RecordCause edition years s 6
  bit_missing : HeadPresent edition years s → NoneLacked edition s → all_matched years s ≡ false → RecordCause edition years s 7
  field_past : MapRight edition years s → length s < fields_end years s → RecordCause edition years s 1
  field_outside : (b i : ℕ) → RightBelow edition years s b → bit_at b (field_map_in s) ≡ true → i < numbers_in years s b
      → in_range (field_in edition s b) (value_at years b i s) ≡ false → RecordCause edition years s 8
  field_spelled : (b : ℕ) → RightBelow edition years s b → bit_at b (field_map_in s) ≡ true → AllInRange edition years s b
      → spells_default (field_in edition s b) (number_at years b s) ≡ true → RecordCause edition years s 9
