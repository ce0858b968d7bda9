-- Document 01's limits of a header, its causes to refuse one, and their order. Each is found in the bytes by their numbers and in document
-- 01's figures, apart from any test: of the definitions in Header nothing is used here.
use Rattle.std.specs.Prelude.{◌≡◌, List, ◌⊎◌, ℕ, ◌+◌, ◌*◌, ◌<◌, ◌≤◌, length}
use Rattle.header.specs.declared.Header.{Header}
use Rattle.header.specs.Layout.{byte}

-- "years Y, 1 to 10 .. segment calibration, 1 to 9,999 thousandths .. the same for crossings"
pub record ValuesWithin (years segments crossings : ℕ) : Type 0 where
  pub years_least : 1 ≤ years
  pub years_most : years ≤ 10
  pub segments_least : 1 ≤ segments
  pub segments_most : segments ≤ 9999
  pub crossings_least : 1 ≤ crossings
  pub crossings_most : crossings ≤ 9999

-- of values that a caller hands over
abbrev pub HeaderWithin : Header → Type 0
HeaderWithin header = ValuesWithin header.years header.segments header.crossings

-- of the bytes: "Byte 1 .. Bytes 2-3 .. Bytes 4-5 .. Bytes 6-7: sites", of which document 02, request 3: "The limit becomes 1,200"
pub record WithinLimits (s : List ℕ) : Type 0 where
  pub values : ValuesWithin (byte s 1) (256 * byte s 2 + byte s 3) (256 * byte s 4 + byte s 5)
  pub few : 256 * byte s 6 + byte s 7 ≤ 1200

-- document 02, request 6, "neither 1 nor 2": 3, at "place 0"
pub record EditionNot (s : List ℕ) (p : ℕ) : Type 0 where
  pub place_is : p ≡ 0
  pub there : 0 < length s
  pub not_one : byte s 0 ≡ 1 → ⊥
  pub not_two : byte s 0 ≡ 2 → ⊥

-- "years, calibration or sites outside limits": 4, at "place 0"
pub record OutsideLimits (s : List ℕ) (p : ℕ) : Type 0 where
  pub place_is : p ≡ 0
  pub there : 8 ≤ length s
  pub outside : WithinLimits s → ⊥

-- "Order: header 1, 3, 4": fewer than eight bytes; else the edition; else, of an edition that is 1 or 2, the limits
pub data HeaderCause (s : List ℕ) : ℕ → Type 0 where
  header_cut : length s < 8 → HeaderCause s 1
  header_edition : 8 ≤ length s → EditionNot s 0 → HeaderCause s 3
  header_limits : (byte s 0 ≡ 1) ⊎ (byte s 0 ≡ 2) → OutsideLimits s 0 → HeaderCause s 4

-- a header in which none of these is found
pub record HeaderAccepted (s : List ℕ) : Type 0 where
  pub long : 8 ≤ length s
  pub edition : (byte s 0 ≡ 1) ⊎ (byte s 0 ≡ 2)
  pub limits : WithinLimits s
