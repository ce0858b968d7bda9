-- Document 01's header by the numbers of its bytes, apart from how it is read and written: which value stands in which byte.
-- `header_by_bytes` of HeaderLaws and `bytes_by_header` of HeaderBytes tie reading and writing to it, and `header_of_values` of
-- HeaderLaws the calls that take a header's values.
use Rattle.std.specs.Prelude.{◌≡◌, List, ℕ, ◌+◌, ◌*◌, ◌/◌, ◌%◌, length, get_or}
use Rattle.header.specs.declared.Header.{Header}

-- a byte by its number, from 0
abbrev pub byte : List ℕ → ℕ → ℕ
byte s n = get_or s n 0

-- what the bytes say; "Two-byte numbers are unsigned, high byte first"
pub record HeaderByBytes (s : List ℕ) (header : Header) (sites : ℕ) : Type 0 where
  -- "Byte 0: edition"
  pub edition_is : header.edition ≡ byte s 0
  -- "Byte 1: years Y"
  pub years_are : header.years ≡ byte s 1
  -- "Bytes 2-3: segment calibration"
  pub segments_are : header.segments ≡ 256 * byte s 2 + byte s 3
  -- "Bytes 4-5: the same for crossings"
  pub crossings_are : header.crossings ≡ 256 * byte s 4 + byte s 5
  -- "Bytes 6-7: sites"
  pub sites_are : sites ≡ 256 * byte s 6 + byte s 7

-- and the bytes that say it
pub record BytesByHeader (header : Header) (sites : ℕ) (s : List ℕ) : Type 0 where
  pub eight : length s ≡ 8
  pub byte_0 : byte s 0 ≡ header.edition
  pub byte_1 : byte s 1 ≡ header.years
  pub byte_2 : byte s 2 ≡ header.segments / 256
  pub byte_3 : byte s 3 ≡ header.segments % 256
  pub byte_4 : byte s 4 ≡ header.crossings / 256
  pub byte_5 : byte s 5 ≡ header.crossings % 256
  pub byte_6 : byte s 6 ≡ sites / 256
  pub byte_7 : byte s 7 ≡ sites % 256

-- and a header of four values that are handed over, in this order
pub record HeaderOfValues (edition years segments crossings : ℕ) (header : Header) : Type 0 where
  pub edition_is : header.edition ≡ edition
  pub years_are : header.years ≡ years
  pub segments_are : header.segments ≡ segments
  pub crossings_are : header.crossings ≡ crossings
