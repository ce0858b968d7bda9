-- Document 01's causes to refuse a project, each found in the bytes apart from any scan, and their order.
use Rattle.std.specs.Prelude.{Ok}
use Rattle.std.specs.Prelude.{◌≡◌, List, ℕ, zero, suc, ◌+◌, ◌*◌, ◌<◌, length, drop}
use Rattle.site.specs.declared.values.Site.{Site}
use Rattle.site.specs.Record.{read_site}
use Rattle.site.specs.RecordCauses.{RecordCause}
use Rattle.header.specs.Header.{edition_in, header_length, count_in}
use Rattle.header.specs.Causes.{EditionNot, OutsideLimits, HeaderCause, HeaderAccepted}
use Rattle.project.specs.File.{years_in}

-- the record with an index starts at a place: the first after the header, each other after a record that can be read
pub data Starts (s : List ℕ) : ℕ → ℕ → Type 0 where
  first : Starts s zero header_length
  next : {i p n : ℕ} {value : Site} → Starts s i p → read_site (edition_in s) (years_in s) (drop p s) ≡ Ok (value, n) → Starts s (suc i) (p + n)

-- a record that the header counts starts at a place, and the number's cause is the first in the bytes from there
pub record RecordNumber (s : List ℕ) (number p : ℕ) : Type 0 where
  pub index : ℕ
  pub counted : index < count_in s
  pub starts : Starts s index p
  pub cause : RecordCause (edition_in s) (years_in s) (drop p s) number

-- "header, kind, map or field runs past the end": 1, at 0 for the header. A year's traffic too: "a missing value is 1"
pub data RunsPast (s : List ℕ) : ℕ → Type 0 where
  header_past : length s < 8 → RunsPast s 0
  record_past : {p : ℕ} → RecordNumber s 1 p → RunsPast s p

-- "bytes after the last record": 2, at the "place of the first"
pub record BytesAfter (s : List ℕ) (p : ℕ) : Type 0 where
  pub starts : Starts s (count_in s) p
  pub more : p < length s

-- "kind above 3": 5
abbrev pub KindAbove : List ℕ → ℕ → Type 0
KindAbove s p = RecordNumber s 5 p

-- "bit the kind lacks": 6
abbrev pub BitLacked : List ℕ → ℕ → Type 0
BitLacked s p = RecordNumber s 6 p

-- "needed bit absent, or curve bits unmatched": 7. "Bit 15 with Y = 1 is refused with 7"
abbrev pub BitMissing : List ℕ → ℕ → Type 0
BitMissing s p = RecordNumber s 7 p

-- "field outside its range": 8
abbrev pub OutsideRange : List ℕ → ℕ → Type 0
OutsideRange s p = RecordNumber s 8 p

-- "default spelled out": 9
abbrev pub DefaultSpelled : List ℕ → ℕ → Type 0
DefaultSpelled s p = RecordNumber s 9 p

-- "Success returns 0 and 4(sites + 1)"
abbrev pub report_length : ℕ → ℕ
report_length sites = 4 * (sites + 1)

-- "report under 4(sites + 1) numbers": 10, at "place 0"; the room is the report's numbers
pub record TooShort (s : List ℕ) (room p : ℕ) : Type 0 where
  pub place_is : p ≡ 0
  pub short : room < report_length (count_in s)

-- "a project is accepted when no cause in the table below is found in it or its report"
pub record NoCause (s : List ℕ) (room : ℕ) : Type 0 where
  pub none_past : (p : ℕ) → RunsPast s p → ⊥
  pub none_after : (p : ℕ) → BytesAfter s p → ⊥
  pub edition_right : (p : ℕ) → EditionNot s p → ⊥
  pub limits_kept : (p : ℕ) → OutsideLimits s p → ⊥
  pub kinds_known : (p : ℕ) → KindAbove s p → ⊥
  pub none_lacked : (p : ℕ) → BitLacked s p → ⊥
  pub none_missing : (p : ℕ) → BitMissing s p → ⊥
  pub ranges_kept : (p : ℕ) → OutsideRange s p → ⊥
  pub none_spelled : (p : ℕ) → DefaultSpelled s p → ⊥
  pub report_suffices : (p : ℕ) → TooShort s room p → ⊥

-- "each record in turn .. last 2": the first cause that the bytes alone show. A record starts where those before it are read,
-- so the record that has a number is the first
pub data FirstInBytes (s : List ℕ) : ℕ → ℕ → Type 0 where
  in_header : {number : ℕ} → HeaderCause s number → FirstInBytes s number 0
  in_record : {number p : ℕ} → HeaderAccepted s → RecordNumber s number p → FirstInBytes s number p
  in_rest : {p : ℕ} → HeaderAccepted s → BytesAfter s p → FirstInBytes s 2 p

-- the bytes are a header and as many records as it says
pub record Whole (s : List ℕ) (n : ℕ) : Type 0 where
  pub header : HeaderAccepted s
  pub count_is : n ≡ count_in s
  pub ends : Starts s n (length s)

-- "then 10": the first cause of a file and a report
pub data FirstCause (s : List ℕ) (room : ℕ) : ℕ → ℕ → Type 0 where
  in_bytes : {number p : ℕ} → FirstInBytes s number p → FirstCause s room number p
  in_report : Whole s (count_in s) → TooShort s room 0 → FirstCause s room 10 0
