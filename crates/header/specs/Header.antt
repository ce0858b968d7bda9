-- The header of a project file as the code follows it: its values, the tests of their limits, its bytes and its refusals. Layout and Causes
-- state the same by byte number.
use Rattle.std.specs.Prelude.{ℕ, Bool, cond, ◌&&◌, List, ◌∷◌, ◌++◌, length, get_or, drop, ltb, leb}
use Rattle.site.specs.Rules.{inside, edition_known, years_known}
use Rattle.site.specs.Record.{word}
use Rattle.site.specs.Writing.{two_bytes}
use Rattle.header.specs.declared.Header.{Header}

-- "Byte 0: edition .. Byte 1: years Y .. Bytes 2-3: segment calibration .. Bytes 4-5: the same for crossings. Bytes 6-7: sites"
abbrev pub header_length : ℕ
header_length = 8

abbrev pub edition_in : List ℕ → ℕ
edition_in s = get_or s 0 0

-- what holds for every site: edition, years, and calibrations in thousandths
abbrev pub header_of : (edition years segments crossings : ℕ) → Header
header_of edition years segments crossings = record { edition = edition; years = years; segments = segments; crossings = crossings }

abbrev pub header_in : List ℕ → Header
header_in s = header_of (edition_in s) (get_or s 1 0) (word (drop 2 s)) (word (drop 4 s))

abbrev pub count_in : List ℕ → ℕ
count_in s = word (drop 6 s)

-- "segment calibration, 1 to 9,999 thousandths .. the same for crossings"
abbrev pub most_calibration : ℕ
most_calibration = 9999

-- "sites, 0 to 1,900", which document 02, request 3, amends: "The limit becomes 1,200"
abbrev pub most_sites : ℕ
most_sites = 1200

-- years and both calibrations within their limits
unfoldable pub in_limits : Header → Bool
in_limits header = years_known header.years && (inside 1 most_calibration header.segments && inside 1 most_calibration header.crossings)

-- and the count of sites
abbrev pub admits : Header → (sites : ℕ) → Bool
admits header sites = in_limits header && leb sites most_sites

-- what is written of a header's values and the count of sites
abbrev pub header_bytes : Header → (sites : ℕ) → List ℕ
header_bytes header sites = header.edition ∷ header.years ∷ (two_bytes header.segments ++ two_bytes header.crossings ++ two_bytes sites)

-- "header 1, 3, 4": the first refusal of the header, or 0; document 02, request 6: "3 now means neither 1 nor 2"
unfoldable pub header_number : List ℕ → ℕ
header_number s =
    cond (ltb (length s) header_length) 1
    (cond (edition_known (edition_in s))
    (cond (admits (header_in s) (count_in s)) 0 4)
    3)
