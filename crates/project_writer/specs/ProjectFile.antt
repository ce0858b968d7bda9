-- Wish 1: "A list of sites is lent, with header values and a byte buffer. The list's length is the header's count of sites."
use Rattle.std.specs.Prelude.{Result, Ok, Err}
use Rattle.std.specs.Prelude.{ℕ, suc, cond, List, [], ◌∷◌, ◌++◌, length, leb, ltb}
use Rattle.laws.specs.Lent.{laid_over}
use Rattle.site.specs.declared.values.Site.{Site}
use Rattle.site.specs.Rules.{edition_known}
use Rattle.site.specs.Writing.{record_of, sound}
use Rattle.header.specs.declared.Header.{Header}
use Rattle.header.specs.Header.{header_bytes, admits}
use Rattle.project_writer.specs.declared.course.FileRefusal.{FileRefusal}
use Rattle.project_writer.specs.declared.course.FileRefusal.TheVariants.{EditionUnknown, OutsideLimits, OutsideRange, TooShort}

-- "Then that many records": those of the sites, in their order, by the rules of an edition
unfoldable pub records_of : (edition : ℕ) → List Site → List ℕ
records_of edition [] = []
records_of edition (site ∷ sites) = record_of edition site ++ records_of edition sites

-- the file of a header's values and a list of sites
unfoldable pub file_of : Header → List Site → List ℕ
file_of header sites = header_bytes header (length sites) ++ records_of header.edition sites

-- "8 has the site's index, from 0, as its place": the sites before the first that is outside its range, all of them where none is
unfoldable pub sound_sites : (edition years : ℕ) → List Site → ℕ
sound_sites edition years [] = 0
sound_sites edition years (site ∷ sites) = cond (sound edition years site) (suc (sound_sites edition years sites)) 0

-- "3 now means neither 1 nor 2, which the project writer tries first"; then "Header limits are tried first, then each site, then the
-- space": the answer where the buffer has so much room
unfoldable pub file_answer : Header → List Site → (room : ℕ) → Result ℕ FileRefusal
file_answer header sites room =
    cond (edition_known header.edition)
    (cond (admits header (length sites))
    (cond (ltb (sound_sites header.edition header.years sites) (length sites)) (Err (OutsideRange (sound_sites header.edition header.years sites)))
    (cond (leb (length (file_of header sites)) room) (Ok (length (file_of header sites))) (Err TooShort)))
    (Err OutsideLimits))
    (Err EditionUnknown)

-- "Numbers 4, 8 and 10 serve here", and 3; 0 for a file that is written
abbrev pub file_number : Result ℕ FileRefusal → ℕ
file_number (Ok n) = 0
file_number (Err EditionUnknown) = 3
file_number (Err OutsideLimits) = 4
file_number (Err (OutsideRange index)) = 8
file_number (Err TooShort) = 10

-- "8 has the site's index .. and the other two have 0", 3 too: "place 0"; the count of bytes with 0
abbrev pub file_value : Result ℕ FileRefusal → ℕ
file_value (Ok n) = n
file_value (Err EditionUnknown) = 0
file_value (Err OutsideLimits) = 0
file_value (Err (OutsideRange index)) = index
file_value (Err TooShort) = 0

-- "The file comes out complete, or nothing is written": the buffer afterwards
abbrev pub leaves : Result ℕ FileRefusal → (file before : List ℕ) → List ℕ
leaves (Ok n) file before = laid_over file before
leaves (Err EditionUnknown) file before = before
leaves (Err OutsideLimits) file before = before
leaves (Err (OutsideRange index)) file before = before
leaves (Err TooShort) file before = before

unfoldable pub buffer_after : Header → List Site → (before : List ℕ) → List ℕ
buffer_after header sites before = leaves (file_answer header sites (length before)) (file_of header sites) before
