-- Why the project writer answers as it does: what is so of the header's values, the sites and the space.
use Rattle.std.specs.Prelude.{◌≡◌, true, List, ℕ, ◌<◌, ◌≤◌, length, get_or}
use Rattle.site.specs.declared.values.Site.{Site}
use Rattle.site.specs.Rules.{edition_known}
use Rattle.site.specs.Writing.{Valid}
use Rattle.header.specs.declared.Header.{Header}
use Rattle.header.specs.Causes.{HeaderWithin}
use Rattle.project_writer.specs.ProjectFile.{file_of}

-- "Header limits": of years, calibrations and, "The limit becomes 1,200", sites
abbrev pub LimitsKept : Header → List Site → Type 0
LimitsKept header sites = HeaderWithin header × (length sites ≤ 1200)

-- the sites before an index are valid in a project of an edition and of so many years
abbrev pub ValidBelow : (edition years : ℕ) → List Site → ℕ → Type 0
ValidBelow edition years sites n = (i : ℕ) (d : Site) → i < n → Valid edition years (get_or sites i d)

-- "8 has the site's index, from 0, as its place": the first site that is outside its range
pub record FirstOutside (edition years : ℕ) (sites : List Site) (index : ℕ) : Type 0 where
  pub within : index < length sites
  pub earlier : ValidBelow edition years sites index
  pub outside : (d : Site) → Valid edition years (get_or sites index d) → ⊥

-- neither the edition nor limits nor a site forbid the file
pub record Writable (header : Header) (sites : List Site) : Type 0 where
  pub edition : edition_known header.edition ≡ true
  pub limits : LimitsKept header sites
  pub valid : ValidBelow header.edition header.years sites (length sites)

-- "3 now means neither 1 nor 2, which the project writer tries first"; "Header limits are tried first, then each site, then the space":
-- each number and its place, or 0 and the count of bytes, with what is so of them
pub data FileCause (header : Header) (sites : List Site) (room : ℕ) : (number value : ℕ) → Type 0 where
  edition_neither : (header.edition ≡ 1 → ⊥) → (header.edition ≡ 2 → ⊥) → FileCause header sites room 3 0
  limits_broken : edition_known header.edition ≡ true → (LimitsKept header sites → ⊥) → FileCause header sites room 4 0
  site_outside : {index : ℕ} → edition_known header.edition ≡ true → LimitsKept header sites → FirstOutside header.edition header.years sites index
      → FileCause header sites room 8 index
  space_short : Writable header sites → room < length (file_of header sites) → FileCause header sites room 10 0
  file_fits : Writable header sites → length (file_of header sites) ≤ room → FileCause header sites room 0 (length (file_of header sites))
