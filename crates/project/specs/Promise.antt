-- Document 01's number and value for each case of a scan's answer, and what the scan promises with them.
use Rattle.std.specs.Prelude.{Result, Ok, Err}
use Rattle.site.specs.Refusals.{number_of}
use Rattle.project.specs.declared.Refused.{Refused}
use Rattle.std.specs.Prelude.{◌≡◌, List, ℕ}
use Rattle.project.specs.File.{scan_file}
use Rattle.project.specs.Causes.{FirstInBytes, Whole}

-- 0 for a file that is accepted
abbrev pub scan_number : Result ℕ Refused → ℕ
scan_number (Ok sites) = 0
scan_number (Err refused) = number_of refused.refusal

-- the count of sites, or the refusal's place
abbrev pub scan_value : Result ℕ Refused → ℕ
scan_value (Ok sites) = sites
scan_value (Err refused) = refused.place

-- a file is accepted where it is a header and as many records as that says, and refused for the first cause that its bytes show
abbrev pub ScanTells : List ℕ → Result ℕ Refused → Type 0
ScanTells s (Ok sites) = (scan_number (Ok sites) ≡ 0) × Whole s (scan_value (Ok sites))
ScanTells s (Err refused) = FirstInBytes s (scan_number (Err refused)) (scan_value (Err refused))

pub record ScansFile (s : List ℕ) (answer : Result ℕ Refused) : Type 0 where
  pub answer_is : answer ≡ scan_file s
  pub tells : ScanTells s answer
