-- The project file: its records one after another, and what a scan of its bytes answers.
use Rattle.std.specs.Prelude.{Result, Ok, Err}
use Rattle.site.specs.declared.refusal.Refusal.{Refusal}
use Rattle.site.specs.declared.refusal.Refusal.TheVariants as refused
use Rattle.site.specs.Refusals.{refusal}
use Rattle.project.specs.declared.Refused.{Refused}
use Rattle.std.specs.Prelude.{ℕ, zero, suc, ◌+◌, cond, List, [], ◌∷◌, length, drop, ltb, eqb}
use Rattle.site.specs.declared.values.Site.{Site}
use Rattle.site.specs.Answers.{read_value}
use Rattle.site.specs.Record.{read_site}
use Rattle.header.specs.Header.{edition_in, header_length, header_in, count_in, header_number}

-- "Byte 1: years Y", which are handed to the site reader with each record, after the edition
abbrev pub years_in : List ℕ → ℕ
years_in s = (header_in s).years

-- a refusal at a place of the file
abbrev pub refused_at : Refusal → ℕ → Result ℕ Refused
refused_at refusal place = Err (record { refusal = refusal; place = place })

-- "Each record is handed to the site reader as the part that starts at its kind byte .. the project reader adds the part's
-- start to the place": what follows the record at a place
abbrev pub after_record : (at : ℕ) → Result (Site × ℕ) Refusal → (ℕ → Result ℕ Refused) → Result ℕ Refused
after_record at (Err refusal) k = refused_at refusal (at + read_value (Err refusal))
after_record at (Ok (site, n)) k = k (at + n)

-- "each record in turn .. last 2": the records that are left, from a place on, and then "bytes after the last record"
unfoldable pub scan_records : (edition years sites left at : ℕ) → List ℕ → Result ℕ Refused
scan_records edition years sites zero at s = cond (ltb at (length s)) (refused_at refused.BytesAfter at) (Ok sites)
scan_records edition years sites (suc left) at s = after_record at (read_site edition years (drop at s)) (λ next. scan_records edition years sites left next s)

-- what a scan answers: the count of sites, or the refusal that has document 01's number, 1 to 9, and its place
unfoldable pub scan_file : List ℕ → Result ℕ Refused
scan_file s = cond (eqb (header_number s) 0) (scan_records (edition_in s) (years_in s) (count_in s) (count_in s) header_length s) (refused_at (refusal (header_number s)) 0)

-- the sites of a file, in their order
abbrev pub taken : (at : ℕ) → Result (Site × ℕ) Refusal → (ℕ → List Site) → List Site
taken at (Err refusal) k = []
taken at (Ok (site, n)) k = site ∷ k (at + n)

unfoldable pub sites_from : (edition years left at : ℕ) → List ℕ → List Site
sites_from edition years zero at s = []
sites_from edition years (suc left) at s = taken at (read_site edition years (drop at s)) (λ next. sites_from edition years left next s)

unfoldable pub sites_in : List ℕ → List Site
sites_in s = sites_from (edition_in s) (years_in s) (count_in s) header_length s
