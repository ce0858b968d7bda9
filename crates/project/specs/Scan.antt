-- The scan finds the first cause that the bytes show, and accepts a file exactly when there is none.
use Rattle.std.specs.Prelude.{Ok}
use Rattle.site.specs.Refusals.{refusal}
use Rattle.std.specs.Prelude.{◌≡◌, true, List}
use Rattle.std.proofs.Common.{ap, sym, ◌∙◌, eq-eqb, ne_eqb}
use Prim.Native.Nat.{ℕ}
use Rattle.laws.specs.Truth.{and_left}
use Rattle.site.specs.declared.values.Site.{Site}
use Rattle.site.specs.Rules.{years_known}
use Rattle.site.specs.Answers.{read_number}
use Rattle.site.specs.Record.{refusal_of, read_site}
use Rattle.site.specs.Accepted.{number_read}
use Rattle.header.specs.Header.{edition_in, header_length, count_in, in_limits, header_number}
use Rattle.header.specs.Causes.{HeaderAccepted}
use Rattle.header.proofs.HeaderLaws.{accepted_admitted}
use Rattle.project.specs.File.{years_in, refused_at, scan_records, scan_file}

-- an accepted header has years that the site reader takes: no record of the file is refused with 4
pub years_known_lem : (s : List ℕ) → HeaderAccepted s → years_known (years_in s) ≡ true
unfolding in_limits
years_known_lem s a = and_left (years_known (years_in s)) _ (accepted_admitted s a).limits

pub read_zero : (edition years : ℕ) (x : List ℕ) (value : Site) (n : ℕ) → read_site edition years x ≡ Ok (value, n) → refusal_of edition years x ≡ 0
read_zero edition years x value n e = sym (number_read edition years x) ∙ ap read_number e

-- where the header is accepted, a scan of the file is one of its records
pub scan_past_header : (s : List ℕ) → header_number s ≡ 0 → scan_file s ≡ scan_records (edition_in s) (years_in s) (count_in s) (count_in s) header_length s
unfolding scan_file
scan_past_header s e = rw (eq-eqb (header_number s) 0 e)

pub scan_header : (s : List ℕ) → (header_number s ≡ 0 → ⊥) → scan_file s ≡ refused_at (refusal (header_number s)) 0
unfolding scan_file
scan_header s ne = rw (ne_eqb (header_number s) 0 ne)
