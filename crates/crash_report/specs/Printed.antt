-- What the program prints for a file, and that the bytes past the longest file bear on none of it.
use Rattle.site.specs.Refusals.{number_of}
use Rattle.std.specs.Prelude.{Result, Ok, Err}
use Rattle.project.specs.declared.Refused.{Refused}
use Rattle.std.specs.Prelude.{ℕ, ◌+◌, ◌*◌, ◌<◌, ◌≤◌, ◌≡◌, refl, Bool, true, false, List, length, take, drop, leb}
use Rattle.std.proofs.Common.{sym, ap, ◌∙◌, arith, take_at, take_all, le-leb, leb-true, leb-false}
use Rattle.std.proofs.Math.Seq.{length-sets}
use Rattle.header.specs.Header.{header_length, edition_in, most_sites}
use Rattle.site.specs.Theorems.{longest}
use Rattle.site.proofs.Theorems.{read_length}
use Rattle.project.specs.File.{years_in, scan_file}
use Rattle.project.specs.Causes.{Starts, first, next, report_length}
use Rattle.project.proofs.ScanLaws.{accepted_exactly}
use Rattle.project.proofs.SitesRead.{accepted_sites}
use Rattle.project.specs.Prefix.{longest_file}
use Rattle.project.proofs.ScanPrefix.{scan_prefix}
use Rattle.report.specs.Report.{report_numbers, lines_in, project_answer, report_after}
use Rattle.report.specs.Demand.{ReportsProject}
use Rattle.report.specs.Accepted.{length_report}
use Rattle.report.proofs.Accepted.{count_lines}
use Rattle.report_text.specs.Text.{report_text, refusal_text}
use Rattle.laws.specs.Stores.{Puts, puts_start}

-- one byte more than the longest file
abbrev pub input_room : ℕ
input_room = longest_file + 1

-- the numbers of the longest report, and the bytes of its text: a number takes at most 20 and the one that ends it
abbrev pub report_room : ℕ
report_room = report_length most_sites

abbrev pub text_room : ℕ
text_room = 21 * report_room

-- the report of an accepted file, or the line of a refusal
abbrev pub answer_text : Result ℕ Refused → (numbers : List ℕ) → List ℕ
answer_text (Ok sites) numbers = report_text numbers
answer_text (Err refused) numbers = refusal_text (number_of refused.refusal) refused.place

-- WHAT IS PRINTED for a file
unfoldable pub project_text : List ℕ → List ℕ
project_text s = answer_text (scan_file s) (report_numbers (lines_in s))

-- a buffer that starts with a text
pub record StartsWith (text : List ℕ) (n : ℕ) (buffer : List ℕ) : Type 0 where
  pub within : n ≤ length buffer
  pub long : n ≡ length (take n buffer)
  pub starts : take n buffer ≡ text

-- a text that was stored from the start
starts_with : {before after text : List ℕ} {place : ℕ} → Puts before 0 text place after → place ≤ length before → StartsWith text place after
starts_with {before} {after} {text} {place} p h =
    let e = puts_start p h in
    record {
      within = omega (arith, ap length p.stored, length-sets before 0 text);
      long = omega (arith, p.place_is, ap length e);
      starts = e;
    }

-- a report that was made is the report of an accepted file
pub record Made (s after : List ℕ) (count : ℕ) : Type 0 where
  pub sites : ℕ
  pub accepted : scan_file s ≡ Ok sites
  pub few : count ≤ report_room
  pub starts : take count after ≡ report_numbers (lines_in s)

pub made : (s before after : List ℕ) {answer : Result ℕ Refused} {count : ℕ} → length before ≡ report_room
    → ReportsProject s before after answer → answer ≡ Ok count → Made s after count
unfolding project_answer report_after
made s before after {answer} {count} l told reported = by (scan_file s) refl
  where
    by : (x : Result ℕ Refused) → scan_file s ≡ x → Made s after count
    by (Err refused) q = let e = told.answer_is in let z : ◌≡◌ {A = ℕ} 0 1 = cc in absurd (omega arith)
    by (Ok n) q =
        let facts = accepted_sites s n q in
        let fits = le-leb (report_length n) (length before) (omega (arith, facts.few)) in
        let numbers = report_numbers (lines_in s) in
        let is : count ≡ report_length n = same (sym reported ∙ told.answer_is ∙ rw (q, fits) refl) in
        let long : length numbers ≡ count = length_report (lines_in s) ∙ ap report_length (count_lines s n q) ∙ sym is in
        record {
          sites = n;
          accepted = q;
          few = omega (arith, facts.few);
          starts = ap (take count) (told.report_is ∙ rw (q, fits) refl) ∙ take_at numbers (drop (length numbers) before) count long;
        }
      where
        same : ◌≡◌ {A = Result ℕ Refused} (Ok count) (Ok (report_length n)) → count ≡ report_length n
        same h = cc

pub report_printed : (s after text out : List ℕ) (count place : ℕ) → Made s after count
    → Puts text 0 (report_text (take count after)) place out × (place ≤ length text) → StartsWith (project_text s) place out
unfolding project_text
report_printed s after text out count place m p = rw (m.accepted, ← m.starts) (starts_with p.0 p.1)

pub refusal_printed : (s text out : List ℕ) (room place : ℕ) {answer : Result ℕ Refused} {r : Refused} → room ≡ report_room
    → answer ≡ project_answer s room → answer ≡ Err r → Puts text 0 (refusal_text (number_of r.refusal) r.place) place out × (place ≤ length text)
    → StartsWith (project_text s) place out
unfolding project_text project_answer
refusal_printed s text out room place {answer} {r} l e refused p = by (scan_file s) refl
  where
    by : (x : Result ℕ Refused) → scan_file s ≡ x → StartsWith (answer_text (scan_file s) (report_numbers (lines_in s))) place out
    by (Err q) z =
        let is : r ≡ q = cc in
        rw (z, ← is) (starts_with p.0 p.1)
    by (Ok n) z =
        let few = (accepted_sites s n z).few in
        let fits = le-leb (report_length n) room (omega arith) in
        let f : ◌≡◌ {A = ℕ} 0 1 = cc in
        absurd (omega arith)

-- an accepted file is no longer than the longest
starts_near : {s : List ℕ} {i p : ℕ} → Starts s i p → p ≤ header_length + i * longest
starts_near first = omega arith
starts_near {s} (next {i} {p} {n} {value} r e) = omega (arith, starts_near r, (read_length (edition_in s) (years_in s) (drop p s) value n e).at_most)

accepted_short : (s : List ℕ) (n : ℕ) → scan_file s ≡ Ok n → length s ≤ longest_file
accepted_short s n e = omega (arith, (accepted_sites s n e).few, starts_near ((accepted_exactly s n).0 e).ends)

long_printed : (s : List ℕ) → longest_file < length s → (x : Result ℕ Refused) → scan_file s ≡ x → project_text (take (longest_file + 1) s) ≡ project_text s
unfolding project_text
long_printed s h (Err refused) q = rw (scan_prefix s, q) refl
long_printed s h (Ok n) q = absurd (omega (arith, accepted_short s n q))

-- THE PREFIX THAT IS READ tells what is printed
pub prefix_printed : (s : List ℕ) → project_text (take input_room s) ≡ project_text s
prefix_printed s = by (leb (length s) (longest_file + 1)) refl
  where
    by : (b : Bool) → leb (length s) (longest_file + 1) ≡ b → project_text (take (longest_file + 1) s) ≡ project_text s
    by true e = ap project_text (take_all (longest_file + 1) s (leb-true (length s) (longest_file + 1) e))
    by false e = long_printed s (omega (arith, leb-false (length s) (longest_file + 1) e)) (scan_file s) refl
