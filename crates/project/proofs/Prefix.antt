-- Laws of Prefix in specs/.
use Rattle.std.specs.Prelude.{Result, Ok, Err}
use Rattle.site.specs.declared.refusal.Refusal.{Refusal}
use Rattle.site.specs.Refusals.{refusal}
use Rattle.std.specs.Prelude.{◌≡◌, refl, Bool, true, false, List, ◌++◌, get_or, take, drop, leb, eqb}
use Rattle.std.proofs.Common.{ap, sym, ◌∙◌, length-drop, take-append-drop, take_all, length-take-le}
use Prim.Native.Nat.{ℕ, zero, suc, ◌+◌, ◌*◌, ◌<◌, ◌≤◌}
use native.Mathlib.Omega.{arith}
use Rattle.std.proofs.Math.ListN.{length, length-append, get_or-append}
use Rattle.std.proofs.lemmas.List.{drop-append-le}
use borrow.Author.Tests.{lt-ltb, le-ltb, leb-true, leb-false, eqb-true, eqb-false}
use Rattle.site.specs.declared.values.Site.{Site}
use Rattle.site.specs.Record.{word, read_site}
use Rattle.site.specs.BytesRead.{bears, past_nothing}
use Rattle.site.specs.Theorems.{longest, bears_most}
use Rattle.site.proofs.Theorems.{read_length}
use Rattle.header.specs.Header.{edition_in, header_length, count_in, most_sites, header_number}
use Rattle.header.proofs.HeaderLaws.{header_accepted, accepted_admitted}
use Rattle.project.specs.File.{years_in, refused_at, after_record, scan_records, scan_file}
use Rattle.project.specs.Scan.{scan_past_header, scan_header}
use Rattle.project.specs.Prefix.{longest_file}

-- two files that share their first bytes, one of which goes on
module _ (s t : List ℕ) (full : longest_file < length s) where
  same_record : (edition years i at : ℕ) → i < most_sites → at ≤ header_length + i * longest
      → read_site edition years (drop at (s ++ t)) ≡ read_site edition years (drop at s)
  same_record edition years i at h w =
      let a : at ≤ length s = omega arith in
      let l : longest ≤ length (drop at s) = omega (arith, length-drop at s) in
      let b : bears edition years (drop at s) ≤ length (drop at s) = omega (arith, bears_most edition years (drop at s)) in
      ap (read_site edition years) (drop-append-le at s t a) ∙ past_nothing edition years (drop at s) t b

  same_step : (edition years sites left at : ℕ) (answer : Result (Site × ℕ) Refusal)
      → ((value : Site) (n : ℕ) → answer ≡ Ok (value, n) → scan_records edition years sites left (at + n) (s ++ t) ≡ scan_records edition years sites left (at + n) s)
      → after_record at answer (λ next. scan_records edition years sites left next (s ++ t)) ≡ after_record at answer (λ next. scan_records edition years sites left next s)
  same_step edition years sites left at (Err refusal) later = refl
  same_step edition years sites left at (Ok (value, n)) later = later value n refl

  same_records : (edition years sites left i at : ℕ) → i + left ≤ most_sites → at ≤ header_length + i * longest
      → scan_records edition years sites left at (s ++ t) ≡ scan_records edition years sites left at s
  unfolding scan_records
  same_records edition years sites zero i at h w =
      let a : at < length s = omega arith in
      let b : at < length (s ++ t) = omega (arith, length-append s t) in
      rw (lt-ltb at (length s) a, lt-ltb at (length (s ++ t)) b)
  same_records edition years sites (suc left) i at h w =
      let r = same_record edition years i at (omega arith) w in
      rw r
      (same_step edition years sites left at (read_site edition years (drop at s))
      (λ value n e. same_records edition years sites left (suc i) (at + n) (omega arith) (omega (arith, (read_length edition years (drop at s) value n e).at_most))))

  same_word : (k : ℕ) → k < header_length → word (drop k (s ++ t)) ≡ word (drop k s)
  same_word k h =
      let a : k ≤ length s = omega arith in
      let b : 0 < length (drop k s) = omega (arith, length-drop k s) in
      let c : 1 < length (drop k s) = omega (arith, length-drop k s) in
      rw (drop-append-le k s t a, get_or-append (drop k s) t 0 0 b, get_or-append (drop k s) t 0 1 c)

  same_count : count_in (s ++ t) ≡ count_in s
  same_count = same_word 6 (omega arith)

  same_byte : (k : ℕ) → k < header_length → get_or (s ++ t) k 0 ≡ get_or s k 0
  same_byte k h = let a : k < length s = omega arith in get_or-append s t 0 k a

  same_edition : edition_in (s ++ t) ≡ edition_in s
  same_edition = same_byte 0 (omega arith)

  same_years : years_in (s ++ t) ≡ years_in s
  same_years = same_byte 1 (omega arith)

  same_header : header_number (s ++ t) ≡ header_number s
  unfolding header_number
  same_header =
      let a : header_length ≤ length s = omega arith in
      let b : header_length ≤ length (s ++ t) = omega (arith, length-append s t) in
      rw (
        le-ltb (length s) header_length a,
        le-ltb (length (s ++ t)) header_length b,
        same_edition,
        same_years,
        same_word 2 (omega arith),
        same_word 4 (omega arith),
        same_count,
      )

  same_by : (b : Bool) → eqb (header_number s) 0 ≡ b → scan_file (s ++ t) ≡ scan_file s
  same_by true e =
      let z = eqb-true (header_number s) 0 e in
      let header = header_accepted s z in
      let few = (accepted_admitted s header).few in
      scan_past_header (s ++ t) (same_header ∙ z)
      ∙ rw (same_edition, same_years, same_count) (same_records (edition_in s) (years_in s) (count_in s) (count_in s) 0 header_length (omega arith) (omega arith))
      ∙ sym (scan_past_header s z)
  same_by false e =
      let ne = eqb-false (header_number s) 0 e in
      scan_header (s ++ t) (λ z. ne (sym same_header ∙ z)) ∙ ap (λ (k : ℕ). refused_at (refusal k) 0) same_header ∙ sym (scan_header s ne)

  -- bytes past the longest file and one more bear on nothing
  pub scan_past_nothing : scan_file (s ++ t) ≡ scan_file s
  scan_past_nothing = same_by (eqb (header_number s) 0) refl

-- so any prefix that is longer than every accepted file tells the answer
pub prefix_tells : (m : ℕ) (s : List ℕ) → longest_file < m → scan_file (take m s) ≡ scan_file s
prefix_tells m s h = by (leb (length s) m) refl
  where
    by : (b : Bool) → leb (length s) m ≡ b → scan_file (take m s) ≡ scan_file s
    by true e = ap scan_file (take_all m s (leb-true (length s) m e))
    by false e =
        let k = leb-false (length s) m e in
        let l : length (take m s) ≡ m = length-take-le m s (omega arith) in
        let full : longest_file < length (take m s) = omega arith in
        sym (scan_past_nothing (take m s) (drop m s) full) ∙ ap scan_file (take-append-drop m s)
