-- Laws of Theorems in specs/.
use Rattle.std.specs.Prelude.{Result, Ok, Err}
use Rattle.site.specs.declared.refusal.Refusal.{Refusal}
use Rattle.std.proofs.Math.Path.{◌≡◌, refl, ap, sym}
use Rattle.std.proofs.Common.{◌∙◌, arith, length-append, drop_of_length-le, take_at, ltb-false, le-ltb}
use Rattle.std.specs.Prelude.{Bool}
use Rattle.std.proofs.Math.Bool.{true, false, cond}
use mathlib.Core.List.{List, [], ◌∷◌, ◌++◌, append-nil, append_assoc}
use Prim.Native.Nat.{ℕ, zero, suc, ◌+◌, ◌≤◌}
use Rattle.std.proofs.Math.ListN.{length, take, drop, take-append-drop}
use Rattle.std.proofs.Math.Seq.{drop-append_seam, drop-drop, get_or-drop}
use Rattle.std.proofs.Math.Dec.{ltb}
use Rattle.site.specs.declared.values.Site.{Site}
use Rattle.site.specs.Record.{read_site}
use Rattle.site.specs.Writing.{record_of}
use Rattle.site.specs.Digits.{Bytes}
use Rattle.site.proofs.Bytes.{record_bytes}
use Rattle.site.specs.Bytes.{bytes_append, bytes_nil}
use Rattle.site.proofs.WriteRead.{write_read}
use Rattle.site.proofs.ReadWrite.{read_write}
use Rattle.header.specs.declared.Header.{Header}
use Rattle.header.specs.Header.{header_length, edition_in, header_in, count_in, most_sites, header_bytes}
use Rattle.header.proofs.HeaderLaws.{accepted_header, limits_of}
use Rattle.header.proofs.HeaderBytes.{written_header, header_bytes_lem}
use Rattle.header.specs.HeaderBytes.{header_again}
use Rattle.site.specs.declared.refusal.Refusal.TheVariants as refused
use Rattle.project.specs.File.{refused_at, years_in, after_record, taken, scan_records, scan_file, sites_from, sites_in}
use Rattle.project.specs.Scan.{scan_past_header}
use Rattle.project.proofs.ScanLaws.{accepted_exactly}
use Rattle.project.proofs.SitesRead.{accepted_sites}
use Rattle.project_writer.specs.declared.course.FileRefusal.{FileRefusal}
use Rattle.project_writer.specs.declared.course.FileRefusal.TheVariants.{EditionUnknown, OutsideLimits, OutsideRange, TooShort}
use Rattle.project_writer.specs.ProjectFile.{records_of, file_of, sound_sites, file_answer, leaves, buffer_after}
use Rattle.project_writer.specs.Causes.{Writable}
use Rattle.project_writer.specs.Sound.{all_sound, sites_sound}
use Rattle.project_writer.proofs.Sound.{all_valid_exactly}
use Rattle.project_writer.proofs.Exactly.{writable_admitted, writable_sound, answer_exactly}
use Rattle.project_writer.specs.Theorems.{ReadsBack}

-- the records of valid sites, after whatever stands before them
record RecordsRead (edition years count : ℕ) (front : List ℕ) (sites : List Site) : Type 0 where
  pub scanned : scan_records edition years count (length sites) (length front) (front ++ records_of edition sites) ≡ Ok count
  pub sites_are : sites_from edition years (length sites) (length front) (front ++ records_of edition sites) ≡ sites

records_read : (edition years count : ℕ) (front : List ℕ) (sites : List Site) → sound_sites edition years sites ≡ length sites
    → RecordsRead edition years count front sites
unfolding scan_records sites_from records_of
records_read edition years count front [] e =
    record { scanned = rw (append-nil front, le-ltb (length front) (length front) (omega arith)); sites_are = refl }
records_read edition years count front (site ∷ sites) e =
    let all = all_sound edition years site sites e in
    let here = drop-append_seam front (record_of edition site ++ records_of edition sites) in
    let read = write_read edition years site (records_of edition sites) all.0 in
    let later = records_read edition years count (front ++ record_of edition site) sites all.1 in
    let text = append_assoc front (record_of edition site) (records_of edition sites) in
    record {
      scanned = rw (here, read, ← text, ← length-append front (record_of edition site)) later.scanned;
      sites_are = rw (here, read, ← text, ← length-append front (record_of edition site), later.sites_are);
    }

records_bytes : (edition years : ℕ) (sites : List Site) → sound_sites edition years sites ≡ length sites → Bytes (records_of edition sites)
unfolding records_of
records_bytes edition years [] e = bytes_nil
records_bytes edition years (site ∷ sites) e =
    let all = all_sound edition years site sites e in
    bytes_append (record_of edition site) (records_of edition sites) (record_bytes edition years site all.0) (records_bytes edition years sites all.1)

module _ (header : Header) (sites : List Site) where
  -- WHAT IS WRITTEN IS ACCEPTED
  pub written_accepted : Writable header sites → ReadsBack header sites (file_of header sites)
  unfolding file_of sites_in
  written_accepted w =
      let admit = writable_admitted header sites w in
      let all = writable_sound header sites w in
      let front = header_bytes header (length sites) in
      let head = written_header header (length sites) w.edition admit (records_of header.edition sites) in
      let body = records_read header.edition header.years (length sites) front sites all in
      record {
        bytes =
            bytes_append front (records_of header.edition sites) (header_bytes_lem header (length sites) w.edition admit) (records_bytes header.edition header.years sites all);
        accepted = scan_past_header (front ++ records_of header.edition sites) (accepted_header _ head.accepted) ∙ rw head.count_is body.scanned;
        header_is = head.header_is;
        count_is = head.count_is;
        sites_are = rw head.count_is body.sites_are;
      }

  -- so is what the writer leaves where it answers a count of bytes: these are the file
  module _ (before : List ℕ) where
    pub written_file : (n : ℕ) → file_answer header sites (length before) ≡ Ok n → take n (buffer_after header sites before) ≡ file_of header sites
    unfolding buffer_after
    written_file n e =
        let t = (answer_exactly header sites (length before) (Ok n)).0 e in
        rw e (take_at (file_of header sites) (drop (length (file_of header sites)) before) n (sym t.2))

    pub buffer_accepted : (n : ℕ) → file_answer header sites (length before) ≡ Ok n → ReadsBack header sites (take n (buffer_after header sites before))
    buffer_accepted n e =
        rw (written_file n e) (written_accepted ((answer_exactly header sites (length before) (Ok n)).0 e).0)

    -- "or nothing is written"
    pub nothing_written : ((n : ℕ) → file_answer header sites (length before) ≡ Ok n → ⊥) → buffer_after header sites before ≡ before
    unfolding buffer_after
    nothing_written never = by (file_answer header sites (length before)) refl
      where
        by : (answer : Result ℕ FileRefusal) → file_answer header sites (length before) ≡ answer → leaves answer (file_of header sites) before ≡ before
        by (Ok n) e = absurd (never n e)
        by (Err EditionUnknown) e = refl
        by (Err OutsideLimits) e = refl
        by (Err (OutsideRange index)) e = refl
        by (Err TooShort) e = refl

-- neither edition nor limits nor a site forbid to write what was accepted
pub accepted_writable : (s : List ℕ) (n : ℕ) → scan_file s ≡ Ok n → Writable (header_in s) (sites_in s)
accepted_writable s n e =
    let file = accepted_sites s n e in
    let few : length (sites_in s) ≤ most_sites = omega (arith, file.sites.count_is, file.few) in
    record {
      edition = file.edition;
      limits = (limits_of (header_in s) file.limits, few);
      valid = (all_valid_exactly (edition_in s) (years_in s) (sites_in s)).0 (sites_sound (edition_in s) (years_in s) n (sites_in s) file.sites);
    }

module _ (s : List ℕ) (bytes : Bytes s) where
  -- the records of a file from a place on, written again
  again_step : (edition years count left at n : ℕ)
      → ((next : ℕ) → scan_records edition years count left next s ≡ Ok n → records_of edition (sites_from edition years left next s) ≡ drop next s)
      → (answer : Result (Site × ℕ) Refusal) → read_site edition years (drop at s) ≡ answer
      → after_record at answer (λ next. scan_records edition years count left next s) ≡ Ok n
      → records_of edition (taken at answer (λ next. sites_from edition years left next s)) ≡ drop at s
  unfolding records_of
  again_step edition years count left at n later (Err refusal) q e = let z : ◌≡◌ {A = ℕ} 0 1 = cc in absurd (omega arith)
  again_step edition years count left at n later (Ok (value, k)) q e =
      rw (read_write edition years (drop at s) value k (λ i. rw get_or-drop (bytes (at + i))) q, later (at + k) e, ← drop-drop k at s) (take-append-drop k (drop at s))

  again_from : (edition years count left at n : ℕ) → scan_records edition years count left at s ≡ Ok n
      → records_of edition (sites_from edition years left at s) ≡ drop at s
  unfolding scan_records sites_from records_of
  again_from edition years count zero at n e = by (ltb at (length s)) refl e
    where
      by : (b : Bool) → ltb at (length s) ≡ b → cond b (refused_at refused.BytesAfter at) (Ok count) ≡ Ok n → [] ≡ drop at s
      by true t q = let z : ◌≡◌ {A = ℕ} 0 1 = cc in absurd (omega arith)
      by false t q = sym (drop_of_length-le s (ltb-false at (length s) t))
  again_from edition years count (suc left) at n e =
      again_step edition years count left at n (λ next q. again_from edition years count left next n q) (read_site edition years (drop at s)) refl e

  -- "EACH ACCEPTED FILE IS REPRODUCED from its header and sites"
  pub accepted_again : (n : ℕ) → scan_file s ≡ Ok n → file_of (header_in s) (sites_in s) ≡ s
  unfolding file_of sites_in
  accepted_again n e =
      let header = ((accepted_exactly s n).0 e).header in
      let file = accepted_sites s n e in
      let count : length (sites_in s) ≡ count_in s = file.sites.count_is ∙ file.count_is in
      let scanned = sym (scan_past_header s (accepted_header s header)) ∙ e in
      let head : header_bytes (header_in s) (length (sites_in s)) ≡ take header_length s = rw count (header_again s bytes header) in
      let body : records_of (edition_in s) (sites_in s) ≡ drop header_length s =
      again_from (edition_in s) (years_in s) (count_in s) (count_in s) header_length n scanned in
      ap (λ (front : List ℕ). front ++ records_of (edition_in s) (sites_in s)) head ∙ ap (λ (back : List ℕ). take header_length s ++ back) body
      ∙ take-append-drop header_length s

  -- as the writer answers and leaves it in every buffer that has space for it, one that just suffices among them
  pub accepted_written : (n : ℕ) (before : List ℕ) → scan_file s ≡ Ok n → length s ≤ length before
      → (file_answer (header_in s) (sites_in s) (length before) ≡ Ok (length s)) × (buffer_after (header_in s) (sites_in s) before ≡ s ++ drop (length s) before)
  unfolding buffer_after
  accepted_written n before e room =
      let same = accepted_again n e in
      let fits : length (file_of (header_in s) (sites_in s)) ≤ length before = rw same room in
      let exactly = answer_exactly (header_in s) (sites_in s) (length before) (Ok (length s)) in
      let answer = exactly.1 (accepted_writable s n e, fits, ap length (sym same)) in
      (answer, rw (answer, same))
