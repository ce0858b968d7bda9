-- A report as it is filled: the lines of the records that are left, then the totals that have been added up; and one turn of the
-- fill, in which a record that a scan has passed is read again, its line stored and added to the totals.
use Rattle.std.specs.Prelude.{Some, Result, Ok, Err}
use Rattle.std.proofs.lemmas.Option.{some_pair_parts}
use Rattle.site.specs.declared.refusal.Refusal.{Refusal}
use Rattle.std.specs.Prelude.{Option, None}
use Prim.Native.Nat.{ℕ, zero, suc, ◌+◌, ◌-◌, ◌*◌, ◌≤◌, ◌<◌}
use Rattle.std.specs.Prelude.{◌≡◌, List, [], ◌++◌, map, drop, length, take}
use Rattle.std.proofs.Math.Path.{refl, sym}
use Rattle.std.proofs.Common.{ap, ◌∙◌, length-drop, add_assoc, add-zero, zero-add}
use native.Mathlib.Omega.{arith}
use Rattle.std.proofs.lemmas.List.Edits.{sets}
use Rattle.std.proofs.Math.Seq.{length-sets}
use Rattle.laws.specs.Stores.{sets_more}
use Rattle.laws.specs.Walk.{part_from}
use Rattle.site.specs.declared.values.Site.{Site}
use Rattle.site.specs.Record.{read_site}
use Rattle.site.specs.Promises.{ReadsSite}
use Rattle.site.specs.Writing.{Valid}
use Rattle.site.specs.Theorems.{longest, RecordLength}
use Rattle.site.proofs.Theorems.{read_length}
use Rattle.site.proofs.ReadWrite.{read_valid}
use Rattle.header.specs.declared.Header.{Header}
use Rattle.header.specs.Header.{header_length, edition_in, header_in, count_in, most_sites}
use Rattle.header.specs.HeaderLaws.{HeaderWithin}
use Rattle.model.specs.Coefficients.{Coefficients}
use Rattle.prediction.specs.Pair.{most_predicted}
use Rattle.line.specs.declared.Line.{Line}
use Rattle.line.specs.Line.{site_line}
use Rattle.line.specs.Weighing.{LineAtMost, at_most_wider}
use Rattle.project.specs.File.{years_in, after_record, scan_records, sites_from, sites_in, scan_file}
use Rattle.project.specs.Causes.{report_length}
use Rattle.report.specs.Report.{coefficients_in, numbers_of, all_numbers, no_line, add_line, total_of, report_numbers, lines_in}

-- the numbers after a record is read
abbrev pub filled : Result (Site × ℕ) Refusal → (Site → ℕ → List ℕ) → List ℕ
filled (Err refusal) k = []
filled (Ok (x, n)) k = k x n

unfoldable pub fill_from : (c : Coefficients) (header : Header) (left at : ℕ) (total : Line) → List ℕ → List ℕ
fill_from c header zero at total s = numbers_of total
fill_from c header (suc left) at total s =
    filled (read_site header.edition header.years (drop at s))
    (λ x n. numbers_of (site_line c header x) ++ fill_from c header left (at + n) (add_line total (site_line c header x)) s)

-- totals add up in any grouping
add_line_assoc : (x y z : Line) → add_line (add_line x y) z ≡ add_line x (add_line y z)
add_line_assoc x y z = rw (
  add_assoc x.predicted_low y.predicted_low z.predicted_low,
  add_assoc x.predicted_high y.predicted_high z.predicted_high,
  add_assoc x.expected_low y.expected_low z.expected_low,
  add_assoc x.expected_high y.expected_high z.expected_high,
) refl

add_no_line : (x : Line) → add_line x no_line ≡ x
add_no_line x = rw (add-zero x.predicted_low, add-zero x.predicted_high, add-zero x.expected_low, add-zero x.expected_high) refl

add_to_no_line : (x : Line) → add_line no_line x ≡ x
add_to_no_line x = rw (zero-add x.predicted_low, zero-add x.predicted_high, zero-add x.expected_low, zero-add x.expected_high) refl

-- a record that a scan passes is one that was read
pub record Passed (edition years sites left at : ℕ) (s : List ℕ) : Type 0 where
  pub site : Site
  pub bytes : ℕ
  pub is : read_site edition years (drop at s) ≡ Ok (site, bytes)
  pub rest : scan_records edition years sites left (at + bytes) s ≡ Ok sites

pub passed : (edition years sites left at : ℕ) (s : List ℕ) → scan_records edition years sites (suc left) at s ≡ Ok sites
    → Passed edition years sites left at s
unfolding scan_records
passed edition years sites left at s e = by (read_site edition years (drop at s)) refl e
  where
    by : (a : Result (Site × ℕ) Refusal) → read_site edition years (drop at s) ≡ a → after_record at a (λ next. scan_records edition years sites left next s) ≡ Ok sites
        → Passed edition years sites left at s
    by (Err refusal) p q = let z : ◌≡◌ {A = ℕ} 0 1 = cc in absurd (omega arith)
    by (Ok (x, n)) p q = record { site = x; bytes = n; is = p; rest = q }

-- THE LAW: a file that a scan accepts is filled with its report
module _ (c : Coefficients) (header : Header) (s : List ℕ) where
  abbrev lines : List Site → List Line
  lines sites = map (site_line c header) sites

  fill_is : (sites left at : ℕ) (total : Line) → scan_records header.edition header.years sites left at s ≡ Ok sites
      → fill_from c header left at total s
      ≡ all_numbers (lines (sites_from header.edition header.years left at s))
      ++ numbers_of (add_line total (total_of (lines (sites_from header.edition header.years left at s))))
  unfolding fill_from sites_from all_numbers total_of
  fill_is sites zero at total e = sym (ap numbers_of (add_no_line total))
  fill_is sites (suc left) at total e =
      let p = passed header.edition header.years sites left at s e in
      let x = site_line c header p.site in
      let r = fill_is sites left (at + p.bytes) (add_line total x) p.rest in
      let later = lines (sites_from header.edition header.years left (at + p.bytes) s) in
      rw (p.is, r) (ap (λ (z : Line). numbers_of x ++ (all_numbers later ++ numbers_of z)) (add_line_assoc total x (total_of later)))

pub fill_report : (s : List ℕ) → scan_records (edition_in s) (years_in s) (count_in s) (count_in s) header_length s ≡ Ok (count_in s)
    → fill_from (coefficients_in s) (header_in s) (count_in s) header_length no_line s ≡ report_numbers (lines_in s)
unfolding sites_in
fill_report s e =
    fill_is (coefficients_in s) (header_in s) s (count_in s) (count_in s) header_length no_line e
    ∙ ap (λ (z : Line). all_numbers (lines_in s) ++ numbers_of z) (add_to_no_line (total_of (lines_in s)))

-- the line of a record that was read
abbrev pub record_line : Coefficients → Header → Result (Site × ℕ) Refusal → Option (Line × ℕ)
record_line c header (Err refusal) = None
record_line c header (Ok (x, n)) = Some (site_line c header x, n)

-- the line of a record read through the part of the file that starts at it
module _ (s : List ℕ) (at : ℕ) (answer : Result (Site × ℕ) Refusal) (c : Coefficients) (header : Header)
    (reads : ReadsSite header.edition header.years (take (length s - at) (drop at s)) answer) where
  answer_of : answer ≡ read_site header.edition header.years (drop at s)
  answer_of = rw (part_from s at) at reads.answer_is

  pub no_line_lem : (refusal : Refusal) → answer ≡ Err refusal → None ≡ record_line c header (read_site header.edition header.years (drop at s))
  no_line_lem refusal e = ap (record_line c header) (sym e ∙ answer_of)

  pub a_line : (site : Site) (n : ℕ) (line : Line) → answer ≡ Ok (site, n) → line ≡ site_line c header site
      → Some (line, n) ≡ record_line c header (read_site header.edition header.years (drop at s))
  a_line site n line e l = ap (λ (x : Line). Some (x, n)) l ∙ ap (record_line c header) (sym e ∙ answer_of)

-- no total is above the largest line times the most sites
abbrev pub most_total : ℕ
most_total = most_sites * most_predicted

-- a file that a scan accepts, and room for its report
pub record Acceptable (s : List ℕ) (room : ℕ) : Type 0 where
  pub sites : ℕ
  pub scanned : scan_file s ≡ Ok sites
  pub room_for : report_length sites ≤ room

-- WHAT A FILL ASKS: a header within its limits, lines that fit, records that a scan has passed, and room for the report
pub record Fillable (c : Coefficients) (s : List ℕ) (header : Header) (sites room : ℕ) : Type 0 where
  pub limits : HeaderWithin header
  pub lines_fit : (site : Site) → Valid header.edition header.years site → LineAtMost most_predicted (site_line c header site)
  pub most : sites ≤ most_sites
  pub long : header_length ≤ length s
  pub scanned : scan_records header.edition header.years sites sites header_length s ≡ Ok sites
  pub room_for : report_length sites ≤ room

-- what the loop keeps before record i of n, at its place, with the totals so far
pub record Filling (c : Coefficients) (s : List ℕ) (header : Header) (n : ℕ) (before : List ℕ) (i at : ℕ) (total : Line) (report : List ℕ) : Type 0 where
  pub asked : Fillable c s header n (length before)
  pub same : length report ≡ length before
  pub inside : at ≤ length s
  pub near : at ≤ header_length + i * longest
  pub small : LineAtMost (i * most_predicted) total
  pub scanned : scan_records header.edition header.years n (n - i) at s ≡ Ok n
  pub filled : sets report (4 * i) (fill_from c header (n - i) at total s) ≡ sets before 0 (fill_from c header n header_length no_line s)

module _ {c : Coefficients} {s : List ℕ} {header : Header} {n : ℕ} {before : List ℕ} where
  module _ {i at : ℕ} {total : Line} {report : List ℕ} (k : Filling c s header n before i at total report) where
    -- the loop's end
    pub filling_end : i ≡ n → sets report (4 * n) (numbers_of total) ≡ sets before 0 (fill_from c header n header_length no_line s)
    unfolding fill_from
    filling_end e = let none : n - i ≡ 0 = omega arith in rw (none, e) at k.filled

    module _ (more : i < n) where
      left : n - i ≡ suc (n - (i + 1))
      left = omega arith

      this : Passed header.edition header.years n (n - (i + 1)) at s
      this = passed header.edition header.years n (n - (i + 1)) at s (rw left at k.scanned)

      length_of : RecordLength (drop at s) this.bytes
      length_of = read_length header.edition header.years (drop at s) this.site this.bytes this.is

      -- a record is always read
      pub always_read : {answer : Option (Line × ℕ)} → answer ≡ record_line c header (read_site header.edition header.years (drop at s)) → answer ≡ None → ⊥
      always_read e u =
          let z : ◌≡◌ {A = Option (Line × ℕ)} None (Some (site_line c header this.site, this.bytes)) = sym u ∙ e ∙ ap (record_line c header) this.is in
          let y : ◌≡◌ {A = ℕ} 0 1 = cc in
          omega arith

      pub total_at_most : LineAtMost most_total total
      total_at_most = at_most_wider (omega (arith, k.asked.most)) k.small

      module _ {answer : Option (Line × ℕ)} {line : Line} {bytes : ℕ} (read : answer ≡ record_line c header (read_site header.edition header.years (drop at s)))
          (is : answer ≡ Some (line, bytes)) where
        same_record : (line ≡ site_line c header this.site) × (bytes ≡ this.bytes)
        same_record = some_pair_parts _ _ _ _ (sym is ∙ read ∙ ap (record_line c header) this.is)

        line_is : line ≡ site_line c header this.site
        line_is = same_record.0

        bytes_is : bytes ≡ this.bytes
        bytes_is = same_record.1

        line_at_most : LineAtMost most_predicted line
        line_at_most =
            rw line_is (k.asked.lines_fit this.site (read_valid header.edition header.years (drop at s) this.site this.bytes this.is))

        pub line_fits : LineAtMost most_total line
        line_fits = at_most_wider (omega arith) line_at_most

        pub place_near : at + bytes ≤ header_length + (i + 1) * longest
        place_near = omega (arith, bytes_is, length_of.at_most, k.near)

        -- THE TURN
        pub filling_on : Filling c s header n before (i + 1) (at + bytes) (add_line total line) (sets report (4 * i) (numbers_of line))
        filling_on =
            let l = line_at_most in
            let w = k.small in
            record {
              asked = k.asked;
              same = length-sets report (4 * i) (numbers_of line) ∙ k.same;
              inside = omega (arith, bytes_is, length_of.within, length-drop at s, k.inside);
              near = place_near;
              small = record {
                predicted_low = omega (arith, l.predicted_low, w.predicted_low);
                predicted_high = omega (arith, l.predicted_high, w.predicted_high);
                expected_low = omega (arith, l.expected_low, w.expected_low);
                expected_high = omega (arith, l.expected_high, w.expected_high);
              };
              scanned = rw bytes_is this.rest;
              filled = next;
            }
          where
            rest : List ℕ
            rest = fill_from c header (n - (i + 1)) (at + bytes) (add_line total line) s

            opened : fill_from c header (n - i) at total s ≡ numbers_of line ++ rest
            opened = unfold fill_from in rw (left, this.is, line_is, bytes_is) refl

            next : sets (sets report (4 * i) (numbers_of line)) (4 * (i + 1)) rest ≡ sets before 0 (fill_from c header n header_length no_line s)
            next =
                let e : 4 * (i + 1) ≡ 4 * i + 4 = omega arith in
                rw e (sets_more report (4 * i) (numbers_of line) rest ∙ ap (sets report (4 * i)) (sym opened) ∙ k.filled)
