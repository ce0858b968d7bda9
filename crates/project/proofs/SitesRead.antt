-- Laws of SitesRead in specs/.
use Rattle.std.specs.Prelude.{Result, Ok, Err}
use Rattle.site.specs.declared.refusal.Refusal.{Refusal}
use Rattle.std.specs.Prelude.{◌≡◌, drop}
use Rattle.std.proofs.Math.Path.{refl}
use Rattle.std.proofs.Common.{ap, sym, subst, ◌∙◌, ⊎_elim, arith}
use mathlib.Core.List.Memᴰ
use mathlib.Core.List.{List, ◌∷◌}
use Prim.Native.Nat.{ℕ, zero, suc, ◌+◌}
use Rattle.site.specs.declared.values.Site.{Site}
use Rattle.site.specs.Record.{read_site}
use Rattle.site.specs.Writing.{Valid}
use Rattle.site.proofs.ReadWrite.{read_valid}
use Rattle.header.specs.Header.{edition_in, header_length, count_in}
use Rattle.header.proofs.HeaderLaws.{accepted_header, accepted_edition, accepted_admitted}
use Rattle.project.specs.File.{years_in, after_record, scan_records, scan_file, taken, sites_from, sites_in}
use Rattle.project.specs.Scan.{scan_past_header}
use Rattle.project.proofs.ScanLaws.{accepted_exactly}
use Rattle.project.specs.SitesRead.{AcceptedFile, ValidSites}

valid_more : (edition years n : ℕ) (value : Site) (sites : List Site) → Valid edition years value → ValidSites edition years n sites
    → ValidSites edition years (suc n) (value ∷ sites)
valid_more edition years n value sites v r =
    record {
      count_is = ap suc r.count_is;
      valid = λ other m. ⊎_elim (λ e. rw e v) (λ k. r.valid other k) (Memᴰ.cases_cons m);
    }

module _ (s : List ℕ) (edition years sites n : ℕ) where
  valid_step : (left at : ℕ)
      → ((next : ℕ) → scan_records edition years sites left next s ≡ Ok n → ValidSites edition years left (sites_from edition years left next s))
      → (answer : Result (Site × ℕ) Refusal) → read_site edition years (drop at s) ≡ answer
      → after_record at answer (λ next. scan_records edition years sites left next s) ≡ Ok n
      → ValidSites edition years (suc left) (taken at answer (λ next. sites_from edition years left next s))
  valid_step left at later (Err refusal) q e = let z : ◌≡◌ {A = ℕ} 0 1 = cc in absurd (omega arith)
  valid_step left at later (Ok (value, k)) q e =
      valid_more edition years left value (sites_from edition years left (at + k) s) (read_valid edition years (drop at s) value k q) (later (at + k) e)

  valid_from : (left at : ℕ) → scan_records edition years sites left at s ≡ Ok n → ValidSites edition years left (sites_from edition years left at s)
  unfolding scan_records sites_from
  valid_from zero at e = record { count_is = refl; valid = λ value m. absurd (Memᴰ.not-nil m) }
  valid_from (suc left) at e = valid_step left at (λ next q. valid_from left next q) (read_site edition years (drop at s)) refl e

pub accepted_sites : (s : List ℕ) (n : ℕ) → scan_file s ≡ Ok n → AcceptedFile s n
unfolding sites_in
accepted_sites s n e =
    let w = (accepted_exactly s n).0 e in
    let c = w.count_is in
    let header = accepted_admitted s w.header in
    let few = header.few in
    let q : scan_records (edition_in s) (years_in s) (count_in s) (count_in s) header_length s ≡ Ok n =
    sym (scan_past_header s (accepted_header s w.header)) ∙ e in
    record {
      long = w.header.long;
      edition = accepted_edition s w.header;
      limits = header.limits;
      count_is = c;
      few = omega arith;
      sites =
          subst (λ (k : ℕ). ValidSites (edition_in s) (years_in s) k (sites_from (edition_in s) (years_in s) (count_in s) header_length s)) (sym c)
          (valid_from s (edition_in s) (years_in s) (count_in s) n (count_in s) header_length q);
    }
