-- EVERY ORDER IS A PROJECT: the sites of an accepted file are written in any order, and what is written is accepted.
use Rattle.std.specs.Prelude.{Ok}
use Rattle.std.specs.Prelude.{ℕ, ◌≤◌, ◌≡◌, refl, List, length, get_or}
use Rattle.std.proofs.Common.{sym, ap, ◌∙◌, arith}
use Rattle.laws.specs.Reordering.{Reordering}
use Rattle.laws.proofs.ReorderingLaws.{each_is_image}
use Rattle.site.specs.declared.values.Site.{Site}
use Rattle.header.specs.declared.Header.{Header}
use Rattle.header.specs.Header.{header_in}
use Rattle.project.specs.File.{scan_file, sites_in}
use Rattle.project_writer.specs.ProjectFile.{file_of, file_answer}
use Rattle.project_writer.specs.Causes.{ValidBelow, Writable}
use Rattle.project_writer.proofs.Exactly.{answer_exactly}
use Rattle.project_writer.specs.Theorems.{ReadsBack}
use Rattle.project_writer.proofs.Theorems.{written_accepted, accepted_writable}

module _ {sites others : List Site} {image : ℕ → ℕ} (r : Reordering sites others image) where
  valid_in_any_order : (edition years : ℕ) → ValidBelow edition years sites (length sites) → ValidBelow edition years others (length others)
  valid_in_any_order edition years valid j d h =
      let from = each_is_image sites others image r j h in
      let same : get_or others j d ≡ get_or sites from.place d =
      ap (λ (k : ℕ). get_or others k d) (sym from.is) ∙ r.same from.place d from.within in
      rw same (valid from.place d from.within)

  writable_in_any_order : {header : Header} → Writable header sites → Writable header others
  writable_in_any_order {header} w = record {
    edition = w.edition;
    limits = (w.limits.0, omega (arith, r.same_length, w.limits.1));
    valid = valid_in_any_order header.edition header.years w.valid;
  }

module _ (bytes : List ℕ) (n : ℕ) (accepted : scan_file bytes ≡ Ok n)
    (sites : List Site) (image : ℕ → ℕ) (r : Reordering (sites_in bytes) sites image) where
  writable : Writable (header_in bytes) sites
  writable = writable_in_any_order r (accepted_writable bytes n accepted)

  pub any_order_accepted : ReadsBack (header_in bytes) sites (file_of (header_in bytes) sites)
  any_order_accepted = written_accepted (header_in bytes) sites writable

  -- in every buffer that has space for it
  pub any_order_written : (room : ℕ) → length (file_of (header_in bytes) sites) ≤ room
      → file_answer (header_in bytes) sites room ≡ Ok (length (file_of (header_in bytes) sites))
  any_order_written room space =
      (answer_exactly (header_in bytes) sites room (Ok (length (file_of (header_in bytes) sites)))).1 (writable, space, refl)
