-- What wish 1 promises of the file that is written; `answer_exactly` of Exactly says where each answer is given.
use Rattle.std.specs.Prelude.{Ok}
use Rattle.std.proofs.Math.Path.{◌≡◌}
use mathlib.Core.List.{List}
use Prim.Native.Nat.{ℕ}
use Rattle.std.proofs.Math.ListN.{length}
use Rattle.site.specs.declared.values.Site.{Site}
use Rattle.site.specs.Digits.{Bytes}
use Rattle.header.specs.declared.Header.{Header}
use Rattle.header.specs.Header.{header_in, count_in}
use Rattle.project.specs.File.{scan_file, sites_in}

-- "What is written is accepted by the reader .. with the same sites in the same order"
pub record ReadsBack (header : Header) (sites : List Site) (file : List ℕ) : Type 0 where
  pub bytes : Bytes file
  pub accepted : scan_file file ≡ Ok (length sites)
  pub header_is : header_in file ≡ header
  pub count_is : count_in file ≡ length sites
  pub sites_are : sites_in file ≡ sites
