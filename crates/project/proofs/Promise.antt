-- Laws of Promise in specs/.
use Rattle.std.specs.Prelude.{Result, Ok, Err}
use Rattle.project.specs.declared.Refused.{Refused}
use Rattle.std.specs.Prelude.{◌≡◌, refl, List, ℕ}
use Rattle.std.proofs.Common.{sym}
use Rattle.project.specs.File.{scan_file}
use Rattle.project.proofs.ScanLaws.{accepted_exactly, refused_exactly}
use Rattle.project.specs.Promise.{ScanTells, ScansFile}

pub scans_file : (s : List ℕ) (answer : Result ℕ Refused) → answer ≡ scan_file s → ScansFile s answer
scans_file s answer e = record { answer_is = e; tells = told answer (sym e) }
  where
    told : (given : Result ℕ Refused) → scan_file s ≡ given → ScanTells s given
    told (Ok sites) q = (refl, (accepted_exactly s sites).0 q)
    told (Err refused) q = (refused_exactly s refused).0 q
