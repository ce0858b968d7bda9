use Rattle.std.specs.Prelude.{◌≡◌, List, take}
use Prim.Native.Nat.{ℕ, ◌+◌}
use native.Mathlib.Omega.{arith}
use Rattle.project.specs.File.{scan_file}
use Rattle.project.specs.Prefix.{longest_file}
use Rattle.project.proofs.Prefix.{prefix_tells}

pub scan_prefix : (s : List ℕ) → scan_file (take (longest_file + 1) s) ≡ scan_file s
scan_prefix s = prefix_tells (longest_file + 1) s (omega arith)
