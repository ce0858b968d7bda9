-- A file longer than the longest that can be accepted is answered as its prefix would be.
use Prim.Native.Nat.{ℕ, ◌+◌, ◌*◌}
use Rattle.site.specs.Theorems.{longest}
use Rattle.header.specs.Header.{header_length, most_sites}

-- a header and the most records, each the longest
abbrev pub longest_file : ℕ
longest_file = header_length + most_sites * longest
