-- A record is bytes: kind, map and fields fit what they are written in.
use Rattle.std.specs.Prelude.{List, [], ◌∷◌, ℕ, zero, suc, ◌/◌, ◌%◌, ◌<◌, get_or}
use Rattle.std.proofs.Common.{arith}
use Rattle.site.specs.Digits.{Bytes}
pub use Rattle.site.specs.Digits.{bytes_append}

pub bytes_cons : (x : ℕ) (s : List ℕ) → x < 256 → Bytes s → (i : ℕ) → get_or (x ∷ s) i 0 < 256
bytes_cons x s h bytes zero = h
bytes_cons x s h bytes (suc i) = bytes i

pub bytes_nil : Bytes []
bytes_nil i = omega arith

pub two_bytes_of : (value : ℕ) → value < 65536 → Bytes (value / 256 ∷ value % 256 ∷ [])
two_bytes_of value h = bytes_cons (value / 256) (value % 256 ∷ []) (omega arith) (bytes_cons (value % 256) [] (omega arith) bytes_nil)
