-- A header that is written reads back, and one that is read is written again as the same bytes.
use Rattle.std.specs.Prelude.{◌≡◌, List, [], ◌∷◌, ℕ, suc, ◌+◌, ◌≤◌, length, take, drop}
use Rattle.std.proofs.Common.{arith, length-drop, drop-drop, take-add, get_or-drop}
use Rattle.site.specs.Record.{word}
use Rattle.site.specs.Writing.{two_bytes}
use Rattle.site.specs.Digits.{Bytes, bytes_of_word}
use Rattle.header.specs.declared.Header.{Header}
use Rattle.header.specs.Header.{header_length, header_in, count_in, header_bytes}
use Rattle.header.specs.Causes.{HeaderAccepted}

-- what a list says of its header
pub record HeaderRead (header : Header) (sites : ℕ) (s : List ℕ) : Type 0 where
  pub header_is : header_in s ≡ header
  pub count_is : count_in s ≡ sites
  pub accepted : HeaderAccepted s

-- an accepted header is written back as the same bytes
pub header_again : (s : List ℕ) → Bytes s → HeaderAccepted s → header_bytes (header_in s) (count_in s) ≡ take header_length s
header_again [] bytes a = let z : ⊥ = omega arith in absurd z
header_again (edition ∷ []) bytes a = let z : ⊥ = omega arith in absurd z
header_again (edition ∷ years ∷ s) bytes a =
    rw (
      take-add 2 4 s,
      take-add 2 2 (drop 2 s),
      drop-drop 2 2 s,
      ← word_again 0 (omega arith),
      ← word_again 2 (omega arith),
      ← word_again 4 (omega arith),
    )
  where
    word_again : (at : ℕ) → at + 2 ≤ length s → two_bytes (word (drop at s)) ≡ take 2 (drop at s)
    word_again at h = bytes_of_word (drop at s) (λ i. rw get_or-drop (bytes (suc (suc (at + i))))) (omega (arith, length-drop at s))
