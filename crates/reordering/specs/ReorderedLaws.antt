-- The reports of two accepted projects whose sites are the same in another order.
use Rattle.std.specs.Prelude.{ℕ, ◌+◌, ◌<◌, ◌≡◌, get_or, drop}
use Rattle.std.proofs.Math.Path.{refl}
use Rattle.std.proofs.Common.{sym, ◌∙◌, get_or-drop, lit<}
use mathlib.Core.List.{List}
use Rattle.header.specs.Header.{header_length, header_in}

-- files that start with the same eight bytes have the same header; the last two, the count of sites, are not needed for it
pub same_bytes : (bytes other : List ℕ) → ((i : ℕ) → i < header_length → get_or other i 0 ≡ get_or bytes i 0) → header_in other ≡ header_in bytes
same_bytes bytes other e =
    let at : (k i : ℕ) → k + i < header_length → get_or (drop k other) i 0 ≡ get_or (drop k bytes) i 0 =
    λ k i h. get_or-drop k other i 0 ∙ e (k + i) h ∙ sym (get_or-drop k bytes i 0) in
    rw (e 0 (lit< tt), e 1 (lit< tt), at 2 0 (lit< tt), at 2 1 (lit< tt), at 4 0 (lit< tt), at 4 1 (lit< tt)) refl
