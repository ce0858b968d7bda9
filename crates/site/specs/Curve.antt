-- Refusal 7 in document 01's own words: "Bits 0 and 1 always stand. Bits 6 and 7 of a segment stand together, and 8 and 9 only
-- with them".
use Rattle.std.specs.Prelude.{◌≡◌, Bool, false, ◌&&◌, ◌||◌, not, ℕ, zero, suc, ◌/◌}
use Rattle.std.proofs.Common.{div-one}
use Rattle.std.specs.Bool.{beq}
use Rattle.site.specs.Rules.{segment}
use Rattle.site.specs.Record.{any_field, curved}
use Rattle.site.specs.Fields.{bit_at}

-- 6 and 7 stand together, and 8 and 9 only with them
abbrev pub matched : Bool → Bool → Bool → Bool → Bool
matched six seven eight nine = beq six seven && (not (eight || nine) || (six && seven))

pub curve_bits : (map : ℕ) → curved segment map ≡ (bit_at 6 map || (bit_at 7 map || (bit_at 8 map || (bit_at 9 map || false))))
unfolding any_field
curve_bits map = rw (div-one (map / 2 / 2))

-- "Bits 0 and 1 always stand. Bits 6 and 7 of a segment stand together, and 8 and 9 only with them"
abbrev pub map_matched : ℕ → ℕ → Bool
map_matched zero map = bit_at 0 map && (bit_at 1 map && matched (bit_at 6 map) (bit_at 7 map) (bit_at 8 map) (bit_at 9 map))
map_matched (suc kind) map = bit_at 0 map && bit_at 1 map
