-- One slot after the other: what the definitions of `specs/Writing` say of two lists by their first rule and slot, and a text that is
-- stored part by part.
use Rattle.std.specs.Prelude.{Option}
use mathlib.Core.Path.{◌≡◌, refl, ap, sym, ◌∙◌}
use mathlib.Core.Bool.{◌&&◌}
use mathlib.Core.List.{List, [], ◌∷◌, ◌++◌}
use Prim.Native.Nat.{ℕ, ◌+◌, ◌≤◌}
use native.Mathlib.Omega.{arith}
use lib.ListN.{length, length-append}
use lib.Seq.{sets}
use Rattle.site.specs.declared.rules.Rule.{Rule}
use Rattle.site.specs.Writing.{fits, all_fit, field_bytes, bytes_of}
use Rattle.laws.specs.Stores.{Puts, sets_more}

-- of two lists that begin so, whether their slots fit, and their bytes
pub fit_next : {rules rules' : List Rule} {slots slots' : List (Option ℕ)} {rule : Rule} {slot : Option ℕ} → rules ≡ rule ∷ rules' → slots ≡ slot ∷ slots'
    → all_fit rules slots ≡ (fits rule slot && all_fit rules' slots')
unfolding all_fit
fit_next p q = rw (p, q)

pub bytes_next : {rules rules' : List Rule} {slots slots' : List (Option ℕ)} {rule : Rule} {slot : Option ℕ} → rules ≡ rule ∷ rules' → slots ≡ slot ∷ slots'
    → bytes_of rules slots ≡ field_bytes rule slot ++ bytes_of rules' slots'
unfolding bytes_of
bytes_next p q = rw (p, q)

-- so much of a text is stored, and what is left of it is to be stored at the place that is reached
pub record Putting (before : List ℕ) (start : ℕ) (whole left : List ℕ) (at : ℕ) (buffer : List ℕ) : Type 0 where
  pub place : at + length left ≡ start + length whole
  pub stores : sets buffer at left ≡ sets before start whole

pub putting_start : (before : List ℕ) (start : ℕ) (whole : List ℕ) → Putting before start whole whole start before
putting_start before start whole = record { place = refl; stores = refl }

pub putting_more : {before buffer last whole left part rest : List ℕ} {start at after : ℕ} → Putting before start whole left at buffer
    → left ≡ part ++ rest → Puts buffer at part after last → Putting before start whole rest after last
putting_more {buffer = buffer} {part = part} {rest = rest} {at = at} inv e put =
    record {
      place = omega (arith, inv.place, put.place_is, ap length e, length-append part rest);
      stores = rw (put.stored, put.place_is) (sets_more buffer at part rest ∙ ap (sets buffer at) (sym e) ∙ inv.stores);
    }

-- there is room for the next part where there is for all
pub putting_room : (part rest : List ℕ) {before buffer whole left : List ℕ} {start at room : ℕ} → Putting before start whole left at buffer
    → left ≡ part ++ rest → start + length whole ≤ room → at + length part ≤ room
putting_room part rest inv e h = omega (arith, inv.place, ap length e, length-append part rest)

pub putting_end : {before buffer whole left : List ℕ} {start at : ℕ} → Putting before start whole left at buffer → left ≡ [] → Puts before start whole at buffer
putting_end inv e = let l = ap length e in record { place_is = omega (arith, inv.place); stored = rw e at inv.stores }
