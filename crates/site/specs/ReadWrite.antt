-- What is read is written back: field by field, then the curve, then the whole record.
use Rattle.std.specs.Prelude.{Option}
use Rattle.std.specs.Prelude.{◌≡◌, refl, Bool, true, false, cond, ℕ, length}
use Rattle.std.proofs.Common.{◌∙◌, arith}
use mathlib.Core.List.{List}
use Rattle.site.specs.declared.values.Later.{Later}
use Rattle.site.specs.Rules.{slot_count}
use Rattle.site.specs.Record.{site_of}
use Rattle.site.specs.Writing.{slots_of}
use Rattle.site.specs.LaterLaws.{firsts, firsts_drop}

-- a value that stands without refusal is allowed, and is no default
pub value_taken : (a d : Bool) → ◌≡◌ {A = ℕ} (cond a (cond d 9 0) 8) 0 → (a ≡ true) × (d ≡ false)
value_taken true true e = let z : ⊥ = omega arith in absurd z
value_taken true false e = (refl, refl)
value_taken false d e = let z : ⊥ = omega arith in absurd z

-- the slots of a site are those that it was made of
pub slots_of_site : (kind : ℕ) (slots : List (Option ℕ)) (traffic minor : Later) → length slots ≡ slot_count → slots_of (site_of kind slots traffic minor) ≡ slots
unfolding firsts
slots_of_site kind slots traffic minor e = firsts_drop slot_count 0 slots (e ∙ omega arith)
