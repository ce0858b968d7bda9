use Prim.Native.Nat.{ℕ, suc, ◌-◌}
use mathlib.Core.Path.{◌≡◌, ap, ◌∙◌}
use native.Mathlib.Omega.{arith}
use Rattle.exponential.specs.StoredBrackets.{stored_bracket}
use Rattle.exponential.specs.StoredBracketLaws.{entry_is}
use Rattle.model.specs.Parts.{hazard_exponent}
use Rattle.prediction.proofs.stored.hazard_factor.Goals as goal

pub returns : goal.returns
returns c =
    let rating = c.args.rating in
    let is : suc (rating - 1) ≡ rating = omega arith in
    c.stored_bracket.ensures ∙ entry_is c.stored_hazards-ends.ensures (rating - 1) (omega arith) ∙ ap (λ (n : ℕ). stored_bracket (hazard_exponent n)) is
