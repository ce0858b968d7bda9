-- The table has the brackets of its exponents: one computed test.
use Prim.Native.Nat.{suc}
use Rattle.exponential.specs.StoredBrackets.{holds_stored}
use Rattle.exponential.specs.StoredBracketLaws.{stored_by_test}
use Rattle.model.specs.Parts.{hazard_exponent}
use Rattle.prediction.proofs.stored.stored_hazards.Goals as goal

pub returns : goal.returns
unfolding holds_stored
returns c = stored_by_test 7 (λ i. hazard_exponent (suc i)) _ tt
