-- Laws of File in specs/.
use Rattle.std.specs.Prelude.{Result, Err}
use Rattle.site.specs.declared.refusal.Refusal.{Refusal}
use Rattle.project.specs.declared.Refused.{Refused}
use Rattle.std.specs.Prelude.{ℕ, ◌≡◌}
use Rattle.std.proofs.Common.{ap, add-zero}
use Rattle.project.specs.File.{refused_at, after_record}

-- "Place is the record's first byte": the reader's place is 0
pub place_of_record : (at : ℕ) (refusal : Refusal) (k : ℕ → Result ℕ Refused) → after_record at (Err refusal) k ≡ refused_at refusal at
place_of_record at refusal k = ap (λ (place : ℕ). refused_at refusal place) (add-zero at)
