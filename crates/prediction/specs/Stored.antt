-- The stored factors. Base and hazard are powers of e at a few exponents only, so their brackets are stored: which exponents each table is of.
use Rattle.std.specs.Prelude.{ℕ, suc, List}
use Rattle.exponential.specs.StoredBrackets.{StoredBrackets}
use Rattle.model.specs.Coefficients.{Coefficients}
use Rattle.model.specs.Parts.{base_exponent, hazard_exponent}

-- the base factors of an edition, by kind
abbrev pub StoredBases : Coefficients → List ℕ → Type 0
StoredBases k = StoredBrackets 4 (base_exponent k)

-- the hazard factors, by rating from 1 on
abbrev pub StoredHazards : List ℕ → Type 0
StoredHazards = StoredBrackets 7 (λ i. hazard_exponent (suc i))
