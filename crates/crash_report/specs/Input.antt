-- What reading standard input answers.
use Rattle.std.specs.Prelude.{ℕ, ◌≤◌, Result, IfOk}

-- the bytes that were read lie within the buffer, unless a read failed
abbrev pub InputWithin : {E : Type 0} → Result ℕ E → (room : ℕ) → Type 0
InputWithin answer room = IfOk answer (λ n. n ≤ room)
