use Prim.Native.Nat.{ℕ, ◌+◌, ◌*◌, ◌/◌}
use mathlib.Core.Path.{ap, ◌∙◌}
use native.Mathlib.Nat.{div-div-eq-div-mul}
use native.Mathlib.Omega.{arith}
use Rattle.wide.proofs.Words.{by_parts}
use Rattle.wide.proofs.scale.scale_by_parts.Goals as goal

pub overflow_mul-result : goal.overflow_mul-result
overflow_mul-result c = let a = c.args in omega (arith, by_parts a.a a.n a.more a.part c.requires.0)

pub overflow_add-result-2 : goal.overflow_add-result-2
overflow_add-result-2 c = let a = c.args in omega (arith, by_parts a.a a.n a.more a.part c.requires.0)

pub returns : goal.returns
returns c =
    let a = c.args in
    ap (λ (x : ℕ). x / a.other) (by_parts a.a a.n a.more a.part c.requires.0) ∙ div-div-eq-div-mul (a.a * a.n + a.more) a.part a.other
