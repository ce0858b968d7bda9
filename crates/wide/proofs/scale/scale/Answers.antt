-- A factor of 1, or the product and what comes to it by d.
use native.Mathlib.Omega.{arith}
use mathlib.Core.Path.{ap, ◌∙◌}
use Prim.Native.Nat.{ℕ, ◌+◌}
use Rattle.wide.proofs.scale.Laws.{large, one}
use Rattle.wide.proofs.scale.scale.Goals as goal

pub returns-then-n-d : goal.returns-then-n-d
returns-then-n-d c = one _ _ _ _ (omega arith) c.requires (omega arith)

pub returns-else-w-d : goal.returns-else-w-d
returns-else-w-d c =
    let w = c.plus-w in
    large w.result.high w.result.low _ _ (w.ensures ∙ ap (λ (x : ℕ). x + c.args.more) c.product.ensures) c.if-w-d.false
