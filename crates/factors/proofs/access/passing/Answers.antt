use native.Mathlib.Omega.{arith}
use mathlib.Core.List.{[], ◌∷◌}
use Prim.Native.Nat.{◌<◌}
use lib.ListN.{get_or}
use Rattle.laws.specs.Table.{all_below, agree_below}
use Rattle.estimate.specs.Fraction.{◌÷◌, fraction}
use Rattle.model.specs.Access.{passing}
use Rattle.factors.proofs.access.passing.Goals as goal

pub returns : goal.returns
unfolding passing ◌÷◌ fraction all_below
returns c =
    let h : c.args.kind < 3 = omega arith in
    rw (agree_below (λ k. get_or (100 ∷ 75 ∷ 65 ∷ []) k 0) (λ k. get_or (100 ∷ 75 ∷ 65 ∷ []) k 100) 3 tt c.args.kind h)
