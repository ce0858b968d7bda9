use Prim.Native.Nat.{◌/◌, ◌%◌, ◌^◌}
use native.Mathlib.Omega.{arith}
use Rattle.wide.proofs.Words.{top}
use Rattle.wide.proofs.division.Laws.{spread}
use Rattle.wide.proofs.division.left_over.Goals as goal

pub overflow_sub-r : goal.overflow_sub-r
overflow_sub-r c = let a = c.args in omega (arith, spread a.q a.d (a.d / 2 ^ 32) (a.d % 2 ^ 32) (omega arith))

pub returns-then-w-t : goal.returns-then-w-t
returns-then-w-t c =
    let a = c.args in
    omega (arith, spread a.q a.d (a.d / 2 ^ 32) (a.d % 2 ^ 32) (omega arith), top a.q (a.d % 2 ^ 32) c.requires.4 (omega arith))

pub returns-else-w-t : goal.returns-else-w-t
returns-else-w-t c =
    let a = c.args in
    omega (arith, spread a.q a.d (a.d / 2 ^ 32) (a.d % 2 ^ 32) (omega arith), top a.q (a.d % 2 ^ 32) c.requires.4 (omega arith))
