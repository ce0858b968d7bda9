-- The columns make the product.
use Prim.Native.Nat.{◌/◌, ◌%◌, ◌^◌}
use native.Mathlib.Omega.{arith}
use Rattle.wide.proofs.Words.{cross}
use Rattle.wide.proofs.word.product.Goals as goal

pub returns : goal.returns
returns c = let a = c.args.a in let b = c.args.b in omega (arith, cross a b (a / 2 ^ 32) (a % 2 ^ 32) (b / 2 ^ 32) (b % 2 ^ 32) (omega arith) (omega arith))
