-- The invariant: q and r divide rest by d's upper digit, and q is not too small.
use mathlib.Core.Path.{◌≡◌}
use Prim.Native.Nat.{◌+◌, ◌*◌, ◌^◌, ◌<◌}
use Rattle.wide.proofs.division.digit.Given as goal

abbrev pub invariant-loop-r : goal.invariant-loop-r
invariant-loop-r l = (l.q * l.d1 + l.r ≡ l.fn.rest) × (l.fn.rest * 2 ^ 32 + l.fn.next < l.q * l.fn.d + l.fn.d)

abbrev pub decreases-loop-r : goal.decreases-loop-r
decreases-loop-r l = l.q
