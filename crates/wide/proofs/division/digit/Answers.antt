use Prim.Native.Nat.{◌+◌, ◌*◌, ◌/◌, ◌%◌, ◌^◌, ◌<◌}
use native.Mathlib.Nat.{div-add-mod'}
use native.Mathlib.Omega.{arith}
use Rattle.wide.proofs.division.Laws.{pos, short, first, failed, long, passed, past, again}
use Rattle.wide.proofs.division.digit.Goals as goal
use Rattle.wide.proofs.division.digit.Goals.{then-q-lt-BASE+else-q-d0, else-q-lt-BASE}

pub loop-r-init : goal.loop-r-init
loop-r-init c = (div-add-mod' _ _, first _ _ _ (c.args.d / 2 ^ 32) (c.args.d % 2 ^ 32) (omega arith) (omega arith) (omega arith))

pub returns-then-q-d0 : goal.returns-then-q-d0
returns-then-q-d0 c =
    let l = c.loop-r in
    let a = c.args in
    (passed _ _ _ (a.d / 2 ^ 32) (a.d % 2 ^ 32) (omega arith) l.q l.r l.invariant.0 c.if-q-d0.true, l.invariant.1, omega arith)

pub loop-r-preserved : goal.loop-r-preserved
loop-r-preserved c =
    let l = c.loop-r in
    let a = c.args in
    -- where the turn goes on, the estimate is too large
    let large : a.rest * 2 ^ 32 + a.next < l.q * a.d =
    elim c.if-q-lt-BASE.branch [
      | then-q-lt-BASE+else-q-d0 w ↦ failed a.rest a.next a.d (a.d / 2 ^ 32) (a.d % 2 ^ 32) (omega arith) l.q l.r l.invariant.0 w.if-q-d0.false
      | else-q-lt-BASE w ↦ long a.rest a.next a.d (a.d / 2 ^ 32) (a.d % 2 ^ 32) (omega arith) l.q (omega arith) (omega arith) w.if-q-lt-BASE.false
    ] in
    again _ _ _ l.q _ l.r _ (omega (arith, pos _ _ _ large)) l.invariant.0 large

pub returns : goal.returns
returns c =
    let l = c.loop-r in
    let a = c.args in
    let p = past a.rest a.next a.d (a.d / 2 ^ 32) (a.d % 2 ^ 32) (omega arith) l.q l.r c.requires.1 (omega arith) l.invariant.0 c.loop-r-test.false in
    (p, l.invariant.1, short _ _ _ l.q c.requires.1 c.requires.2 p)
