-- What is left in a lent run: nothing of a refusal, nor of values that do not fit, or all of them at its start.
use Prim.Native.Nat.{ℕ, ◌≤◌, ◌<◌}
use mathlib.Core.List.{List, []}
use native.Mathlib.Omega.{arith}
use lib.ListN.{length}
use lib.Seq.{sets}
use borrow.Author.Tests.{lt-leb, le-leb}
use Rattle.laws.specs.Stores.{sets_laid}
use Rattle.unit.specs.Lent.{LendsValues}

module _ (run : List ℕ) (number : ℕ) where
  pub refused : LendsValues number [] run run number
  refused = let l = le-leb 0 (length run) (omega arith) in record { number_is = rw l; run_is = rw l }

  module _ (values : List ℕ) where
    pub no_space : length run < length values → LendsValues number values run run 10
    no_space h = let l = lt-leb (length values) (length run) h in record { number_is = rw l; run_is = rw l }

    pub lent : length values ≤ length run → LendsValues number values run (sets run 0 values) number
    lent h =
        let l = le-leb (length values) (length run) h in
        record { number_is = rw l; run_is = rw l (sets_laid values run h) }
