-- A bound of the brackets of exponentials, from their promise and one computed sum.
use Rattle.std.specs.Prelude.{ℕ, ◌*◌, Bool, leb}
use Rattle.estimate.specs.Fraction.{fraction, ten_thousandths}
use Rattle.estimate.specs.Exponential.{sum_with_tail, sum_num, term_num, term_den}

-- a sum with its tail at X is at most v / D; a test that opens it computes the sum
unfoldable pub sum_at_most : (X v D : ℕ) → Bool
unfolding sum_with_tail sum_num term_num term_den ten_thousandths fraction
sum_at_most X v D = let s = sum_with_tail 7 (ten_thousandths X) in leb (s.num * D) (v * s.den)
