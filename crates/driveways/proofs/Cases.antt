-- The part's bracket from the bracket of ln A and the part's values at its ends.
use Prim.Native.Nat.{ℕ, ◌*◌, ◌≤◌, ◌<◌}
use mathlib.Core.Path.{◌≡◌, sym}
use Rattle.bracket.specs.declared.Bracket.{Bracket}
use Rattle.logarithm.specs.Logarithm.{logarithm_bracket}
use Rattle.logarithm.proofs.LogarithmLaws.{logarithm_sizes}
use Rattle.logarithm.proofs.LogarithmStanding.{logarithm_standing}
use Rattle.model.specs.Access.{driveway_at}
use Rattle.bracket.specs.Ratio.{coded, spanned}
use Rattle.bracket.specs.declared.Ratio.{Ratio}
use Rattle.driveways.specs.Driveways.{low_end, high_end, driveway_bracket}
use Rattle.driveways.specs.DrivewayLaws.{bracket_rising, bracket_falling}

-- an end of ln A is at most 10, so the slope there does not go below 0
abbrev Fits : (num den : ℕ) → Type 0
Fits num den = (0 < den) × (den ≤ 1000000000000) × (num ≤ 10 * den)

module _ (a : ℕ) (from : 1 ≤ a) (to : a ≤ 20000) {ln : Bracket} (is : ln ≡ logarithm_bracket a) where
  pub low_fits : Fits ln.low_num ln.low_den
  low_fits = let n = logarithm_sizes a from to in rw is ((logarithm_standing a from to).stands.low_den, n.low_den_most, n.low_most)

  pub high_fits : Fits ln.high_num ln.high_den
  high_fits = let n = logarithm_sizes a from to in rw is ((logarithm_standing a from to).stands.high_den, n.high_den_most, n.high_most)

module _ (constant fewest count : ℕ) {ln known : Bracket} {at_low at_high : Ratio}
    (is : known ≡ ln) (low_is : at_low ≡ coded (driveway_at constant count (low_end known)))
    (high_is : at_high ≡ coded (driveway_at constant count (high_end known))) (l : fewest ≤ count) where
  pub rising_ends : count < 5 → spanned at_low at_high ≡ driveway_bracket constant fewest count ln
  rising_ends few = rw (low_is, high_is, is) (sym (bracket_rising constant fewest count ln l few))

  pub falling_ends : 5 ≤ count → spanned at_high at_low ≡ driveway_bracket constant fewest count ln
  falling_ends many = rw (low_is, high_is, is) (sym (bracket_falling constant fewest count ln l many))
