-- The bracket of ln a stands at every depth and is narrow; how large its ends are.
use Rattle.std.specs.Prelude.{◌*◌, ◌≤◌}
use Rattle.bracket.specs.declared.Bracket.{Bracket}

-- how large the numbers of a bracket's ends are
pub record EndSizes (b : Bracket) : Type 0 where
  pub low_den_most : b.low_den ≤ 1000000000000
  pub high_den_most : b.high_den ≤ 1000000000000
  pub low_most : b.low_num ≤ 10 * b.low_den
  pub high_most : b.high_num ≤ 10 * b.high_den
