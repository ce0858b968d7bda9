-- THE LINE of a valid site stands.
use Rattle.std.specs.Prelude.{ℕ, ◌*◌, ◌≤◌}
use Rattle.std.proofs.Common.{arith}
use Rattle.std.proofs.Math.Decide.{dec_le}
use Rattle.estimate.specs.Fraction.{Fraction}
use Rattle.model.specs.Expected.{expected_low, expected_high}
use Rattle.model.proofs.ExpectedLaws.{history-≤-expected_low, expected_low-≤-prediction, history-≤-expected_high, expected_high-≤-prediction}
use Rattle.model.proofs.ExpectedLaws.{prediction-≤-expected_low, expected_low-≤-history, prediction-≤-expected_high, expected_high-≤-history}
use Rattle.line.specs.Stands.{Amid}

-- the expected numbers lie between the prediction and the history
module _ (k : Fraction) (O n : ℕ) where
  pub low_between : Amid n (O * 1000000) (expected_low k O n)
  low_between = by (dec_le (O * 1000000) n)
    where
      by : Dec (O * 1000000 ≤ n) → Amid n (O * 1000000) (expected_low k O n)
      by (yes h) = record { from = omega (arith, history-≤-expected_low k O n h); to = omega (arith, expected_low-≤-prediction k O n h) }
      by (no f) =
          let h : n ≤ O * 1000000 = omega arith in
          record { from = omega (arith, prediction-≤-expected_low k O n h); to = omega (arith, expected_low-≤-history k O n h) }

  pub high_between : Amid n (O * 1000000) (expected_high k O n)
  high_between = by (dec_le (O * 1000000) n)
    where
      by : Dec (O * 1000000 ≤ n) → Amid n (O * 1000000) (expected_high k O n)
      by (yes h) = record { from = omega (arith, history-≤-expected_high k O n h); to = omega (arith, expected_high-≤-prediction k O n h) }
      by (no f) =
          let h : n ≤ O * 1000000 = omega arith in
          record { from = omega (arith, prediction-≤-expected_high k O n h); to = omega (arith, expected_high-≤-history k O n h) }
