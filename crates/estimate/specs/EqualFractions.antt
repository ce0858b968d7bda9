-- EQUAL FRACTIONS HAVE THE SAME ESTIMATES of a power at every depth, those at p/q and at (p k)/(q k): for exponents in thousandths.
use Rattle.std.specs.Prelude.{ℕ, ◌+◌, ◌*◌, ◌^◌, ◌<◌, ◌≡◌}
use Rattle.std.proofs.Common.{ap, mul-pos}
use Rattle.estimate.specs.Fraction.{decimal}
use Rattle.estimate.specs.Search.{largest_unique}
use Rattle.estimate.specs.Power.{power_largest, power_under, power_over, power_largest_is}
use Rattle.estimate.specs.PowerLaws.{power_low_lift, power_low_reduce}

module _ (d A p q k : ℕ) (hq : 0 < q) (hk : 0 < k) where
  pub power_largest_lifted : power_largest d A (p * k) (q * k) ≡ power_largest d A p q
  power_largest_lifted =
      let is = power_largest_is d A p q hq in
      largest_unique (power_largest_is d A (p * k) (q * k) (mul-pos hq hk))
      (record {
        holds = power_low_lift A p q (10 ^ d) (power_largest d A p q) k is.holds;
        most = λ s h. is.most s (power_low_reduce A p q (10 ^ d) s k hk h);
      })

  pub power_under_lifted : power_under d A (p * k) (q * k) ≡ power_under d A p q
  unfolding power_under
  power_under_lifted = ap (decimal d) power_largest_lifted

  pub power_over_lifted : power_over d A (p * k) (q * k) ≡ power_over d A p q
  unfolding power_over
  power_over_lifted = ap (λ (t : ℕ). decimal d (t + 1)) power_largest_lifted
