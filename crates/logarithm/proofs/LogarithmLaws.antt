-- Laws of LogarithmLaws in specs/.
use Rattle.std.specs.Prelude.{ℕ, ◌+◌, ◌*◌, ◌≤◌, ◌<◌, ◌≡◌}
use Rattle.std.proofs.Common.{ap, lit<}
use Rattle.std.proofs.Math.Nat.{mul-le-mul_right, one-le-pow}
use native.Mathlib.Omega.{arith}
use Rattle.std.proofs.Math.Dec.{lit≤}
use Rattle.estimate.specs.Fraction.{Fraction, ◌≤ᶠ◌, ◌=ᶠ◌, fraction, whole, decimal, ◌+ᶠ◌, ◌*ᶠ◌}
use Rattle.estimate.specs.FractionLaws.{≤ᶠ-refl, ≤ᶠ-trans, =ᶠ-≤ᶠ, =ᶠ-≥ᶠ, whole_mono, decimal_mono}
use Rattle.estimate.specs.Exponential.{exp_under, partial_sum, sum_num, term_num, term_den}
use Rattle.estimate.specs.ExponentialBounds.{AtMostExp, AtLeastExp, at_most_weaker, at_least_weaker, at_most_product, at_least_product}
use Rattle.estimate.specs.Logarithm.{ln_under, ln_over, ln_smallest_is}
use Rattle.estimate.specs.LogarithmLaws.{ln_low_stands, below_ln_over, ln_over_mono}
use Rattle.estimate.proofs.LogarithmLaws.{ln_high_stands}
use Rattle.estimate.specs.Remainder.{ratio}
use Rattle.bracket.specs.Bracket.{Stands, AbsoluteWidth, logarithm_width}
use Rattle.remainder.specs.Split.{first_factor, second_factor, split_rest, Splits, split_is}
use Rattle.remainder.specs.Remainder.{scale, log_low, log_high}
use Rattle.remainder.specs.LogarithmBounds.{log_low_at_least, log_high_at_most, log_in_order, log_near}
use Rattle.logarithm.specs.Stored.{stored_low, stored_high, stored_low_at_least, stored_high_at_most, stored_in_order, stored_near}
use Rattle.logarithm.specs.Logarithm.{logarithm_low, logarithm_high, logarithm_bracket}
use Rattle.logarithm.specs.LogarithmLaws.{EndSizes}

-- SUMS OF BOUNDS

decimal_sum : (d s t : ℕ) → decimal d (s + t) =ᶠ decimal d s +ᶠ decimal d t
unfolding decimal fraction ◌+ᶠ◌
decimal_sum d s t = record { cross = omega arith }

module _ {A B : Fraction} (d s t : ℕ) where
  at_least_sum : AtLeastExp A (decimal d s) → AtLeastExp B (decimal d t) → AtLeastExp (A *ᶠ B) (decimal d (s + t))
  at_least_sum h k = at_least_weaker (≤ᶠ-refl (A *ᶠ B)) (=ᶠ-≤ᶠ (decimal_sum d s t)) (at_least_product h k)

  at_most_sum : AtMostExp A (decimal d s) → AtMostExp B (decimal d t) → AtMostExp (A *ᶠ B) (decimal d (s + t))
  at_most_sum h k = at_most_weaker (≤ᶠ-refl (A *ᶠ B)) (=ᶠ-≥ᶠ (decimal_sum d s t)) (at_most_product h k)

-- a = n m + r is n times m times (n m + r)/(n m)
split_product : (a n m r : ℕ) (h : 0 < n * m) → n * m + r ≡ a → whole n *ᶠ whole m *ᶠ ratio (n * m) r h =ᶠ whole a
unfolding whole fraction ◌*ᶠ◌ ratio
split_product a n m r h e = record { cross = omega (arith, ap (λ z. n * m * z) e) }

module _ (a : ℕ) (from : 1 ≤ a) (to : a ≤ 20000) where
  parts : Splits a (first_factor a) (second_factor a) (split_rest a)
  parts = split_is a from (omega arith)

  product : whole (first_factor a) *ᶠ whole (second_factor a) *ᶠ ratio (first_factor a * second_factor a) (split_rest a) parts.rest.positive =ᶠ whole a
  product = split_product a (first_factor a) (second_factor a) (split_rest a) parts.rest.positive parts.is

  n_few : first_factor a ≤ 20000
  n_few = omega (arith, parts.n_to)

  m_few : second_factor a ≤ 20000
  m_few = omega (arith, parts.m_to)

  -- e^(low) ≤ a
  low_at_least : AtLeastExp (whole a) (decimal 12 (logarithm_low a))
  unfolding logarithm_low
  low_at_least =
      let n = first_factor a in
      let m = second_factor a in
      at_least_weaker (=ᶠ-≤ᶠ product) (≤ᶠ-refl (decimal 12 (stored_low n + stored_low m + log_low (n * m) (split_rest a))))
      (at_least_sum 12 (stored_low n + stored_low m) (log_low (n * m) (split_rest a))
      (at_least_sum 12 (stored_low n) (stored_low m) (stored_low_at_least n parts.n_from n_few) (stored_low_at_least m parts.m_from m_few))
      (log_low_at_least (n * m) (split_rest a) parts.rest))

  -- a ≤ e^(high)
  high_at_most : AtMostExp (whole a) (decimal 12 (logarithm_high a))
  unfolding logarithm_high
  high_at_most =
      let n = first_factor a in
      let m = second_factor a in
      at_most_weaker (=ᶠ-≥ᶠ product) (≤ᶠ-refl (decimal 12 (stored_high n + stored_high m + log_high (n * m) (split_rest a))))
      (at_most_sum 12 (stored_high n + stored_high m) (log_high (n * m) (split_rest a))
      (at_most_sum 12 (stored_high n) (stored_high m) (stored_high_at_most n parts.n_from n_few) (stored_high_at_most m parts.m_from m_few))
      (log_high_at_most (n * m) (split_rest a) parts.rest))

  pub logarithm_in_order : logarithm_low a ≤ logarithm_high a
  unfolding logarithm_low logarithm_high
  logarithm_in_order =
      omega (
        arith,
        stored_in_order (first_factor a) parts.n_from n_few,
        stored_in_order (second_factor a) parts.m_from m_few,
        log_in_order (first_factor a * second_factor a) (split_rest a) parts.rest,
      )

  -- 7.505 * 10^-9 apart at most
  pub logarithm_near : logarithm_high a ≤ logarithm_low a + 7505
  unfolding logarithm_low logarithm_high
  logarithm_near =
      omega (
        arith,
        stored_near (first_factor a) parts.n_from n_few,
        stored_near (second_factor a) parts.m_from m_few,
        log_near (first_factor a * second_factor a) (split_rest a) parts.rest,
      )

  -- HOW LARGE THE ENDS ARE: ln 20,000 is below 9.91

  low_below : decimal 12 (logarithm_low a) ≤ᶠ decimal 2 991
  low_below =
      ≤ᶠ-trans (below_ln_over low_at_least 2) (≤ᶠ-trans (ln_over_mono (whole_mono to) 2)
      (unfold ln_over in decimal_mono 2 ((ln_smallest_is 2 (whole 20000)).least 991 by_sum)))
    where
      by_sum : whole 20000 ≤ᶠ exp_under 2 (decimal 2 991)
      by_sum = unfold exp_under partial_sum sum_num term_num term_den decimal whole fraction in record { cross = lit≤ tt }

  pub logarithm_high_small : logarithm_high a ≤ 9920000000000
  logarithm_high_small = let l = low_below in unfold decimal fraction in omega (arith, l.cross, logarithm_near)

  -- AT EVERY DEPTH
  pub logarithm_stands : Stands (logarithm_bracket a) (λ d. ln_under d (whole a)) (λ d. ln_over d (whole a))
  unfolding decimal logarithm_bracket
  logarithm_stands = record {
    low_den = one-le-pow 12 10 (lit< tt);
    high_den = one-le-pow 12 10 (lit< tt);
    low_right = ln_low_stands low_at_least;
    high_right = ln_high_stands (whole_mono from) high_within high_at_most;
    in_order = unfold fraction in record { cross = mul-le-mul_right scale logarithm_in_order };
  }
    where
      high_within : decimal 12 (logarithm_high a) ≤ᶠ whole 21
      high_within = unfold decimal whole fraction in omega (arith, logarithm_high_small)

  pub logarithm_width_lem : AbsoluteWidth logarithm_width (logarithm_bracket a)
  unfolding logarithm_width logarithm_bracket
  logarithm_width_lem = record { width = omega (arith, logarithm_near) }

  -- an end is at most 10, over at most 10^12
  pub logarithm_sizes : EndSizes (logarithm_bracket a)
  unfolding logarithm_bracket
  logarithm_sizes = record {
    low_den_most = lit≤ tt;
    high_den_most = lit≤ tt;
    low_most = omega (arith, logarithm_in_order, logarithm_high_small);
    high_most = omega (arith, logarithm_high_small);
  }
