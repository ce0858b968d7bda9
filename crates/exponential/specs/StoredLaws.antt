-- A table is tested by one computation. Each stored number is at most e^i, and the next one is at least e^i.
use Rattle.std.specs.Prelude.{ℕ, ◌+◌, ◌*◌, ◌≤◌, ◌<◌, Bool, List, T, leb, ltb, eqb, get_or}
use Rattle.std.proofs.Common.{arith, leb→le, ltb→lt, eqb→eq}
use Rattle.estimate.specs.Fraction.{◌≤ᶠ◌, fraction, whole, leᶠ}
use Rattle.estimate.specs.FractionLaws.{≤ᶠ-refl, leᶠ-sound, whole_mono}
use Rattle.laws.specs.Table.{both, both_left, both_right, passes_all, entry_passes, all_below, all_below_lem}
use Rattle.estimate.specs.Exponential.{term_num, term_den, sum_num, partial_sum, sum_with_tail, exp_under, exp_over}
use Rattle.estimate.specs.ExponentialBounds.{AtMostExp, AtLeastExp, at_most_weaker, at_least_weaker, exp_under_at_most}
use Rattle.estimate.proofs.ExponentialOver.{exp_over_at_least}
use Rattle.bracket.specs.Rounded.{rounded_down-≤}
use Rattle.exponential.specs.Scale.{scale, scale_positive, scaled}
use Rattle.exponential.specs.Stored.{stored_exp, StoredExponentials}

-- A TABLE: the test of an entry, and the law that carries it to each
unfoldable pub is_stored : ℕ → ℕ → Bool
is_stored i t = eqb t (stored_exp i)

pub stored_by_test : (table : List ℕ) → T (passes_all is_stored 15 table) → StoredExponentials table
unfolding is_stored
stored_by_test table t = record { entry = λ i h. eqb→eq (get_or table i 0) (stored_exp i) (entry_passes is_stored 15 table t i h) }

-- EACH NUMBER, i up to 14: it is at least 1 and below 1,210,000, and the next one is at least the over-estimate
abbrev pub stored_most : ℕ
stored_most = 1210000 * scale

pub record StoredBounds (i : ℕ) : Type 0 where
  pub least : scale ≤ stored_exp i
  pub most : stored_exp i < stored_most
  pub next_over : exp_over 20 (whole i) ≤ᶠ scaled (stored_exp i + 1)

sized : ℕ → Bool
sized i = both (leb scale (stored_exp i)) (ltb (stored_exp i) stored_most)

next_over : ℕ → Bool
next_over i = leᶠ (exp_over 20 (whole i)) (scaled (stored_exp i + 1))

bounded : ℕ → Bool
bounded i = both (sized i) (next_over i)

bounded_sound : (i : ℕ) → T (bounded i) → StoredBounds i
unfolding bounded sized next_over
bounded_sound i t =
    let s = both_left (sized i) (next_over i) t in
    record {
      least = leb→le _ _ (both_left (leb scale (stored_exp i)) (ltb (stored_exp i) stored_most) s);
      most = ltb→lt _ _ (both_right (leb scale (stored_exp i)) (ltb (stored_exp i) stored_most) s);
      next_over = leᶠ-sound _ _ (both_right (sized i) (next_over i) t);
    }

all_bounded : T (all_below bounded 15)
unfolding all_below bounded sized next_over stored_exp exp_under exp_over partial_sum sum_with_tail sum_num term_num term_den whole scaled fraction leᶠ
all_bounded = tt

pub stored_bounds_lem : (i : ℕ) → i < 15 → StoredBounds i
stored_bounds_lem i h = bounded_sound i (all_below_lem bounded 15 all_bounded i h)

pub stored_at_most_lem : (i : ℕ) → AtMostExp (scaled (stored_exp i)) (whole i)
unfolding stored_exp scaled
stored_at_most_lem i = at_most_weaker (rounded_down-≤ scale scale_positive (exp_under 20 (whole i))) (≤ᶠ-refl (whole i)) (exp_under_at_most 20 (whole i))

pub stored_at_least : (i : ℕ) → i < 15 → AtLeastExp (scaled (stored_exp i + 1)) (whole i)
stored_at_least i h = at_least_weaker (stored_bounds_lem i h).next_over (≤ᶠ-refl (whole i)) (exp_over_at_least 20 (whole i) (whole_mono (omega arith)))
