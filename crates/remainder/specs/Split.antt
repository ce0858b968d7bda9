-- A number a from 1 to 65536 as n m + r. Document 01: "how a larger A is reached is free".
use Rattle.std.specs.Prelude.{ℕ, zero, suc, ◌+◌, ◌-◌, ◌*◌, ◌≤◌, ◌<◌, ◌≡◌}
use Rattle.std.proofs.Common.{mul-pos, arith}
use Rattle.laws.specs.Quotient.{quotient_down, quotient_up, RoundedDown, RoundedUp, rounded_down, quotient_up_lem, at_most}
use Rattle.remainder.specs.Remainder.{SmallRest}
use Rattle.remainder.specs.declared.Parts.{Parts}

-- n = a/256, rounded up
unfoldable pub first_factor : ℕ → ℕ
first_factor a = quotient_up a 256

-- m = a/n, rounded down
unfoldable pub second_factor : ℕ → ℕ
second_factor a = quotient_down a (first_factor a)

-- r = a - n m
unfoldable pub split_rest : ℕ → ℕ
split_rest a = a - first_factor a * second_factor a

abbrev pub split_of : ℕ → Parts
split_of a = record { n = first_factor a; m = second_factor a; r = split_rest a }

-- what the split gives: both factors within the stored numbers, and a rest that is small beside their product; where there is one,
-- the factors are not small
pub record Splits (a n m r : ℕ) : Type 0 where
  pub is : n * m + r ≡ a
  pub n_from : 1 ≤ n
  pub n_to : n ≤ 256
  pub m_from : 1 ≤ m
  pub m_to : m ≤ 256
  pub rest : SmallRest (n * m) r
  pub n_from_two : 0 < r → 2 ≤ n
  pub m_from_128 : 0 < r → 128 ≤ m

splits_by : (a n m : ℕ) → 1 ≤ a → a ≤ 65536 → RoundedUp a 256 n → RoundedDown a n m → Splits a n m (a - n * m)
splits_by a n m h k f g =
    let nm : n * m ≤ a = omega (arith, g.below) in
    let n_from : 1 ≤ n = omega (arith, f.above) in
    let m_from : 1 ≤ m = from_one m n (omega (arith, f.near, g.near)) in
    record {
      is = omega arith;
      n_from = n_from;
      n_to = omega (arith, f.near);
      m_from = m_from;
      m_to = at_most m n 256 (omega (arith, f.above, g.below));
      rest = record { positive = mul-pos n_from m_from; small = omega (arith, f.near, g.near); few = omega arith };
      n_from_two = λ r. omega (arith, g.near);
      m_from_128 = λ r. at_most 128 n m (omega (arith, f.near, g.near));
    }
  where
    from_one : (m n : ℕ) → n < m * n + n → 1 ≤ m
    from_one zero n h = absurd (omega arith)
    from_one (suc m) n h = omega arith

pub split_is : (a : ℕ) → 1 ≤ a → a ≤ 65536 → Splits a (first_factor a) (second_factor a) (split_rest a)
unfolding first_factor second_factor split_rest
split_is a h k =
    let f = quotient_up_lem a 256 (omega arith) in
    splits_by a (quotient_up a 256) (quotient_down a (quotient_up a 256)) h k f (rounded_down a (quotient_up a 256) (omega (arith, f.above)))

pub splits_of : {a : ℕ} {s : Parts} → s ≡ split_of a → 1 ≤ a → a ≤ 65536 → Splits a s.n s.m s.r
splits_of {a} {s} e h k = rw e (split_is a h k)
