-- Laws of the partial sums of e^x: they grow, their tail bounds them all, and both rise with x.
use Rattle.std.specs.Prelude.{ℕ, zero, suc, ◌+◌, ◌*◌, ◌≤◌, ◌<◌, ◌≡◌, refl}
use Rattle.std.proofs.Common.{zero-le, mul-pos, mul-le-mul, mul-le-mul_right, mul-lt-mul_of_pos_right, not-suc-le-zero, arith}
use Rattle.estimate.specs.Fraction.{Fraction, ◌≤ᶠ◌, ◌<ᶠ◌, ◌=ᶠ◌, whole, ◌+ᶠ◌}
use Rattle.estimate.specs.FractionLaws.{≤ᶠ-trans, <ᶠ-≤ᶠ, rises_by_steps}
use Rattle.estimate.specs.Exponential.{term_num, term_den, sum_num, partial_sum, sum_with_tail}

-- THE SUMS GROW, AND THE TAIL BOUNDS THEM

sum_grows : (m : ℕ) (x : Fraction) → partial_sum m x ≤ᶠ partial_sum (suc m) x
unfolding partial_sum sum_num term_den
sum_grows m x = omega arith

pub partial_sums_grow : (x : Fraction) (k m : ℕ) → k ≤ m → partial_sum k x ≤ᶠ partial_sum m x
partial_sums_grow x k m h = rises_by_steps (λ i. partial_sum i x) k (λ i _. sum_grows i x) m h

pub sum-≤-with_tail : (m : ℕ) (x : Fraction) → partial_sum m x ≤ᶠ sum_with_tail m x
unfolding partial_sum sum_with_tail term_den
sum-≤-with_tail m x = omega arith

-- SMALL SUMS

sum_at_zero : (D m : ℕ) → sum_num 0 D m ≡ term_den D m
unfolding sum_num term_den term_num
sum_at_zero D zero = refl
sum_at_zero D (suc m) = rw (sum_at_zero D m) (omega arith)

-- e^0 is 1, with its tail too
pub partial_sum_zero : (m : ℕ) (x : Fraction) → x.num ≡ 0 → partial_sum m x =ᶠ whole 1
unfolding partial_sum whole
partial_sum_zero m x e = record { cross = rw (e, sum_at_zero x.den m) (omega arith) }

pub sum_with_tail_zero : (m : ℕ) (x : Fraction) → x.num ≡ 0 → sum_with_tail m x =ᶠ whole 1
unfolding sum_with_tail term_num term_den whole
sum_with_tail_zero m x e = record { cross = rw (e, sum_at_zero x.den m) (omega arith) }

pub one-≤-partial_sum : (m : ℕ) (x : Fraction) → whole 1 ≤ᶠ partial_sum m x
unfolding partial_sum sum_num term_den whole
one-≤-partial_sum m x = ≤ᶠ-trans {b = partial_sum 0 x} (omega arith) (partial_sums_grow x 0 m zero-le)

pub one_plus-≤-partial_sum : (m : ℕ) (x : Fraction) → 0 < m → whole 1 +ᶠ x ≤ᶠ partial_sum m x
unfolding partial_sum sum_num term_den term_num whole ◌+ᶠ◌
one_plus-≤-partial_sum m x h = ≤ᶠ-trans {b = partial_sum 1 x} (omega arith) (partial_sums_grow x 1 m h)

-- THE SUMS RISE WITH x

pub term_mono : {n n' : ℕ} → n ≤ n' → (i : ℕ) → term_num n i ≤ term_num n' i
unfolding term_num
term_mono h zero = omega arith
term_mono h (suc i) = mul-le-mul (term_mono h i) h

term_rises : (x y : Fraction) → x ≤ᶠ y → (m : ℕ) → term_num x.num m * term_den y.den m ≤ term_num y.num m * term_den x.den m
unfolding term_num term_den
term_rises x y h zero = omega arith
term_rises x y h (suc m) = omega (arith, mul-le-mul_right (suc m) (mul-le-mul (term_rises x y h m) h.cross))

-- one more term, in plain numbers: s/q and s'/q' are the sums so far, c the next index, u and u' the new terms' numerators
one_more-≤ : (s q u s' q' u' D D' c : ℕ) → s * q' ≤ s' * q → u * (q' * (D' * c)) ≤ u' * (q * (D * c)) →
    (s * (D * c) + u) * (q' * (D' * c)) ≤ (s' * (D' * c) + u') * (q * (D * c))
one_more-≤ s q u s' q' u' D D' c h k = omega (arith, mul-le-mul_right (D * D' * (c * c)) h)

one_more-< : (s q u s' q' u' D D' c : ℕ) → 0 < D → 0 < D' → 0 < c → s * q' < s' * q → u * (q' * (D' * c)) ≤ u' * (q * (D * c)) →
    (s * (D * c) + u) * (q' * (D' * c)) < (s' * (D' * c) + u') * (q * (D * c))
one_more-< s q u s' q' u' D D' c p p' pc h k = omega (arith, mul-lt-mul_of_pos_right h (mul-pos (mul-pos p p') (mul-pos pc pc)))

pub partial_sum_mono : {x y : Fraction} → x ≤ᶠ y → (m : ℕ) → partial_sum m x ≤ᶠ partial_sum m y
unfolding partial_sum sum_num term_den
partial_sum_mono h zero = omega arith
partial_sum_mono {x} {y} h (suc m) = record {
  cross = one_more-≤ _ _ _ _ _ _ x.den y.den (suc m) (partial_sum_mono h m).cross (term_rises x y h (suc m));
}

pub sum_with_tail_mono : {x y : Fraction} → x ≤ᶠ y → (m : ℕ) → sum_with_tail m x ≤ᶠ sum_with_tail m y
unfolding partial_sum sum_with_tail term_den
sum_with_tail_mono {x} {y} h m = record {
  cross = one_more-≤ _ _ _ _ _ _ x.den y.den (suc m) (partial_sum_mono h m).cross (omega (arith, term_rises x y h (suc m)));
}

pub partial_sum_strict : {x y : Fraction} → x <ᶠ y → (m : ℕ) → 0 < m → partial_sum m x <ᶠ partial_sum m y
unfolding partial_sum sum_num term_den term_num
partial_sum_strict h zero k = absurd (not-suc-le-zero k)
partial_sum_strict h (suc zero) k = omega arith
partial_sum_strict {x} {y} h (suc (suc m)) k = record {
  cross = one_more-< _ _ _ _ _ _ x.den y.den (suc (suc m)) x.pos y.pos (omega arith) (partial_sum_strict h (suc m) (omega arith)).cross
      (term_rises x y (<ᶠ-≤ᶠ h) (suc (suc m)));
}

pub sum_with_tail_strict : {x y : Fraction} → x <ᶠ y → (m : ℕ) → 0 < m → sum_with_tail m x <ᶠ sum_with_tail m y
unfolding partial_sum sum_with_tail term_den
sum_with_tail_strict {x} {y} h m k = record {
  cross = one_more-< _ _ _ _ _ _ x.den y.den (suc m) x.pos y.pos (omega arith) (partial_sum_strict h m k).cross
      (omega (arith, term_rises x y (<ᶠ-≤ᶠ h) (suc m)));
}
