-- e^x and e^(-x) at depth d, for a fraction x from 0.
use Rattle.std.specs.Prelude.{ℕ, zero, suc, ◌+◌, ◌*◌, ◌^◌, ◌<◌, ◌≡◌}
use Rattle.std.proofs.Common.{ap, mul-pos, pow-suc, arith, lit<}
use Rattle.std.proofs.Math.Nat.{pow-zero, one-le-pow}
use Rattle.estimate.specs.Fraction.{Fraction, ◌=ᶠ◌, whole, fraction, inverse, ◌+ᶠ◌, ◌*ᶠ◌}

-- x^i/i! at x = n/D: its numerator n^i, one factor at a time,
unfoldable pub term_num : (n i : ℕ) → ℕ
term_num n zero = 1
term_num n (suc i) = term_num n i * n

-- and its denominator D^i i!
unfoldable pub term_den : (D i : ℕ) → ℕ
term_den D zero = 1
term_den D (suc i) = term_den D i * (D * suc i)

-- the numerator of 1 + x + .. + x^m/m! over the last term's denominator
unfoldable pub sum_num : (n D m : ℕ) → ℕ
sum_num n D zero = 1
sum_num n D (suc m) = sum_num n D m * (D * suc m) + term_num n (suc m)

pub term_den_positive : (D i : ℕ) → 0 < D → 0 < term_den D i
unfolding term_den
term_den_positive D zero h = lit< tt
term_den_positive D (suc i) h = mul-pos (term_den_positive D i h) (mul-pos h (omega arith))

pub sum_num_positive : (n D m : ℕ) → 0 < D → 0 < sum_num n D m
unfolding sum_num
sum_num_positive n D zero h = lit< tt
sum_num_positive n D (suc m) h = omega (arith, mul-pos (sum_num_positive n D m h) (mul-pos {n = suc m} h (omega arith)))

-- "the sum of x^i/i! for i from 0 to m"
unfoldable pub partial_sum : ℕ → Fraction → Fraction
partial_sum m x = record { num = sum_num x.num x.den m; den = term_den x.den m; pos = term_den_positive x.den m x.pos }

-- "adds 2x^(m+1)/(m+1)!"
unfoldable pub sum_with_tail : ℕ → Fraction → Fraction
sum_with_tail m x = record {
  num = sum_num x.num x.den m * (x.den * suc m) + 2 * term_num x.num (suc m);
  den = term_den x.den (suc m);
  pos = term_den_positive x.den (suc m) x.pos;
}

-- "m = 40 + d"
abbrev pub last_term : (d : ℕ) → ℕ
last_term d = 40 + d

-- "e^x, x at least 0 ..: under is the sum"
unfoldable pub exp_under : (d : ℕ) → Fraction → Fraction
exp_under d x = partial_sum (last_term d) x

-- "over adds" the tail
unfoldable pub exp_over : (d : ℕ) → Fraction → Fraction
exp_over d x = sum_with_tail (last_term d) x

pub exp_under_positive : (d : ℕ) (x : Fraction) → 0 < (exp_under d x).num
unfolding exp_under partial_sum
exp_under_positive d x = sum_num_positive x.num x.den (last_term d) x.pos

pub exp_over_positive : (d : ℕ) (x : Fraction) → 0 < (exp_over d x).num
unfolding exp_over sum_with_tail
exp_over_positive d x =
    let some : 0 < x.den * suc (last_term d) = mul-pos x.pos (omega arith) in
    omega (arith, mul-pos (sum_num_positive x.num x.den (last_term d) x.pos) some)

-- "For e^(-x), reciprocals, exchanged."
unfoldable pub exp_neg_under : (d : ℕ) → Fraction → Fraction
exp_neg_under d x = inverse (exp_over d x) (exp_over_positive d x)

-- the over-estimate is the under-estimate's
unfoldable pub exp_neg_over : (d : ℕ) → Fraction → Fraction
exp_neg_over d x = inverse (exp_under d x) (exp_under_positive d x)

-- THE SUMS ARE WHAT THEY SAY

-- i!
unfoldable pub factorial : ℕ → ℕ
factorial zero = 1
factorial (suc i) = factorial i * suc i

pub factorial_positive : (i : ℕ) → 0 < factorial i
unfolding factorial
factorial_positive zero = lit< tt
factorial_positive (suc i) = mul-pos (factorial_positive i) (omega arith)

-- x^i/i!, by powers and the factorial
unfoldable pub term : ℕ → Fraction → Fraction
term i x = fraction (x.num ^ i) (x.den ^ i * factorial i) (mul-pos (one-le-pow i x.den x.pos) (factorial_positive i))

-- the terms for i from 0 to m, added one by one
unfoldable pub added_terms : ℕ → Fraction → Fraction
added_terms zero x = term 0 x
added_terms (suc m) x = added_terms m x +ᶠ term (suc m) x

term_num_is : (n i : ℕ) → term_num n i ≡ n ^ i
unfolding term_num
term_num_is n zero = rw pow-zero
term_num_is n (suc i) = rw (pow-suc, term_num_is n i)

term_den_is : (D i : ℕ) → term_den D i ≡ D ^ i * factorial i
unfolding term_den factorial
term_den_is D zero = rw pow-zero
term_den_is D (suc i) = rw (pow-suc, term_den_is D i) (omega arith)

-- k times one term more: s/q is the sum so far, a/b the same added term by term, u/v the term
one_more : (s q a b u u' v c k : ℕ) → s * b ≡ a * q → u' ≡ u → q * c ≡ v → (s * c + k * u') * (b * v) ≡ (a * v + k * u * b) * (q * c)
one_more s q a b u u' v c k e f g = omega (arith, ap (λ z. z * (c * v)) e, ap (λ z. k * z * (b * v)) f, ap (λ z. k * u * b * z) g)

module _ (m : ℕ) (x : Fraction) (so_far : partial_sum m x =ᶠ added_terms m x) where
  terms_more : (k : ℕ) → let a = added_terms m x in let t = term (suc m) x in
      (sum_num x.num x.den m * (x.den * suc m) + k * term_num x.num (suc m)) * (a.den * t.den)
      ≡ (a.num * t.den + k * t.num * a.den) * term_den x.den (suc m)
  unfolding partial_sum term fraction term_den
  terms_more k =
      one_more _ _ (added_terms m x).num (added_terms m x).den _ _ _ _ k so_far.cross (term_num_is x.num (suc m)) (term_den_is x.den (suc m))

pub partial_sum_adds_terms : (m : ℕ) (x : Fraction) → partial_sum m x =ᶠ added_terms m x
unfolding partial_sum added_terms sum_num ◌+ᶠ◌
partial_sum_adds_terms zero x = record { cross = unfold term fraction term_den factorial in rw (pow-zero x.num, pow-zero x.den) (omega arith) }
partial_sum_adds_terms (suc m) x = record { cross = omega (arith, terms_more m x (partial_sum_adds_terms m x) 1) }

pub with_tail_adds_terms : (m : ℕ) (x : Fraction) → sum_with_tail m x =ᶠ added_terms m x +ᶠ whole 2 *ᶠ term (suc m) x
unfolding sum_with_tail whole fraction ◌+ᶠ◌ ◌*ᶠ◌
with_tail_adds_terms m x = record { cross = omega (arith, terms_more m x (partial_sum_adds_terms m x) 2) }

-- IN DOCUMENT 01'S NUMBERS, at every depth: "m = 40 + d: under is the sum of x^i/i! for i from 0 to m; over adds 2x^(m+1)/(m+1)!"
pub under_adds_terms : (d : ℕ) (x : Fraction) → exp_under d x =ᶠ added_terms (40 + d) x
unfolding exp_under
under_adds_terms d x = partial_sum_adds_terms (40 + d) x
