-- Laws of decimal text: its two equations, its length, and that it reads back as its number.
use Rattle.std.specs.Prelude.{ℕ, zero, suc, ◌+◌, ◌*◌, ◌-◌, ◌/◌, ◌%◌, ◌^◌, ◌<◌, ◌≤◌, ◌≡◌, refl, Bool, true, false, cond, List, [], ◌∷◌, ◌++◌, length, ltb, Option, None, Some, IfNone, IfSome, unwrap_or}
use Rattle.std.proofs.Common.{sym, ap, arith, div-add-mod', div-lt_iff_lt-mul, pow-suc, length-append, lit<, lt-ltb, le-ltb, ltb-true, ltb-false}
use Rattle.std.proofs.Math.Nat.{div-lt_self, le-div_iff_mul-le, one-le-pow}
use Rattle.report_text.specs.Text.{digit, decimal_within, decimal_text}

pub tenth_less : (n : ℕ) → 10 ≤ n → n / 10 < n
tenth_less n h = div-lt_self (omega arith) (lit< tt)

-- any room that is more than the number is enough
within_any : (f g n : ℕ) → n < f → n < g → decimal_within f n ≡ decimal_within g n
unfolding decimal_within
within_any zero g n h k = absurd (omega arith)
within_any (suc f) zero n h k = absurd (omega arith)
within_any (suc f) (suc g) n h k = by (λ l. within_any f g (n / 10) (omega arith) (omega arith)) (ltb n 10) refl
  where
    by : (n / 10 < n → decimal_within f (n / 10) ≡ decimal_within g (n / 10)) → (b : Bool) → ltb n 10 ≡ b
        → cond b (digit n ∷ []) (decimal_within f (n / 10) ++ (digit (n % 10) ∷ [])) ≡ cond b (digit n ∷ []) (decimal_within g (n / 10) ++ (digit (n % 10) ∷ []))
    by tenth true e = refl
    by tenth false e = ap (λ (s : List ℕ). s ++ (digit (n % 10) ∷ [])) (tenth (tenth_less n (ltb-false n 10 e)))

pub decimal_one : (n : ℕ) → n < 10 → decimal_text n ≡ digit n ∷ []
unfolding decimal_text decimal_within
decimal_one n h = rw (lt-ltb n 10 h) refl

pub decimal_more : (n : ℕ) → 10 ≤ n → decimal_text n ≡ decimal_text (n / 10) ++ (digit (n % 10) ∷ [])
unfolding decimal_text decimal_within
decimal_more n h =
    let l = tenth_less n h in
    rw (le-ltb n 10 h) (ap (λ (s : List ℕ). s ++ (digit (n % 10) ∷ [])) (within_any n (suc (n / 10)) (n / 10) l (omega arith)))

pub length_digits : (n : ℕ) → 10 ≤ n → length (decimal_text n) ≡ length (decimal_text (n / 10)) + 1
length_digits n h = rw (decimal_more n h) (length-append (decimal_text (n / 10)) (digit (n % 10) ∷ []))

-- a number below 10^k has at most k digits
length_most : (k n : ℕ) → n < 10 ^ suc k → length (decimal_text n) ≤ suc k
length_most zero n h = rw (decimal_one n (omega arith)) (omega arith)
length_most (suc k) n h = by (λ l. length_most k (n / 10) l) (ltb n 10) refl
  where
    tenth : n / 10 < 10 ^ suc k
    tenth = (div-lt_iff_lt-mul {k = 10} {x = n} {y = 10 ^ suc k} (lit< tt)).1 (rw (pow-suc 10 (suc k)) at h)

    by : (n / 10 < 10 ^ suc k → length (decimal_text (n / 10)) ≤ suc k) → (b : Bool) → ltb n 10 ≡ b → length (decimal_text n) ≤ suc (suc k)
    by r true e = rw (decimal_one n (ltb-true n 10 e)) (omega arith)
    by r false e = omega (arith, r tenth, length_digits n (ltb-false n 10 e))

pub decimal_some : (n : ℕ) → 1 ≤ length (decimal_text n)
decimal_some n = by (ltb n 10) refl
  where
    by : (b : Bool) → ltb n 10 ≡ b → 1 ≤ length (decimal_text n)
    by true e = rw (decimal_one n (ltb-true n 10 e)) (omega arith)
    by false e = omega (arith, length_digits n (ltb-false n 10 e))

-- a 64-bit number has at most twenty
pub decimal_short : (n : ℕ) → n < 2 ^ 64 → length (decimal_text n) ≤ 20
decimal_short n h = length_most 19 n (omega arith)

-- from 10^k on it has more than k
length_least : (k n : ℕ) → 10 ^ k ≤ n → suc k ≤ length (decimal_text n)
length_least zero n h = decimal_some n
length_least (suc k) n h =
    let tenths : 10 ^ k * 10 ≤ n = rw (pow-suc 10 k) at h in
    let tenth : 10 ^ k ≤ n / 10 = (le-div_iff_mul-le {k = 10} {x = 10 ^ k} {y = n} (lit< tt)).1 tenths in
    omega (arith, length_least k (n / 10) tenth, length_digits n (omega (arith, one-le-pow k 10 (lit< tt))))

-- the count of a number's digits, from the power of ten that it reaches; 0 has one digit
pub length_of_power : (n : ℕ) (power : Option ℕ) → IfNone power (n ≡ 0) → IfSome power (λ k. 10 ^ k ≤ n) → IfSome power (λ k. n < 10 * 10 ^ k)
    → unwrap_or power 0 + 1 ≡ length (decimal_text n)
length_of_power n None none low high = rw none (sym (ap length (decimal_one 0 (lit< tt))))
length_of_power n (Some k) none low high =
    let below : n < 10 ^ suc k = omega (arith, pow-suc 10 k) in
    omega (arith, length_least k n low, length_most k n below)

-- a number has one digit just below ten
pub one_digit : (n : ℕ) → length (decimal_text n) ≤ 1 → n < 10
one_digit n h = by (ltb n 10) refl
  where
    by : (b : Bool) → ltb n 10 ≡ b → n < 10
    by true e = ltb-true n 10 e
    by false e = absurd (omega (arith, decimal_some (n / 10), length_digits n (ltb-false n 10 e)))

pub more_digits : (n : ℕ) → 1 < length (decimal_text n) → 10 ≤ n
more_digits n h = by (ltb n 10) refl
  where
    by : (b : Bool) → ltb n 10 ≡ b → 10 ≤ n
    by true e = absurd (omega (arith, ap length (decimal_one n (ltb-true n 10 e))))
    by false e = ltb-false n 10 e

-- digits read back, the first the highest
abbrev pub read_on : (before : ℕ) → List ℕ → ℕ
read_on before [] = before
read_on before (d ∷ ds) = read_on (before * 10 + (d - 48)) ds

read_more : (before : ℕ) (a b : List ℕ) → read_on before (a ++ b) ≡ read_on (read_on before a) b
read_more before [] b = refl
read_more before (d ∷ a) b = read_more (before * 10 + (d - 48)) a b

reads_within : (most n : ℕ) → n < most → read_on 0 (decimal_text n) ≡ n
reads_within zero n h = absurd (omega arith)
reads_within (suc most) n h = by (λ l. reads_within most (n / 10) (omega arith)) (ltb n 10) refl
  where
    by : (n / 10 < n → read_on 0 (decimal_text (n / 10)) ≡ n / 10) → (b : Bool) → ltb n 10 ≡ b → read_on 0 (decimal_text n) ≡ n
    by r true e = rw (decimal_one n (ltb-true n 10 e)) (omega arith)
    by r false e =
        let m = ltb-false n 10 e in
        rw (decimal_more n m, read_more 0 (decimal_text (n / 10)) (digit (n % 10) ∷ []), r (tenth_less n m)) (omega (arith, div-add-mod' n 10))

-- A NUMBER'S TEXT READS BACK AS THE NUMBER
pub decimal_reads : (n : ℕ) → read_on 0 (decimal_text n) ≡ n
decimal_reads n = reads_within (suc n) n (omega arith)
