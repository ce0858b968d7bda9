-- Laws of the later years' values: where they stand among a record's bytes, that they read and write as each other, and bit 15.
use Rattle.std.specs.Prelude.{Option, None, Some}
use Rattle.std.specs.Prelude.{◌≡◌, refl, Bool, true, false, cond, ◌&&◌, ℕ, zero, suc, ◌+◌, ◌*◌, ◌<◌, ◌≤◌, length, get_or, leb, eqb}
use Rattle.std.proofs.Math.Path.{ap, sym}
use Rattle.std.proofs.Common.{◌∙◌, true≢false, length-append, drop_of_length-le, get_or-take, get_or-drop, drop-cons, eqb-true, leb-true}
use mathlib.Core.List.{List, [], ◌∷◌, ◌++◌, append_assoc}
use native.Mathlib.Omega.{arith}
use Rattle.std.proofs.Math.ListN.{take, drop, length-drop, get_or-append}
use Rattle.std.proofs.Math.Seq.{length-take-le, take-add, take_at, drop_at, drop-drop, take-append-add}
use Rattle.std.proofs.lemmas.List.{drop-append-le, take-append-le}
use Rattle.site.specs.Rules.{most_years, years_known, later_years, traffic, allows}
use Rattle.site.specs.Yearly.{later_slots, later_from_slots, later_minor}
use Rattle.site.specs.Record.{word, yearly_bit, field_map, gathered, later_read, later_allowed}
use Rattle.site.specs.Writing.{later_bytes, later_fits}
use Rattle.laws.specs.Truth.{and_left, and_right}
use Rattle.site.specs.Digits.{Bytes, bytes_append, two_bytes_lem, bytes_of_word}

-- years within their limits
pub years_within : (years : ℕ) → years_known years ≡ true → (1 ≤ years) × (years ≤ most_years)
years_within years e = (leb-true 1 years (and_left (leb 1 years) _ e), leb-true years most_years (and_right (leb 1 years) _ e))

-- BIT 15 and the map of the fields
pub bit_most : (map : ℕ) → yearly_bit map ≤ 1
bit_most map = omega arith

pub whole_map : (map : ℕ) → field_map map + 32768 * yearly_bit map ≡ map
whole_map map = omega arith

-- of a map whose fields have the bits below 15
module _ (map : ℕ) (small : map < 32768) where
  pub bit_of_whole : (yearly : Bool) → yearly_bit (map + cond yearly 32768 0) ≡ cond yearly 1 0
  bit_of_whole true = omega arith
  bit_of_whole false = omega arith

  pub fields_of_whole : (yearly : Bool) → field_map (map + cond yearly 32768 0) ≡ map
  fields_of_whole true = omega arith
  fields_of_whole false = omega arith

pub minor_most_lem : (kind later : ℕ) → later_minor kind later ≤ later
minor_most_lem kind later = by (eqb kind 0)
  where
    by : (b : Bool) → cond b 0 later ≤ later
    by true = omega arith
    by false = omega arith

-- a number is told by its two bytes
pub same_word : (s t : List ℕ) → 2 ≤ length s → word (s ++ t) ≡ word s
same_word s t h =
    let a : 0 < length s = omega arith in
    let b : 1 < length s = omega arith in
    rw (get_or-append s t 0 0 a, get_or-append s t 0 1 b)

-- WHERE THEY STAND. What is put between the fields is gathered out again
pub past : (n : ℕ) (a t r : List ℕ) → length a ≡ 2 → length t ≡ 2 * n → drop (2 + 2 * n) (a ++ (t ++ r)) ≡ r
past n a t r la lt = sym (drop-drop (2 * n) 2 (a ++ (t ++ r))) ∙ ap (drop (2 * n)) (drop_at a (t ++ r) 2 la) ∙ drop_at t r (2 * n) lt

past_both : (n m : ℕ) (s : List ℕ) → drop (4 + 2 * n + 2 * m) s ≡ drop (2 + 2 * m) (drop (2 + 2 * n) s)
past_both n m s =
    let e : 4 + 2 * n + 2 * m ≡ 2 + 2 * n + (2 + 2 * m) = omega arith in
    ap (λ (k : ℕ). drop k s) e ∙ sym (drop-drop (2 + 2 * m) (2 + 2 * n) s)

pub gathered_spread : (n m : ℕ) (a t b u r : List ℕ) → length a ≡ 2 → length t ≡ 2 * n → length b ≡ 2 → length u ≡ 2 * m
    → gathered n m (a ++ (t ++ (b ++ (u ++ r)))) ≡ a ++ (b ++ r)
gathered_spread n m a t b u r la lt lb lu =
    let first = past n a t (b ++ (u ++ r)) la lt in
    let second = past_both n m (a ++ (t ++ (b ++ (u ++ r)))) ∙ ap (drop (2 + 2 * m)) first ∙ past m b u r lb lu in
    rw (take_at a (t ++ (b ++ (u ++ r))) 2 la, second, first, take_at b (u ++ r) 2 lb)

-- what follows the fields follows them gathered
pub gathered_append : (n m : ℕ) (s t : List ℕ) → 4 + 2 * n + 2 * m ≤ length s → gathered n m (s ++ t) ≡ gathered n m s ++ t
gathered_append n m s t h =
    let a : 2 ≤ length s = omega arith in
    let b : 2 + 2 * n ≤ length s = omega arith in
    let c : 2 ≤ length (drop (2 + 2 * n) s) = omega (arith, length-drop (2 + 2 * n) s) in
    rw (
      take-append-le 2 s t a,
      drop-append-le (2 + 2 * n) s t b,
      take-append-le 2 (drop (2 + 2 * n) s) t c,
      drop-append-le (4 + 2 * n + 2 * m) s t h,
      append_assoc,
      append_assoc,
    )

pub length_gathered : (n m : ℕ) (s : List ℕ) → 4 + 2 * n + 2 * m ≤ length s → length (gathered n m s) + (2 * n + 2 * m) ≡ length s
length_gathered n m s h =
    let a = length-append (take 2 s) (take 2 (drop (2 + 2 * n) s) ++ drop (4 + 2 * n + 2 * m) s) in
    let b = length-append (take 2 (drop (2 + 2 * n) s)) (drop (4 + 2 * n + 2 * m) s) in
    omega (
      arith,
      a,
      b,
      length-take-le 2 s (omega arith),
      length-take-le 2 (drop (2 + 2 * n) s) (omega (arith, length-drop (2 + 2 * n) s)),
      length-drop (4 + 2 * n + 2 * m) s,
    )

take_bytes : (n : ℕ) (s : List ℕ) → Bytes s → (i : ℕ) → get_or (take n s) i 0 < 256
take_bytes zero s bytes i = omega arith
take_bytes (suc n) [] bytes i = omega arith
take_bytes (suc n) (x ∷ s) bytes zero = bytes 0
take_bytes (suc n) (x ∷ s) bytes (suc i) = take_bytes n s (λ j. bytes (suc j)) i

pub gathered_bytes : (n m : ℕ) (s : List ℕ) → Bytes s → Bytes (gathered n m s)
gathered_bytes n m s bytes =
    bytes_append (take 2 s) (take 2 (drop (2 + 2 * n) s) ++ drop (4 + 2 * n + 2 * m) s) (take_bytes 2 s bytes)
    (bytes_append (take 2 (drop (2 + 2 * n) s)) (drop (4 + 2 * n + 2 * m) s)
    (take_bytes 2 (drop (2 + 2 * n) s) (λ i. rw get_or-drop (bytes (2 + 2 * n + i)))) (λ i. rw get_or-drop (bytes (4 + 2 * n + 2 * m + i))))

-- a number of the fields, gathered and not
number_taken : (s t : List ℕ) → 2 ≤ length s → word (take 2 s ++ t) ≡ word s
number_taken s t h =
    let a : 0 < 2 = omega arith in
    let b : 1 < 2 = omega arith in
    same_word (take 2 s) t (omega (arith, length-take-le 2 s h)) ∙ rw (get_or-take 2 s 0 0 a, get_or-take 2 s 1 0 b) refl

module _ (n m : ℕ) (s : List ℕ) (h : 4 + 2 * n + 2 * m ≤ length s) where
  first_two : length (take 2 s) ≡ 2
  first_two = length-take-le 2 s (omega arith)

  second_two : length (take 2 (drop (2 + 2 * n) s)) ≡ 2
  second_two = length-take-le 2 (drop (2 + 2 * n) s) (omega (arith, length-drop (2 + 2 * n) s))

  pub gathered_first : word (gathered n m s) ≡ word s
  gathered_first = number_taken s _ (omega arith)

  pub gathered_second : word (drop 2 (gathered n m s)) ≡ word (drop (2 + 2 * n) s)
  gathered_second =
      ap word (drop_at (take 2 s) _ 2 first_two) ∙ number_taken (drop (2 + 2 * n) s) _ (omega (arith, length-drop (2 + 2 * n) s))

  pub gathered_rest : (p : ℕ) → drop (4 + p) (gathered n m s) ≡ drop (4 + p + (2 * n + 2 * m)) s
  gathered_rest p =
      let e : 4 + p ≡ 2 + (2 + p) = omega arith in
      let f : 4 + p + (2 * n + 2 * m) ≡ 4 + 2 * n + 2 * m + p = omega arith in
      let rest = drop (4 + 2 * n + 2 * m) s in
      ap (λ (k : ℕ). drop k (gathered n m s)) e ∙ sym (drop-drop (2 + p) 2 (gathered n m s)) ∙ ap (drop (2 + p)) (drop_at (take 2 s) _ 2 first_two)
      ∙ sym (drop-drop p 2 (take 2 (drop (2 + 2 * n) s) ++ rest)) ∙ ap (drop p) (drop_at (take 2 (drop (2 + 2 * n) s)) rest 2 second_two)
      ∙ drop-drop p (4 + 2 * n + 2 * m) s ∙ ap (λ (k : ℕ). drop k s) (sym f)

-- where the number after so many stands, by the fields with the later values between them
abbrev pub place_after : (later minor count : ℕ) → ℕ
place_after later minor zero = 0
place_after later minor (suc zero) = 2 + 2 * later
place_after later minor (suc (suc count)) = 2 * suc (suc count) + 2 * (later + minor)

pub gathered_word : (n m : ℕ) (s : List ℕ) → 4 + 2 * n + 2 * m ≤ length s → (count : ℕ)
    → word (drop (place_after n m count) s) ≡ word (drop (2 * count) (gathered n m s))
gathered_word n m s h zero = sym (gathered_first n m s h)
gathered_word n m s h (suc zero) = sym (gathered_second n m s h)
gathered_word n m s h (suc (suc count)) =
    let e : 2 * suc (suc count) ≡ 4 + 2 * count = omega arith in
    let f : 2 * suc (suc count) + 2 * (n + m) ≡ 4 + 2 * count + (2 * n + 2 * m) = omega arith in
    ap word (ap (λ (k : ℕ). drop k s) f ∙ sym (gathered_rest n m s h (2 * count)) ∙ ap (λ (k : ℕ). drop k (gathered n m s)) (sym e))

-- and the fields that are gathered, with what was between them put back, are what they were gathered from
take_past : (p q : List ℕ) (k n : ℕ) → length p ≡ k → take (k + n) (p ++ q) ≡ p ++ take n q
take_past p q k n e = rw (← e) (take-append-add p q n)

module _ (n m w : ℕ) (s a b r : List ℕ) (la : length a ≡ 2) (lb : length b ≡ 2) (long : 4 + 2 * n + 2 * m ≤ length s)
    (is : a ++ (b ++ r) ≡ take (4 + w) (gathered n m s)) where
  first_part : List ℕ
  first_part = take 2 s

  second_part : List ℕ
  second_part = take 2 (drop (2 + 2 * n) s)

  parts : a ++ (b ++ r) ≡ first_part ++ (second_part ++ take w (drop (4 + 2 * n + 2 * m) s))
  unfolding first_part second_part
  parts =
      let e : 4 + w ≡ 2 + (2 + w) = omega arith in
      let rest = drop (4 + 2 * n + 2 * m) s in
      let lf = length-take-le 2 s (omega arith) in
      let ls = length-take-le 2 (drop (2 + 2 * n) s) (omega (arith, length-drop (2 + 2 * n) s)) in
      is ∙ ap (λ (k : ℕ). take k (gathered n m s)) e ∙ take_past (take 2 s) (take 2 (drop (2 + 2 * n) s) ++ rest) 2 (2 + w) lf
      ∙ ap (λ (l : List ℕ). take 2 s ++ l) (take_past (take 2 (drop (2 + 2 * n) s)) rest 2 w ls)

  a_is : a ≡ take 2 s
  unfolding first_part
  a_is = sym (take_at a (b ++ r) 2 la) ∙ ap (take 2) parts ∙ take_at (take 2 s) _ 2 (length-take-le 2 s (omega arith))

  after_a : b ++ r ≡ second_part ++ take w (drop (4 + 2 * n + 2 * m) s)
  unfolding first_part
  after_a = sym (drop_at a (b ++ r) 2 la) ∙ ap (drop 2) parts ∙ drop_at (take 2 s) _ 2 (length-take-le 2 s (omega arith))

  second_long : length second_part ≡ 2
  unfolding second_part
  second_long = length-take-le 2 (drop (2 + 2 * n) s) (omega (arith, length-drop (2 + 2 * n) s))

  b_is : b ≡ second_part
  b_is = sym (take_at b r 2 lb) ∙ ap (take 2) after_a ∙ take_at second_part _ 2 second_long

  r_is : r ≡ take w (drop (4 + 2 * n + 2 * m) s)
  r_is = sym (drop_at b r 2 lb) ∙ ap (drop 2) after_a ∙ drop_at second_part _ 2 second_long

  pub spread_again : a ++ (take (2 * n) (drop 2 s) ++ (b ++ (take (2 * m) (drop (4 + 2 * n) s) ++ r))) ≡ take (4 + 2 * n + 2 * m + w) s
  unfolding second_part
  spread_again =
      let e : 4 + 2 * n + 2 * m + w ≡ 2 + (2 * n + (2 + (2 * m + w))) = omega arith in
      let f : 2 + 2 * n + 2 ≡ 4 + 2 * n = omega arith in
      let g : 2 + 2 * n + 2 + 2 * m ≡ 4 + 2 * n + 2 * m = omega arith in
      rw (
        a_is,
        b_is,
        r_is,
        e,
        take-add 2 (2 * n + (2 + (2 * m + w))) s,
        take-add (2 * n) (2 + (2 * m + w)) (drop 2 s),
        drop-drop (2 * n) 2 s,
        take-add 2 (2 * m + w) (drop (2 + 2 * n) s),
        drop-drop 2 (2 + 2 * n) s,
        take-add (2 * m) w (drop (2 + 2 * n + 2) s),
        drop-drop (2 * m) (2 + 2 * n + 2) s,
        g,
        f,
      )

-- WHAT IS WRITTEN IS READ BACK: just so many years, each within the range
pub record LaterReadBack (k n : ℕ) (slots : List (Option ℕ)) (t : List ℕ) : Type 0 where
  pub values : later_read k n (later_bytes slots ++ t) ≡ slots
  pub right : later_allowed n (later_bytes slots ++ t) ≡ true
  pub long : length (later_bytes slots) ≡ 2 * n

pub later_read_back : (k n : ℕ) (slots : List (Option ℕ)) (t : List ℕ) → length slots ≡ k → later_fits n slots ≡ true → LaterReadBack k n slots t
unfolding later_read later_allowed later_bytes later_fits
later_read_back zero zero [] t l f = record { values = refl; right = refl; long = refl }
later_read_back zero (suc n) [] t l f = absurd (omega (arith, eqb-true (suc n) 0 f))
later_read_back (suc k) n [] t l f = absurd (omega arith)
later_read_back zero n (slot ∷ slots) t l f = absurd (omega arith)
later_read_back (suc k) zero (None ∷ slots) t l f =
    let later = later_read_back k zero slots t (omega arith) (and_right true _ f) in
    record { values = ap (λ (x : List (Option ℕ)). None ∷ x) later.values; right = refl; long = later.long }
later_read_back (suc k) zero (Some value ∷ slots) t l f = absurd (true≢false (sym f))
later_read_back (suc k) (suc n) (None ∷ slots) t l f = absurd (true≢false (sym f))
later_read_back (suc k) (suc n) (Some value ∷ slots) t l f =
    let later = later_read_back k n slots t (omega arith) (and_right (allows traffic value) _ f) in
    record {
      values = rw (two_bytes_lem value) (ap (λ (x : List (Option ℕ)). Some value ∷ x) later.values);
      right = rw (two_bytes_lem value, and_left (allows traffic value) _ f) later.right;
      long = omega (arith, later.long);
    }

-- AND WHAT IS READ IS WRITTEN AGAIN
pub record LaterRewritten (k n : ℕ) (s : List ℕ) : Type 0 where
  pub fit : later_fits n (later_read k n s) ≡ true
  pub count : length (later_read k n s) ≡ k
  pub bytes : Bytes s → later_bytes (later_read k n s) ≡ take (2 * n) s

pub later_rewritten : (k n : ℕ) (s : List ℕ) → n ≤ k → 2 * n ≤ length s → later_allowed n s ≡ true → LaterRewritten k n s
unfolding later_read later_allowed later_bytes later_fits
later_rewritten zero zero s h l a = record { fit = refl; count = refl; bytes = λ b. refl }
later_rewritten zero (suc n) s h l a = absurd (omega arith)
later_rewritten (suc k) zero s h l a =
    let later = later_rewritten k zero s (omega arith) l a in
    record { fit = later.fit; count = ap suc later.count; bytes = later.bytes }
later_rewritten (suc k) (suc n) s h l a =
    let later = later_rewritten k n (drop 2 s) (omega arith) (omega (arith, length-drop 2 s)) (and_right (allows traffic (word s)) _ a) in
    record {
      fit = rw (and_left (allows traffic (word s)) _ a) later.fit;
      count = ap suc later.count;
      bytes = λ b.
          let e : 2 * suc n ≡ 2 + 2 * n = omega arith in
          rw (e, take-add 2 (2 * n) s, ← bytes_of_word s b (omega arith), later.bytes (λ i. rw get_or-drop (b (2 + i))));
    }

-- slots taken one by one from a place are those that stand there
unfoldable pub firsts : ℕ → ℕ → List (Option ℕ) → List (Option ℕ)
firsts zero i slots = []
firsts (suc n) i slots = get_or slots i None ∷ firsts n (suc i) slots

pub firsts_drop : (n i : ℕ) (slots : List (Option ℕ)) → length slots ≡ i + n → firsts n i slots ≡ drop i slots
unfolding firsts
firsts_drop zero i slots e = let h : length slots ≤ i = omega arith in sym (drop_of_length-le slots h)
firsts_drop (suc n) i slots e =
    let h : i < length slots = omega arith in
    ap (λ (l : List (Option ℕ)). get_or slots i None ∷ l) (firsts_drop n (suc i) slots (omega arith)) ∙ sym (drop-cons slots i None h)

-- the years of a site are the slots that they were made of
pub later_slots_of : (slots : List (Option ℕ)) → length slots ≡ later_years → later_slots (later_from_slots slots) ≡ slots
unfolding firsts
later_slots_of slots e = firsts_drop later_years 0 slots (e ∙ omega arith)

-- nothing past them bears on them
pub record LaterAlike (k n : ℕ) (s t : List ℕ) : Type 0 where
  pub values : later_read k n (s ++ t) ≡ later_read k n s
  pub right : later_allowed n (s ++ t) ≡ later_allowed n s

pub later_alike : (k n : ℕ) (s t : List ℕ) → 2 * n ≤ length s → LaterAlike k n s t
unfolding later_read later_allowed
later_alike zero zero s t h = record { values = refl; right = refl }
later_alike (suc k) zero s t h = record { values = ap (λ (x : List (Option ℕ)). None ∷ x) (later_alike k zero s t h).values; right = refl }
later_alike zero (suc n) s t h =
    let later = later_alike zero n (drop 2 s) t (omega (arith, length-drop 2 s)) in
    record { values = refl; right = rw (same_word s t (omega arith), drop-append-le 2 s t (omega arith), later.right) }
later_alike (suc k) (suc n) s t h =
    let later = later_alike k n (drop 2 s) t (omega (arith, length-drop 2 s)) in
    let w = same_word s t (omega arith) in
    let d = drop-append-le 2 s t (omega arith) in
    record { values = rw (w, d, later.values); right = rw (w, d, later.right) }

-- a value by its year
pub later_given_lem : (k n : ℕ) (s : List ℕ) → n ≤ k → (i : ℕ) → i < n → get_or (later_read k n s) i None ≡ Some (word (drop (2 * i) s))
unfolding later_read
later_given_lem zero n s h i l = absurd (omega arith)
later_given_lem (suc k) zero s h i l = absurd (omega arith)
later_given_lem (suc k) (suc n) s h zero l = refl
later_given_lem (suc k) (suc n) s h (suc i) l =
    let e : 2 * suc i ≡ 2 + 2 * i = omega arith in
    later_given_lem k n (drop 2 s) (omega arith) i (omega arith) ∙ rw (e, drop-drop (2 * i) 2 s) refl

pub later_absent : (k n : ℕ) (s : List ℕ) (i : ℕ) → n ≤ i → get_or (later_read k n s) i None ≡ None
unfolding later_read
later_absent zero n s i l = refl
later_absent (suc k) zero s zero l = refl
later_absent (suc k) zero s (suc i) l = later_absent k zero s i (omega arith)
later_absent (suc k) (suc n) s zero l = absurd (omega arith)
later_absent (suc k) (suc n) s (suc i) l = later_absent k n (drop 2 s) i (omega arith)

pub allowed_at : (n : ℕ) (s : List ℕ) → later_allowed n s ≡ true → (i : ℕ) → i < n → allows traffic (word (drop (2 * i) s)) ≡ true
unfolding later_allowed
allowed_at zero s e i h = absurd (omega arith)
allowed_at (suc n) s e zero h = and_left (allows traffic (word s)) _ e
allowed_at (suc n) s e (suc i) h =
    let d : 2 * suc i ≡ 2 + 2 * i = omega arith in
    rw (d, ← drop-drop (2 * i) 2 s) (allowed_at n (drop 2 s) (and_right (allows traffic (word s)) _ e) i (omega arith))

-- a year that is outside the range
pub record Outside (n : ℕ) (s : List ℕ) : Type 0 where
  pub at : ℕ
  pub below : at < n
  pub outside : allows traffic (word (drop (2 * at) s)) ≡ false

pub some_outside : (n : ℕ) (s : List ℕ) → later_allowed n s ≡ false → Outside n s
unfolding later_allowed
some_outside zero s e = absurd (true≢false e)
some_outside (suc n) s e = by (allows traffic (word s)) refl e (some_outside n (drop 2 s))
  where
    by : (b : Bool) → allows traffic (word s) ≡ b → (b && later_allowed n (drop 2 s)) ≡ false
        → (later_allowed n (drop 2 s) ≡ false → Outside n (drop 2 s)) → Outside (suc n) s
    by false q f later = record { at = 0; below = omega arith; outside = q }
    by true q f later =
        let o = later f in
        let d : 2 * suc o.at ≡ 2 + 2 * o.at = omega arith in
        record { at = suc o.at; below = omega (arith, o.below); outside = rw (d, ← drop-drop (2 * o.at) 2 s) o.outside }
