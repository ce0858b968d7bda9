-- The stores by which lines are written.
use Rattle.std.specs.Prelude.{ℕ, zero, suc, ◌+◌, ◌*◌, ◌-◌, ◌/◌, ◌%◌, ◌^◌, ◌<◌, ◌≤◌, ◌≡◌, refl, List, [], ◌∷◌, ◌++◌, length, get_or, take, drop, set}
use Rattle.std.proofs.Common.{sym, ap, ◌∙◌, arith, length-append, length-drop, drop-drop}
use Rattle.std.proofs.Math.Nat.{mul-div-le}
use Rattle.std.specs.Simd.{first_chunks}
use Rattle.std.proofs.lemmas.List.Edits.{sets}
use Rattle.std.proofs.Math.Seq.{length-sets}
use Rattle.report_text.specs.Text.{digit, decimal_text, ended_text, line_text, report_text}
use Rattle.laws.specs.Stores.{Puts, sets_more, set_first}
use Rattle.report_text.specs.Decimal.{decimal_one, decimal_more, length_digits, decimal_short}

-- one digit more, before those that are stored
pub digit_stored : (out whole : List ℕ) (at rest i : ℕ) → 10 ≤ rest → i ≡ at + length (decimal_text rest) → sets out at (decimal_text rest) ≡ whole
    → sets (set out (i - 1) (digit (rest % 10))) at (decimal_text (rest / 10)) ≡ whole
digit_stored out whole at rest i h e w =
    let k : i - 1 ≡ at + length (decimal_text (rest / 10)) = omega (arith, length_digits rest h) in
    rw k (set_first out at (decimal_text (rest / 10)) (digit (rest % 10)) ∙ ap (sets out at) (sym (decimal_more rest h)) ∙ w)

-- the first digit, stored last
pub last_stored : (out whole : List ℕ) (at rest : ℕ) → rest < 10 → sets out at (decimal_text rest) ≡ whole → set out at (digit rest) ≡ whole
last_stored out whole at rest h w = ap (sets out at) (sym (decimal_one rest h)) ∙ w

-- a number's digits, then the byte that ends it
pub ended_stored : (before after : List ℕ) (at n end last : ℕ) → n < 2 ^ 64 → end ≡ at + length (decimal_text n) → after ≡ sets before at (decimal_text n)
    → Puts before at (ended_text n last) (end + 1) (set after end last) × (end + 1 ≤ at + 21)
ended_stored before after at n end last h e w = (
  record {
    place_is = omega (arith, length-append (decimal_text n) (last ∷ []));
    stored = rw (w, e) (sets_more before at (decimal_text n) (last ∷ []));
  },
  omega (arith, decimal_short n h),
)

-- the lines that are left when some are written
pub record LinesLeft (numbers before : List ℕ) (i at : ℕ) (now : List ℕ) : Type 0 where
  pub near : at ≤ 84 * i
  pub same : length now ≡ length before
  pub ends : at + length (report_text (drop (i * 4) numbers)) ≡ length (report_text numbers)
  pub left : sets now at (report_text (drop (i * 4) numbers)) ≡ sets before 0 (report_text numbers)

-- the i-th line's numbers are the first four that are left
line_at : (k : ℕ) (numbers : List ℕ) (i : ℕ) → i < k → get_or (first_chunks 4 k numbers) i [] ≡ take 4 (drop (i * 4) numbers)
line_at zero numbers i h = absurd (omega arith)
line_at (suc k) numbers zero h = refl
line_at (suc k) numbers (suc i) h = line_at k (drop 4 numbers) i (omega arith) ∙ ap (take 4) (drop-drop (i * 4) 4 numbers ∙ ap (λ (n : ℕ). drop n numbers) (omega arith))

abbrev line_of : List ℕ → List ℕ
line_of line = line_text (get_or line 0 0) (get_or line 1 0) (get_or line 2 0) (get_or line 3 0)

four_on : (numbers : List ℕ) → 4 ≤ length numbers → report_text numbers ≡ line_of (take 4 numbers) ++ report_text (drop 4 numbers)
unfolding report_text
four_on [] h = absurd (omega arith)
four_on (a ∷ []) h = absurd (omega arith)
four_on (a ∷ b ∷ []) h = absurd (omega arith)
four_on (a ∷ b ∷ c ∷ []) h = absurd (omega arith)
four_on (a ∷ b ∷ c ∷ d ∷ numbers) h = refl

pub lines_on : (numbers before now after : List ℕ) (lines : List (List ℕ)) (i at place : ℕ) → LinesLeft numbers before i at now
    → lines ≡ first_chunks 4 (length numbers / 4) numbers → i < length numbers / 4
    → Puts now at (line_of (get_or lines i [])) place after × (place ≤ at + 84) → LinesLeft numbers before (i + 1) place after
lines_on numbers before now after lines i at place k e h p =
    let line = line_of (take 4 (drop (i * 4) numbers)) in
    let rest = report_text (drop ((i + 1) * 4) numbers) in
    let found : get_or lines i [] ≡ take 4 (drop (i * 4) numbers) = rw e (line_at (length numbers / 4) numbers i h) in
    let put : Puts now at line place after = rw found at p.0 in
    let four : 4 ≤ length (drop (i * 4) numbers) = omega (arith, length-drop (i * 4) numbers, mul-div-le (length numbers) 4) in
    let later : drop 4 (drop (i * 4) numbers) ≡ drop ((i + 1) * 4) numbers = drop-drop 4 (i * 4) numbers ∙ ap (λ (n : ℕ). drop n numbers) (omega arith) in
    let opened : report_text (drop (i * 4) numbers) ≡ line ++ rest = rw later at (four_on (drop (i * 4) numbers) four) in
    record {
      near = omega (arith, k.near, p.1);
      same = rw put.stored (length-sets now at line ∙ k.same);
      ends = omega (arith, put.place_is, ap length opened, length-append line rest, k.ends);
      left = rw (put.stored, put.place_is) (sets_more now at line rest ∙ ap (sets now at) (sym opened) ∙ k.left);
    }

-- fewer than four numbers are no line
few_left : (numbers : List ℕ) → length numbers < 4 → report_text numbers ≡ []
unfolding report_text
few_left [] h = refl
few_left (a ∷ []) h = refl
few_left (a ∷ b ∷ []) h = refl
few_left (a ∷ b ∷ c ∷ []) h = refl
few_left (a ∷ b ∷ c ∷ d ∷ numbers) h = absurd (omega arith)

pub lines_end : (numbers before now : List ℕ) (i at : ℕ) → LinesLeft numbers before i at now → length numbers / 4 ≤ i
    → Puts before 0 (report_text numbers) at now
lines_end numbers before now i at k h =
    let e = few_left (drop (i * 4) numbers) (omega (arith, length-drop (i * 4) numbers)) in
    record {
      place_is = omega (arith, k.ends, ap length e);
      stored = sym (ap (sets now at) e) ∙ k.left;
    }
