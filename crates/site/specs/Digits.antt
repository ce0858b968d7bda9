-- Laws of digits: a bit map as digits of base 1 or 2, and two-byte numbers.
use Rattle.std.specs.Prelude.{◌≡◌, List, [], ◌∷◌, ◌++◌, ℕ, zero, suc, ◌+◌, ◌*◌, ◌/◌, ◌%◌, ◌<◌, ◌≤◌, length, get_or, take}
use Rattle.std.proofs.Common.{ap, ◌∙◌, mod-eq_of_lt, zero-add, mod-lt, div-add-mod', arith}
use Rattle.std.proofs.Math.Nat.{add-mul-mod_self_left, add-mul-div_left, div-eq_of_lt, mod-add-div}
use Rattle.site.specs.Record.{word}

-- a digit put before a number is its lowest digit, and the number is what is left
pub digit_low : (d b m : ℕ) → d ≤ b → (d + (1 + b) * m) % (1 + b) ≡ d
digit_low d b m h = let l : d < 1 + b = omega arith in add-mul-mod_self_left d (1 + b) m ∙ mod-eq_of_lt l

pub digit_rest : (d b m : ℕ) → d ≤ b → (d + (1 + b) * m) / (1 + b) ≡ m
digit_rest d b m h =
    let l : d < 1 + b = omega arith in
    let p : 0 < 1 + b = omega arith in
    add-mul-div_left d m p ∙ ap (λ (x : ℕ). x + m) (div-eq_of_lt l) ∙ zero-add m

pub digit_whole : (b m : ℕ) → m % (1 + b) + (1 + b) * (m / (1 + b)) ≡ m
digit_whole b m = mod-add-div m (1 + b)

pub digit_most : (b m : ℕ) → m % (1 + b) ≤ b
digit_most b m =
    let p : 0 < 1 + b = omega arith in
    let l : m % (1 + b) < 1 + b = mod-lt m p in
    omega arith

-- bytes are below 256
abbrev pub Bytes : List ℕ → Type 0
Bytes s = (i : ℕ) → get_or s i 0 < 256

pub bytes_append : (s t : List ℕ) → Bytes s → Bytes t → (i : ℕ) → get_or (s ++ t) i 0 < 256
bytes_append [] t bytes later i = later i
bytes_append (x ∷ s) t bytes later zero = bytes 0
bytes_append (x ∷ s) t bytes later (suc i) = bytes_append s t (λ j. bytes (suc j)) later i

-- a two-byte number is its high and its low byte
pub two_bytes_lem : (n : ℕ) → n / 256 * 256 + n % 256 ≡ n
two_bytes_lem n = div-add-mod' n 256

pub bytes_of_word : (s : List ℕ) → Bytes s → 2 ≤ length s → word s / 256 ∷ word s % 256 ∷ [] ≡ take 2 s
bytes_of_word [] bytes h = let z : ⊥ = omega arith in absurd z
bytes_of_word (x ∷ []) bytes h = let z : ⊥ = omega arith in absurd z
bytes_of_word (x ∷ y ∷ s) bytes h =
    let p : (x * 256 + y) / 256 ≡ x = omega (arith, bytes 1) in
    let q : (x * 256 + y) % 256 ≡ y = omega (arith, bytes 1) in
    rw (p, q)
