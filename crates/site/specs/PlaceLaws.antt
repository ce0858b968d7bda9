-- Where the numbers of a bit stand in a record with later values: the fields that are gathered, told by bit number.
use Rattle.std.specs.Prelude.{◌≡◌, refl, true, List}
use Rattle.std.proofs.Math.Path.{ap, sym}
use Rattle.std.proofs.Common.{◌∙◌, eqb-true}
use Prim.Native.Nat.{ℕ, zero, suc, ◌+◌, ◌*◌, ◌/◌, ◌%◌, ◌≤◌}
use native.Mathlib.Omega.{arith}
use Rattle.std.proofs.Math.ListN.{drop}
use Rattle.std.proofs.Math.Seq.{drop-drop}
use Rattle.site.specs.Yearly.{later_minor}
use Rattle.site.specs.Record.{word, words, kind_in, field_map_in, rules_in, later_in, later_at, later_minor_at, length_in}
use Rattle.site.specs.Fields.{map_bits, bit_at, standing, later_told, numbers_of, numbers_below, place_of, value_at, fields_end}
use Rattle.laws.specs.Truth.{and_left, and_right}
use Rattle.site.specs.BitLaws.{later_told_lem, minor_told}
use Rattle.site.specs.Curve.{map_matched}

-- "Bits 0 and 1 always stand"
pub record BothStand (map : ℕ) : Type 0 where
  pub zeroth : map % 2 ≡ 1
  pub first : map / 2 % 2 ≡ 1

pub matched_both : (kind map : ℕ) → map_matched kind map ≡ true → BothStand map
matched_both zero map e =
    record {
      zeroth = eqb-true (map % 2) 1 (and_left (bit_at 0 map) _ e);
      first = eqb-true (map / 2 % 2) 1 (and_left (bit_at 1 map) _ (and_right (bit_at 0 map) _ e));
    }
matched_both (suc kind) map e =
    record { zeroth = eqb-true (map % 2) 1 (and_left (bit_at 0 map) _ e); first = eqb-true (map / 2 % 2) 1 (and_right (bit_at 0 map) _ e) }

-- one number each: the bits that stand
below_ones : (b map : ℕ) → numbers_below (λ c. 1) b map ≡ standing b map
unfolding numbers_below standing
below_ones zero map = refl
below_ones (suc b) map = omega (arith, below_ones b (map / 2))

-- past the two first bits, all later values stand before a number
module _ (kind later map : ℕ) (both : BothStand map) where
  pub below_one : numbers_below (numbers_of kind later) 1 map ≡ 1 + later
  unfolding numbers_below
  below_one = rw both.zeroth (omega arith)

  pub below_more : (b : ℕ) → numbers_below (numbers_of kind later) (suc (suc b)) map ≡ standing (suc (suc b)) map + (later + later_minor kind later)
  unfolding numbers_below standing
  below_more b = rw (both.zeroth, both.first) (omega (arith, below_ones b (map / 2 / 2)))

  pub two_stand : (b : ℕ) → 2 ≤ standing (suc (suc b)) map
  unfolding standing
  two_stand b = omega (arith, both.zeroth, both.first)

-- the later values of the two first bits
pub later_of : (years : ℕ) (s : List ℕ) (i : ℕ) → word (drop (2 * i) (later_at s)) ≡ value_at years 0 (suc i) s
unfolding numbers_below
later_of years s i =
    let e : 3 + 2 * 0 + 2 * suc i ≡ 5 + 2 * i = omega arith in
    ap word (drop-drop (2 * i) 5 s ∙ ap (λ (k : ℕ). drop k s) (sym e))

pub minor_of : (years : ℕ) (s : List ℕ) → BothStand (field_map_in s) → (i : ℕ) → word (drop (2 * i) (later_minor_at years s)) ≡ value_at years 1 (suc i) s
minor_of years s both i =
    let e : place_of years 1 s + 2 * suc i ≡ 7 + 2 * later_in years s + 2 * i = omega (arith, below_one (kind_in s) (later_told years s) (field_map_in s) both, later_told_lem years s) in
    ap word (drop-drop (2 * i) (7 + 2 * later_in years s) s ∙ ap (λ (k : ℕ). drop k s) (sym e))

-- where the fields end
pub end_of : (edition years : ℕ) (s : List ℕ) → BothStand (field_map_in s) → words (rules_in edition s) (field_map_in s) ≡ standing map_bits (field_map_in s)
    → length_in edition years s ≡ fields_end years s
end_of edition years s both e =
    omega (arith, below_more (kind_in s) (later_told years s) (field_map_in s) both 13, later_told_lem years s, minor_told years s)
