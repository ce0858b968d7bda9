-- A bracket carried through factors that are known by what they stand for: it fits 64 bits by a computed test of bounds, stands
-- to the product of the estimates at every depth, and has a width.
use Rattle.std.specs.Prelude.{Option, Some, ◌≡◌, refl, Bool, true, List, [], ◌∷◌, map, ℕ, ◌+◌, ◌*◌, ◌^◌, ◌≤◌, ◌<◌, T, ltb}
use Rattle.std.proofs.Common.{ap, ◌∙◌, mul-le-mul, mul-le-mul_right, le_of_mul-le-mul_right, ltb→lt}
use native.Mathlib.Omega.{arith}
use Rattle.estimate.specs.Fraction.{Fraction, fraction, ◌*ᶠ◌, whole}
use Rattle.laws.specs.Table.{both, both_left, both_right}
use Rattle.wide.specs.Scaling.{floor, ceiling, scaled_up, answered_value}
use Rattle.wide.specs.Rounding.{Narrow, ceiling_ge, ceiling-≤, scaled_order}
use Rattle.bracket.specs.Bracket.{Stands, RelativeWidth}
use Rattle.bracket.specs.Ratio.{exactly}
use Rattle.bracket.specs.Carry.{onward, carried, relative_part}
use Rattle.bracket.specs.declared.Bracket.{Bracket}

-- a factor: the estimates that it stands for, its bracket, its share of the width, and a bound of its high
pub record Piece : Type 0 where
  pub under : ℕ → Fraction
  pub over : ℕ → Fraction
  pub bracket : Bracket
  pub share : ℕ
  pub most : Fraction

-- what is promised of a factor: it stands, is at most share / R wide, and its high is at most the bound
pub record Kept (R : ℕ) (p : Piece) : Type 0 where
  pub stands : Stands p.bracket p.under p.over
  pub narrow : RelativeWidth R p.share p.bracket
  pub bounded : p.bracket.high_num * p.most.den ≤ p.most.num * p.bracket.high_den

abbrev pub AllKept : ℕ → List Piece → Type 0
AllKept R [] = Unit
AllKept R (p ∷ ps) = Kept R p × AllKept R ps

abbrev pub brackets : List Piece → List Bracket
brackets ps = map (λ (p : Piece). p.bracket) ps

abbrev pub unders : ℕ → List Piece → List Fraction
unders d ps = map (λ (p : Piece). p.under d) ps

abbrev pub overs : ℕ → List Piece → List Fraction
overs d ps = map (λ (p : Piece). p.over d) ps

abbrev pub bounds : List Piece → List Fraction
bounds ps = map (λ (p : Piece). p.most) ps

abbrev pub shares : List Piece → List ℕ
shares ps = map (λ (p : Piece). p.share) ps

-- the product of a list
unfoldable pub product : List Fraction → Fraction
product [] = whole 1
product (x ∷ xs) = x *ᶠ product xs

-- an exact factor is no wider than itself
pub exactly_narrow : (R : ℕ) (x : Fraction) → RelativeWidth R 0 (exactly x)
unfolding exactly
exactly_narrow R x = record { width = omega arith }

-- THE ROOM: how far the high can grow, and the test that it fits at each step
abbrev pub grown : ℕ → List Fraction → ℕ
grown high [] = high
grown high (m ∷ ms) = grown (ceiling high m.num m.den) ms

abbrev pub has_room : ℕ → List Fraction → Bool
has_room high [] = true
has_room high (m ∷ ms) = both (ltb (ceiling high m.num m.den) (2 ^ 64)) (has_room (ceiling high m.num m.den) ms)

-- a larger start and a larger factor give a larger ceiling
pub ceiling_mono : (a b n d m e : ℕ) → 0 < d → 0 < e → a ≤ b → n * e ≤ m * d → ceiling a n d ≤ ceiling b m e
ceiling_mono a b n d m e hd he h k =
    ceiling-≤ a n d (ceiling b m e) hd
    (le_of_mul-le-mul_right {k = e} (omega (arith, mul-le-mul h k, mul-le-mul_right d (ceiling_ge b m e he))) he)

pub record Room (low high H : ℕ) (ps : List Piece) : Type 0 where
  pub low_end : ℕ
  pub high_end : ℕ
  pub is : carried low high (brackets ps) ≡ Some (low_end, high_end)
  pub small : high_end ≤ grown H (bounds ps)

-- a step whose two ends fit
onward_fits : (low high : ℕ) (f : Bracket) (fs : List Bracket) → 0 < f.low_den → 0 < f.high_den
    → floor low f.low_num f.low_den < 2 ^ 64 → ceiling high f.high_num f.high_den < 2 ^ 64
    → carried low high (f ∷ fs) ≡ carried (floor low f.low_num f.low_den) (ceiling high f.high_num f.high_den) fs
onward_fits low high f fs pl ph l h =
    ap (λ (s : Option ℕ). onward s (scaled_up high f.high_num f.high_den) (λ x y. carried x y fs)) (answered_value f.low_den _ pl l)
    ∙ ap (λ (s : Option ℕ). onward (Some (floor low f.low_num f.low_den)) s (λ x y. carried x y fs)) (answered_value f.high_den _ ph h)

pub carried_room : (R : ℕ) (ps : List Piece) (low high H : ℕ) → AllKept R ps → low ≤ high → high ≤ H → T (has_room H (bounds ps)) → Room low high H ps
unfolding fraction
carried_room R [] low high H k o h t = record { low_end = low; high_end = high; is = refl; small = h }
carried_room R (p ∷ ps) low high H k o h t =
    let f = p.bracket in
    let s = k.0.stands in
    let l' = floor low f.low_num f.low_den in
    let h' = ceiling high f.high_num f.high_den in
    let H' = ceiling H p.most.num p.most.den in
    let o' : l' ≤ h' = scaled_order low high _ _ _ _ s.low_den s.high_den o s.in_order.cross in
    let g : h' ≤ H' = ceiling_mono high H _ _ _ _ s.high_den p.most.pos h k.0.bounded in
    let fit : H' < 2 ^ 64 = ltb→lt _ _ (both_left (ltb H' (2 ^ 64)) (has_room H' (bounds ps)) t) in
    let r = carried_room R ps l' h' H' k.1 o' g (both_right (ltb H' (2 ^ 64)) (has_room H' (bounds ps)) t) in
    record {
      low_end = r.low_end;
      high_end = r.high_end;
      is = onward_fits low high f (brackets ps) s.low_den s.high_den (omega (arith, o', g, fit)) (omega (arith, g, fit)) ∙ r.is;
      small = r.small;
    }

-- the absolute part of the width, by the bounds
abbrev pub absolute_most : ℕ → List Fraction → ℕ
absolute_most a [] = a
absolute_most a (m ∷ ms) = absolute_most (ceiling a m.num m.den + 2) ms

-- THE END OF A CARRY from S units of 1 / (c * M), which are exactly `start`: rounded outward by c to units of 1 / M
pub record Ends (R M c : ℕ) (start : Fraction) (ps : List Piece) (S H : ℕ) : Type 0 where
  pub low_end : ℕ
  pub high_end : ℕ
  pub is : carried S S (brackets ps) ≡ Some (low_end, high_end)
  pub low_right : (d : ℕ) → 1 ≤ d → floor low_end 1 c * (start *ᶠ product (overs d ps)).den ≤ (start *ᶠ product (overs d ps)).num * M
  pub high_right : (d : ℕ) → 1 ≤ d → (start *ᶠ product (unders d ps)).num * M ≤ ceiling high_end 1 c * (start *ᶠ product (unders d ps)).den
  pub in_order : floor low_end 1 c ≤ ceiling high_end 1 c
  pub narrow : (a : ℕ) → absolute_most 0 (bounds ps) ≤ a * c → Narrow R (a + 2) (relative_part 0 (shares ps)) (floor low_end 1 c) (ceiling high_end 1 c)
  pub small : high_end ≤ grown H (bounds ps)
