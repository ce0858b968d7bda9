-- Laws of Pieces in specs/.
use Rattle.std.specs.Prelude.{◌≡◌, List, [], ◌∷◌, ℕ, ◌*◌, ◌≤◌, ◌<◌, T}
use Rattle.std.proofs.Common.{le_refl, mul-le-mul_right, le_of_mul-le-mul_right}
use native.Mathlib.Omega.{arith}
use Rattle.estimate.specs.Fraction.{Fraction, fraction, ◌*ᶠ◌, whole}
use Rattle.wide.specs.Scaling.{floor, ceiling}
use Rattle.wide.specs.Rounding.{floor_le, ceiling_ge, scaled_order, scaled_width}
use Rattle.bracket.specs.Carry.{LowsBelow, HighsAbove, product_num, product_den, Widths, absolute_part, relative_part}
use Rattle.bracket.specs.CarryLaws.{carried_low, carried_high}
use Rattle.bracket.proofs.CarryLaws.{carried_width}
use Rattle.bracket.specs.Pieces.{AllKept, Ends, Piece, absolute_most, bounds, brackets, carried_room, ceiling_mono, has_room, overs, product, shares, unders}

-- THE PRODUCT of a list, by numerators and denominators
product_num_lem : (n : ℕ) (xs : List Fraction) → product_num n xs ≡ n * (product xs).num
unfolding product whole fraction ◌*ᶠ◌
product_num_lem n [] = omega arith
product_num_lem n (x ∷ xs) = omega (arith, product_num_lem (n * x.num) xs)

product_den_lem : (n : ℕ) (xs : List Fraction) → product_den n xs ≡ n * (product xs).den
unfolding product whole fraction ◌*ᶠ◌
product_den_lem n [] = omega arith
product_den_lem n (x ∷ xs) = omega (arith, product_den_lem (n * x.den) xs)

-- what is kept of each factor, in the forms of the laws of carrying
lows_below : (R d : ℕ) → 1 ≤ d → (ps : List Piece) → AllKept R ps → LowsBelow (brackets ps) (overs d ps)
unfolding fraction
lows_below R d l [] k = tt
lows_below R d l (p ∷ ps) k = ((k.0.stands.low_right.at d l).cross, lows_below R d l ps k.1)

highs_above : (R d : ℕ) → 1 ≤ d → (ps : List Piece) → AllKept R ps → HighsAbove (brackets ps) (unders d ps)
unfolding fraction
highs_above R d l [] k = tt
highs_above R d l (p ∷ ps) k = ((k.0.stands.high_right.at d l).cross, highs_above R d l ps k.1)

widths : (R : ℕ) (ps : List Piece) → AllKept R ps → Widths R (brackets ps) (shares ps)
unfolding fraction
widths R [] k = tt
widths R (p ∷ ps) k = (k.0.stands.in_order.cross, k.0.narrow, widths R ps k.1)

absolute_bounded : (R : ℕ) (ps : List Piece) (a b : ℕ) → AllKept R ps → a ≤ b → absolute_part a (brackets ps) ≤ absolute_most b (bounds ps)
absolute_bounded R [] a b k h = h
absolute_bounded R (p ∷ ps) a b k h =
    absolute_bounded R ps _ _ k.1 (omega (arith, ceiling_mono a b _ _ _ _ k.0.stands.high_den p.most.pos h k.0.bounded))

-- a low of l units of 1 / (c * M), rounded down by c, and a high rounded up
rounded_low : (l c M N D : ℕ) → 0 < c → l * D ≤ N * (c * M) → floor l 1 c * D ≤ N * M
rounded_low l c M N D hc h = le_of_mul-le-mul_right {k = c} (omega (arith, mul-le-mul_right D (floor_le l 1 c), h)) hc

rounded_high : (l c M N D : ℕ) → 0 < c → N * (c * M) ≤ l * D → N * M ≤ ceiling l 1 c * D
rounded_high l c M N D hc h = le_of_mul-le-mul_right {k = c} (omega (arith, mul-le-mul_right D (ceiling_ge l 1 c hc), h)) hc

module _ (R M c : ℕ) (start : Fraction) (ps : List Piece) (S H : ℕ) (hc : 0 < c) (k : AllKept R ps) (few : S ≤ H) (t : T (has_room H (bounds ps)))
    (exact : S * start.den ≡ start.num * (c * M)) where
  pub carried_ends : Ends R M c start ps S H
  unfolding ◌*ᶠ◌
  carried_ends =
      let r = carried_room R ps S S H k (le_refl S) few t in
      let w = carried_width (brackets ps) (shares ps) R 0 0 S S _ _ (widths R ps k) (le_refl S) (record { width = omega arith }) r.is in
      record {
        low_end = r.low_end;
        high_end = r.high_end;
        is = r.is;
        low_right = λ d l. rounded_low r.low_end c M _ _ hc
            (rw (← product_den_lem start.den (overs d ps), ← product_num_lem start.num (overs d ps))
            (carried_low (brackets ps) (overs d ps) S S _ _ start.num start.den (c * M) (lows_below R d l ps k) (omega (arith, exact)) r.is));
        high_right = λ d l. rounded_high r.high_end c M _ _ hc
            (rw (← product_den_lem start.den (unders d ps), ← product_num_lem start.num (unders d ps))
            (carried_high (brackets ps) (unders d ps) S S _ _ start.num start.den (c * M) (highs_above R d l ps k) (omega (arith, exact)) r.is));
        in_order = scaled_order r.low_end r.high_end 1 c 1 c hc hc w.in_order (omega arith);
        narrow = λ a most.
            let n = scaled_width R (absolute_part 0 (brackets ps)) a (relative_part 0 (shares ps)) 0 _ _ 1 c 1 c hc hc w.in_order w.narrow (omega arith)
            (omega (arith, most, absolute_bounded R ps 0 0 k (le_refl 0))) in
            record { width = omega (arith, n.width) };
        small = r.small;
      }
