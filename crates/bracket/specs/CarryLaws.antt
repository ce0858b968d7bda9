-- What carrying gives, for any list of factors: the product is kept at each side, and so are the order and the width.
use Rattle.std.specs.Prelude.{Option, None, Some, ◌≡◌, refl, List, [], ◌∷◌, ◌++◌, ℕ, ◌*◌, ◌≤◌, ◌<◌}
use Rattle.std.proofs.Common.{sym, ap, ◌∙◌, arith}
use Rattle.std.proofs.lemmas.Option.{some_pair_parts}
use Rattle.estimate.specs.Fraction.{Fraction}
use Rattle.wide.specs.Scaling.{floor, ceiling, scaled_down, scaled_up, value_is}
use Rattle.wide.specs.Rounding.{Narrow, scaled_lower, scaled_upper}
use Rattle.bracket.specs.Carry.{onward, carried, carried_on, one_by_one, LowsBelow, HighsAbove, product_num, product_den}
use Rattle.bracket.specs.Ratio.{coded, spanned, exactly, exact_is}
use Rattle.bracket.specs.declared.Bracket.{Bracket}
use Rattle.bracket.specs.declared.Ratio.{Ratio}

-- ONE FACTOR AFTER ANOTHER, and then the others, is all of them
onward_on : (s t : Option ℕ) (fs : List Bracket) → carried_on (onward s t (λ x y. Some (x, y))) fs ≡ onward s t (λ x y. carried x y fs)
onward_on (Some x) (Some y) fs = refl
onward_on (Some x) None fs = refl
onward_on None t fs = refl

carried_first : (a : Option (ℕ × ℕ)) (f : Bracket) (fs : List Bracket) → carried_on (carried_on a (f ∷ [])) fs ≡ carried_on a (f ∷ fs)
carried_first (Some (low, high)) f fs = onward_on (scaled_down low f.low_num f.low_den) (scaled_up high f.high_num f.high_den) fs
carried_first None f fs = refl

carried_none : (a : Option (ℕ × ℕ)) → carried_on a [] ≡ a
carried_none (Some (low, high)) = refl
carried_none None = refl

pub one_by_one_lem : (fs : List Bracket) (a : Option (ℕ × ℕ)) → one_by_one a fs ≡ carried_on a fs
one_by_one_lem [] a = sym (carried_none a)
one_by_one_lem (f ∷ fs) a = one_by_one_lem fs (carried_on a (f ∷ [])) ∙ carried_first a f fs

-- a step of it: what the ends so far are, what the factor is, and what came through
pub further : {a b c : Option (ℕ × ℕ)} {f g : Bracket} → a ≡ b → f ≡ g → c ≡ carried_on a (f ∷ []) → c ≡ carried_on b (g ∷ [])
further {b = b} {f = f} i h e = e ∙ ap (λ (a : Option (ℕ × ℕ)). carried_on a (f ∷ [])) i ∙ ap (λ (f : Bracket). carried_on b (f ∷ [])) h

-- and one whose factor is exact
pub further_exact : {a b c : Option (ℕ × ℕ)} {ratio : Ratio} (x : Fraction) → a ≡ b → ratio ≡ coded x → c ≡ carried_on a (spanned ratio ratio ∷ [])
    → c ≡ carried_on b (exactly x ∷ [])
further_exact x i h e = further i (exact_is x h) e

-- a list of factors and then another is both
pub carried_append : (fs gs : List Bracket) (a : Option (ℕ × ℕ)) → carried_on (carried_on a fs) gs ≡ carried_on a (fs ++ gs)
carried_append [] gs a = ap (λ (b : Option (ℕ × ℕ)). carried_on b gs) (carried_none a)
carried_append (f ∷ fs) gs a =
    ap (λ (b : Option (ℕ × ℕ)). carried_on b gs) (sym (carried_first a f fs)) ∙ carried_append fs gs (carried_on a (f ∷ [])) ∙ carried_first a f (fs ++ gs)

-- a step that has an answer
record Step (s t : Option ℕ) (k : ℕ → ℕ → Option (ℕ × ℕ)) (l h : ℕ) : Type 0 where
  low : ℕ
  high : ℕ
  low_is : s ≡ Some low
  high_is : t ≡ Some high
  rest : k low high ≡ Some (l, h)

step_of : (s t : Option ℕ) (k : ℕ → ℕ → Option (ℕ × ℕ)) (l h : ℕ) → onward s t k ≡ Some (l, h) → Step s t k l h
step_of (Some x) (Some y) k l h e = record { low = x; high = y; low_is = refl; high_is = refl; rest = e }
step_of (Some x) None k l h e = let z : ◌≡◌ {A = ℕ} 0 1 = cc in absurd (omega arith)
step_of None t k l h e = let z : ◌≡◌ {A = ℕ} 0 1 = cc in absurd (omega arith)

-- one factor that was carried: its denominators are not 0, and the rest starts at the two roundings
pub record Past (f : Bracket) (fs : List Bracket) (low high l h : ℕ) : Type 0 where
  pub low_den : 0 < f.low_den
  pub high_den : 0 < f.high_den
  pub rest : carried (floor low f.low_num f.low_den) (ceiling high f.high_num f.high_den) fs ≡ Some (l, h)

pub past : (f : Bracket) (fs : List Bracket) (low high l h : ℕ) → carried low high (f ∷ fs) ≡ Some (l, h) → Past f fs low high l h
past f fs low high l h e =
    let s = step_of (scaled_down low f.low_num f.low_den) (scaled_up high f.high_num f.high_den) (λ x y. carried x y fs) l h e in
    let x = value_is f.low_den (floor low f.low_num f.low_den) s.low s.low_is in
    let y = value_is f.high_den (ceiling high f.high_num f.high_den) s.high s.high_is in
    record {
      low_den = x.divisor;
      high_den = y.divisor;
      rest = sym (ap (λ (z : ℕ). carried z s.high fs) x.is ∙ ap (λ (z : ℕ). carried (floor low f.low_num f.low_den) z fs) y.is) ∙ s.rest;
    }

-- THE LOW. low / U at most n / d, and each factor's low at most its fraction: the end is at most the product
pub carried_low : (fs : List Bracket) (xs : List Fraction) (low high l h n d U : ℕ) → LowsBelow fs xs → low * d ≤ n * U → carried low high fs ≡ Some (l, h)
    → l * product_den d xs ≤ product_num n xs * U
carried_low [] [] low high l h n d U w b e = let q = (some_pair_parts low l high h e).0 in rw (← q) b
carried_low [] (x ∷ xs) low high l h n d U w b e = absurd w
carried_low (f ∷ fs) [] low high l h n d U w b e = absurd w
carried_low (f ∷ fs) (x ∷ xs) low high l h n d U w b e =
    let g = past f fs low high l h e in
    carried_low fs xs _ _ l h (n * x.num) (d * x.den) U w.1 (scaled_lower low n d U _ _ x.num x.den b w.0) g.rest

-- THE HIGH. n / d at most high / U, and each fraction at most its factor's high: the product is at most the end
pub carried_high : (fs : List Bracket) (xs : List Fraction) (low high l h n d U : ℕ) → HighsAbove fs xs → n * U ≤ high * d → carried low high fs ≡ Some (l, h)
    → product_num n xs * U ≤ h * product_den d xs
carried_high [] [] low high l h n d U w b e = let q = (some_pair_parts low l high h e).1 in rw (← q) b
carried_high [] (x ∷ xs) low high l h n d U w b e = absurd w
carried_high (f ∷ fs) [] low high l h n d U w b e = absurd w
carried_high (f ∷ fs) (x ∷ xs) low high l h n d U w b e =
    let g = past f fs low high l h e in
    carried_high fs xs _ _ l h (n * x.num) (d * x.den) U w.1 (scaled_upper high n d U _ _ x.num x.den g.high_den b w.0) g.rest

-- THE ORDER AND THE WIDTH
pub record CarriedWidth (R a r l h : ℕ) : Type 0 where
  pub in_order : l ≤ h
  pub narrow : Narrow R a r l h
