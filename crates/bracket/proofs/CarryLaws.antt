-- Laws of CarryLaws in specs/.
use Rattle.std.specs.Prelude.{Some, ◌≡◌, List, [], ◌∷◌, ℕ, ◌+◌, ◌≤◌}
use Rattle.std.proofs.lemmas.Option.{some_pair_parts}
use Rattle.wide.specs.Scaling.{ceiling}
use Rattle.wide.specs.Rounding.{Narrow, scaled_order, scaled_width, ceiling_ge}
use Rattle.bracket.specs.Carry.{carried, Widths, absolute_part, relative_part}
use Rattle.bracket.specs.declared.Bracket.{Bracket}
use Rattle.bracket.specs.CarryLaws.{CarriedWidth, past}

pub carried_width : (fs : List Bracket) (rs : List ℕ) (R a r low high l h : ℕ) → Widths R fs rs → low ≤ high → Narrow R a r low high
    → carried low high fs ≡ Some (l, h) → CarriedWidth R (absolute_part a fs) (relative_part r rs) l h
carried_width [] [] R a r low high l h w o n e = let p = some_pair_parts low l high h e in rw (← p.0, ← p.1) (record { in_order = o; narrow = n })
carried_width [] (p ∷ ps) R a r low high l h w o n e = absurd w
carried_width (f ∷ fs) [] R a r low high l h w o n e = absurd w
carried_width (f ∷ fs) (p ∷ ps) R a r low high l h w o n e =
    let g = past f fs low high l h e in
    let b = ceiling a f.high_num f.high_den in
    let most = ceiling_ge a f.high_num f.high_den g.high_den in
    carried_width fs ps R (b + 2) (r + p) _ _ l h w.2 (scaled_order low high _ _ _ _ g.low_den g.high_den o w.0)
    (scaled_width R a b r p low high _ _ _ _ g.low_den g.high_den o n w.1.width most) g.rest
