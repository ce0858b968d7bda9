use Rattle.std.proofs.Common.{ap, ◌∙◌}
use native.Mathlib.Omega.{arith}
use mathlib.Core.List.{List, [], ◌∷◌}
use mathlib.Core.Path.{◌≡◌}
use Prim.Native.Nat.{ℕ, ◌^◌, ◌<◌}
use lib.ListN.{get_or}
use Rattle.laws.specs.Table.{all_below, agree_below}
use Rattle.estimate.specs.Fraction.{◌÷◌, fraction, ◌^ᶠ◌}
use Rattle.bracket.specs.declared.Ratio.{Ratio}
use Rattle.factors.proofs.alignment.grade_power.Goals as goal

abbrev ratio : ℕ → ℕ → Ratio
ratio n d = record { num = n; den = d }

-- the code's table
powers : List Ratio
powers =
    ratio 1 1 ∷ ratio 127 125 ∷ ratio 16129 15625 ∷ ratio 2048383 1953125 ∷ ratio 260144641 244140625 ∷ ratio 33038369407 30517578125
    ∷ ratio 4195872914689 3814697265625 ∷ []

power_at : (k : ℕ) → k < 7 → get_or powers k (ratio 0 0) ≡ ratio (127 ^ k) (125 ^ k)
unfolding all_below powers
power_at k h =
    let num = agree_below (λ k. (get_or powers k (ratio 0 0)).num) (λ k. 127 ^ k) 7 tt k h in
    let den = agree_below (λ k. (get_or powers k (ratio 0 0)).den) (λ k. 125 ^ k) 7 tt k h in
    ap (λ (n : ℕ). ratio n (get_or powers k (ratio 0 0)).den) num ∙ ap (λ (d : ℕ). ratio (127 ^ k) d) den

pub returns : goal.returns
unfolding ◌^ᶠ◌ ◌÷◌ fraction powers
returns c = power_at c.args.exponent (omega arith)
