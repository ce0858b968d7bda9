-- The parts of a power's two products fit 64 bits.
use Prim.Native.Nat.{ℕ, ◌+◌, ◌-◌, ◌*◌, ◌/◌, ◌%◌, ◌^◌, ◌≤◌, ◌<◌}
use mathlib.Core.Path.{◌≡◌, ap, ◌∙◌}
use native.Mathlib.Nat.{mul-le-mul, add-mul-div_right}
use native.Mathlib.Omega.{arith}
use lib.Dec.{lit<}
use Rattle.wide.specs.Scaling.{rounded}
use Rattle.remainder.specs.Remainder.{scale, NearOne}
use Rattle.power.specs.Stored.{billion}
use Rattle.power.specs.Ends.{most_stored, most_product}

-- what `scale_by_parts` requires of a n / d, rounded by `up`
abbrev pub PartsFit : (up a n d part : ℕ) → Type 0
PartsFit up a n d part = (a % part * n + up * (d - 1) < 2 ^ 64) × ((a * n + up * (d - 1)) / part < 2 ^ 64)

module _ {up : ℕ} (h : up ≤ 1) where
  pub product_fits : {s t : ℕ} → s ≤ most_stored → t ≤ most_stored → PartsFit up s t billion 512
  product_fits {s} {t} hs ht = let left : s % 512 ≤ 511 = omega arith in (omega (arith, mul-le-mul left ht), omega (arith, mul-le-mul hs ht))

  pub end_fits : {u g : ℕ} → u ≤ most_product → NearOne g → PartsFit up u (g - scale) scale 4096
  end_fits {u} {g} hu hg =
      let left : u % 4096 ≤ 4095 = omega arith in
      let rest : g - scale ≤ 5 * 10 ^ 9 = omega (arith, hg.to) in
      (omega (arith, mul-le-mul left rest), omega (arith, mul-le-mul hu rest))

-- u times a remainder g is u, and u times what g is above 1
pub with_one : (up u g more : ℕ) → scale ≤ g → more ≡ (u * (g - scale) + up * (scale - 1)) / scale → u + more ≡ rounded up u g scale
with_one up u g more h is =
    let parts : g ≡ g - scale + scale = omega arith in
    let sum : u * g + up * (scale - 1) ≡ u * (g - scale) + up * (scale - 1) + u * scale = ap (λ (x : ℕ). u * x + up * (scale - 1)) parts ∙ omega arith in
    rw (sum, add-mul-div_right (u * (g - scale) + up * (scale - 1)) u {z = scale} (lit< tt), is) (omega arith)
