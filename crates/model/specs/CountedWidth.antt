-- THE WIDTH OF A PAIR before its crashes are rounded up: so pairs can be added up and rounded once.
use Rattle.std.specs.Prelude.{ℕ, ◌+◌, ◌*◌, ◌≤◌}
use Rattle.std.proofs.Common.{mul-add, mul-le-mul_left, mul-le-mul_right, le_of_mul-le-mul_right, arith}
use Rattle.estimate.specs.Fraction.{Fraction, fraction, whole, ◌+ᶠ◌}
use Rattle.wide.specs.Rounding.{Narrow}
use Rattle.model.specs.StatedWidths.{rounded_up}
use Rattle.model.specs.CrashCounts.{not_below}

-- at most so many for each of n sites and of the crashes, a fraction, and a part in R of its high apart
pub record CountedWidth (R each n : ℕ) (crashes : Fraction) (low high : ℕ) : Type 0 where
  pub width : R * high * crashes.den ≤ R * low * crashes.den + R * each * (n * crashes.den + crashes.num) + high * crashes.den

-- of none
pub none_counted : (R each : ℕ) → CountedWidth R each 0 (whole 0) 0 0
unfolding whole fraction
none_counted R each = record { width = omega arith }

-- two pairs added up
adds : (E n m an ad bn bd L H h L' H' h' : ℕ) → H * ad ≤ L * ad + E * (n * ad + an) + h * ad → H' * bd ≤ L' * bd + E * (m * bd + bn) + h' * bd
    → (H + H') * (ad * bd) ≤ (L + L') * (ad * bd) + E * ((n + m) * (ad * bd) + (an * bd + bn * ad)) + (h + h') * (ad * bd)
adds E n m an ad bn bd L H h L' H' h' e f = omega (arith, mul-le-mul_right bd e, mul-le-mul_right ad f)

pub counted_adds : (R each n m : ℕ) (a b : Fraction) (low high low' high' : ℕ) → CountedWidth R each n a low high
    → CountedWidth R each m b low' high' → CountedWidth R each (n + m) (a +ᶠ b) (low + low') (high + high')
unfolding ◌+ᶠ◌
counted_adds R each n m a b low high low' high' h k = record {
  width = rw (mul-add R high high', mul-add R low low')
      (adds (R * each) n m a.num a.den b.num b.den (R * low) (R * high) high (R * low') (R * high') high' h.width k.width);
}

-- AND ROUNDED UP
pub counted_narrow : (R each n : ℕ) (crashes : Fraction) (low high : ℕ) → CountedWidth R each n crashes low high
    → Narrow R (each * (n + rounded_up crashes)) 1 low high
unfolding whole fraction
counted_narrow R each n crashes low high h =
    let up = mul-le-mul_left (R * each) (not_below crashes).cross in
    record {
      width = le_of_mul-le-mul_right {k = crashes.den} (omega (arith, h.width, up)) crashes.pos;
    }
