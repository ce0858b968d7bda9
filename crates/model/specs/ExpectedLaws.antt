-- What weighing against a history keeps, for any fraction k: order, standing, width, and that the result lies between the
-- prediction and the history.
use Rattle.std.specs.Prelude.{Option, None, Some}
use Rattle.std.specs.Prelude.{ℕ, ◌+◌, ◌*◌}
use Rattle.std.proofs.Common.{ap, arith}
use Rattle.std.proofs.Math.Nat.{mul-le-mul_left}
use Rattle.estimate.specs.Fraction.{Fraction, ◌≤ᶠ◌, ◌=ᶠ◌}
use Rattle.model.specs.Expected.{weighed, with_history}

-- a larger prediction has a larger expectation
pub weighed_mono : (k : Fraction) (O : ℕ) {N M : Fraction} → N ≤ᶠ M → weighed k O N ≤ᶠ weighed k O M
unfolding weighed
weighed_mono k O h = record { cross = omega (arith, mul-le-mul_left (k.den * (k.den + k.num * O)) h.cross) }

-- equal predictions have equal expectations, with a history and without one
weighed_same : (k : Fraction) (O : ℕ) {N M : Fraction} → N =ᶠ M → weighed k O N =ᶠ weighed k O M
unfolding weighed
weighed_same k O e = record { cross = omega (arith, ap (λ (z : ℕ). k.den * (k.den + k.num * O) * z) e.cross) }

pub history_same : (k : Fraction) (slot : Option ℕ) {N M : Fraction} → N =ᶠ M → with_history k slot N =ᶠ with_history k slot M
history_same k None e = e
history_same k (Some O) e = weighed_same k O e
