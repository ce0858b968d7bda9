-- What the code holds of an edition, and that its lane and shoulder are the edition's.
use Rattle.std.specs.Prelude.{ℕ, ◌*◌, ◌≡◌}
use Rattle.bracket.specs.declared.Ratio.{Ratio}
use Rattle.bracket.specs.Ratio.{coded}
use Rattle.model.specs.Coefficients as model
use Rattle.model.specs.Widths.{width_unit, lane_value, shoulder_value, type_value, shoulder_unit, of_related, lane, shoulder}
use Rattle.factors.specs.declared.coefficients.Coefficients.{Coefficients}

pub record Held (k : model.Coefficients) (held : Coefficients) : Type 0 where
  pub share_is : held.related_share ≡ k.related_share
  pub constant_is : held.driveway_constant ≡ k.driveway_constant
  pub fewest_is : held.fewest_driveways ≡ k.fewest_driveways

module _ {k : model.Coefficients} {held : Coefficients} (h : Held k held) where
  pub lane_of : (feet traffic : ℕ) {r : Ratio} → r ≡ coded (of_related held.related_share (lane_value feet traffic) width_unit)
      → r ≡ coded (lane k feet traffic)
  unfolding lane
  lane_of feet traffic e = rw h.share_is at e

  pub shoulder_of : (feet surface traffic : ℕ) {r : Ratio}
      → r ≡ coded (of_related held.related_share (shoulder_value feet traffic * type_value surface feet) shoulder_unit)
      → r ≡ coded (shoulder k feet surface traffic)
  unfolding shoulder
  shoulder_of feet surface traffic e = rw h.share_is at e
