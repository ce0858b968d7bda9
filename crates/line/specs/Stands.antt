-- What is claimed of a site's line, whatever makes it: right at every depth, in order, narrow, and between prediction and history.
use Rattle.std.specs.Prelude.{Result, Ok, Err}
use Rattle.std.specs.Prelude.{Some}
use Rattle.std.specs.Prelude.{ℕ, ◌+◌, ◌*◌, ◌≤◌, min, max, ◌≡◌, true, false}
use Rattle.estimate.specs.Fraction.{millionths}
use Rattle.estimate.specs.Standing.{Between}
use Rattle.wide.specs.Rounding.{Narrow}
use Rattle.site.specs.declared.values.Site.{Site}
use Rattle.site.specs.Rules.{edition_known}
use Rattle.site.specs.Writing.{sound}
use Rattle.header.specs.declared.Header.{Header}
use Rattle.header.specs.Causes.{HeaderWithin}
use Rattle.model.specs.Coefficients.{Coefficients}
use Rattle.model.specs.Predicted.{predicted_under, predicted_over}
use Rattle.model.specs.Expected.{expected_under, expected_over}
use Rattle.model.specs.StatedWidths.{width_parts, predicted_each, expected_each, sites_counted, observed_weight}
use Rattle.line.specs.declared.Line.{Line}
use Rattle.line.specs.declared.LineRefusal.{LineRefusal}
use Rattle.line.specs.declared.LineRefusal.TheVariants.{EditionUnknown, OutsideLimits, OutsideRange}

-- a number lies from the lesser to the greater of two
pub record Amid (x y n : ℕ) : Type 0 where
  pub from : min x y ≤ n
  pub to : n ≤ max x y

pub record LineStands (c : Coefficients) (header : Header) (site : Site) (line : Line) : Type 0 where
  -- "an exact figure stands between two numbers when both are right"
  pub predicted_between : Between (millionths line.predicted_low) (millionths line.predicted_high)
      (predicted_under c header site) (predicted_over c header site)
  pub expected_between : Between (millionths line.expected_low) (millionths line.expected_high)
      (expected_under c header site) (expected_over c header site)
  -- "No low passes its high"
  pub predicted_in_order : line.predicted_low ≤ line.predicted_high
  pub expected_in_order : line.expected_low ≤ line.expected_high
  -- a site that counts as n: at most 4 n and a millionth of the high apart; with crashes of a weight, 8 (n + weight) and a millionth
  pub predicted_narrow : Narrow width_parts (predicted_each * sites_counted header.years site) 1 line.predicted_low line.predicted_high
  pub expected_narrow : Narrow width_parts (expected_each * (sites_counted header.years site + observed_weight c header.years site)) 1
      line.expected_low line.expected_high
  -- with a history, between the prediction and it
  pub low_amid : (observed : ℕ) → site.observed ≡ Some observed → Amid line.predicted_low (observed * 1000000) line.expected_low
  pub high_amid : (observed : ℕ) → site.observed ≡ Some observed → Amid line.predicted_high (observed * 1000000) line.expected_high

-- an answer: its line stands; the edition is refused only where there is none such, the header only where it is outside its limits
-- and the edition is known, and the site only where it is outside its range and the header is not
abbrev pub AnswerStands : Coefficients → Header → Site → Result Line LineRefusal → Type 0
AnswerStands c header site (Ok line) = LineStands c header site line
AnswerStands c header site (Err EditionUnknown) = edition_known header.edition ≡ false
AnswerStands c header site (Err OutsideLimits) = (edition_known header.edition ≡ true) × (HeaderWithin header → ⊥)
AnswerStands c header site (Err OutsideRange) =
    (edition_known header.edition ≡ true) × HeaderWithin header × (sound header.edition header.years site ≡ false)
