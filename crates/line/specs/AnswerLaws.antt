-- The answer of the public call: a line exactly where the edition is known and header and site are within their ranges, and it
-- stands; otherwise the first refusal.
use Rattle.line.specs.declared.Line.{Line}
use Rattle.std.specs.Prelude.{Result, Ok, Err}
use Rattle.std.specs.Prelude.{◌≡◌, true, false}
use Rattle.std.proofs.Math.Path.{refl}
use Rattle.std.proofs.Common.{sym, ◌∙◌}
use Rattle.std.proofs.Math.Bool.{true≢false}
use Rattle.site.specs.declared.values.Site.{Site}
use Rattle.site.specs.Rules.{edition_known}
use Rattle.site.specs.Writing.{sound}
use Rattle.header.specs.declared.Header.{Header}
use Rattle.header.specs.Header.{in_limits}
use Rattle.header.proofs.HeaderLaws.{limits_of, limits_pass}
use Rattle.model.specs.Coefficients.{Coefficients}
use Rattle.line.specs.declared.LineRefusal.{LineRefusal}
use Rattle.line.specs.declared.LineRefusal.TheVariants.{EditionUnknown, OutsideLimits, OutsideRange}
use Rattle.line.specs.Line.{site_line, line_number, line_refusal, line_answer}
use Rattle.line.specs.Stands.{LineStands, AnswerStands}

module _ (c : Coefficients) (header : Header) (site : Site) where
  -- an answer is its definition's, has document 01's number, and stands
  abbrev Answered : Result Line LineRefusal → Type 0
  Answered r = (r ≡ line_answer c header site) × ((line_number r ≡ line_refusal header site) × AnswerStands c header site r)

  -- each way of answering, by the three tests
  pub edition_unknown : edition_known header.edition ≡ false → Answered (Err EditionUnknown)
  unfolding line_answer line_refusal
  edition_unknown out = (rw out refl, (rw out refl, out))

  module _ (known : edition_known header.edition ≡ true) where
    pub header_outside : in_limits header ≡ false → Answered (Err OutsideLimits)
    unfolding line_answer line_refusal
    header_outside out = (rw (known, out) refl, (rw (known, out) refl, (known, λ within. true≢false (sym (limits_pass header within) ∙ out))))

    module _ (within : in_limits header ≡ true) where
      pub site_outside : sound header.edition header.years site ≡ false → Answered (Err OutsideRange)
      unfolding line_answer line_refusal
      site_outside out = (rw (known, within, out) refl, (rw (known, within, out) refl, (known, limits_of header within, out)))

      pub all_inside : sound header.edition header.years site ≡ true → LineStands c header site (site_line c header site)
          → Answered (Ok (site_line c header site))
      unfolding line_answer line_refusal
      all_inside valid stands = (rw (known, within, valid) refl, (rw (known, within, valid) refl, stands))
