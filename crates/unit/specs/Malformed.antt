-- Numbers that are no site are outside their range: the calls that take a site refuse them with 8, after an edition that is not known,
-- which is 3, and years outside their limits, which are 4.
use Rattle.std.specs.Prelude.{◌≡◌, true, List, ℕ, length}
use Rattle.std.proofs.Math.Path.{refl}
use Rattle.std.proofs.Common.{◌∙◌}
use Rattle.std.proofs.Math.Bool.{false}
use native.Mathlib.Omega.{arith}
use borrow.Author.Tests.{le-leb}
use Rattle.site.specs.Rules.{edition_known, years_known}
use Rattle.site.specs.Record.{refusal_of, read_site}
use Rattle.unit.specs.SiteNumbers.{ReadsNumbers}

-- no such edition, whatever else is wrong: 3 of the reader; then years outside 1 to 10: 4
module _ (edition years : ℕ) (part before afterwards : List ℕ) (number : ℕ) where
  pub three_read : edition_known edition ≡ false → ReadsNumbers edition years part before afterwards number → number ≡ 3
  unfolding read_site refusal_of
  three_read x r = r.number_is ∙ rw (x, le-leb 0 (length before) (omega arith)) refl

  pub four_read : edition_known edition ≡ true → years_known years ≡ false → ReadsNumbers edition years part before afterwards number → number ≡ 4
  unfolding read_site refusal_of
  four_read x e r = r.number_is ∙ rw (x, e, le-leb 0 (length before) (omega arith)) refl
