-- A project file written from a lent run of numbers, 39 a site; the number that the call answers, and the count or index beside it.
use Rattle.std.specs.Prelude.{Result, Ok, Err}
use Rattle.std.specs.Prelude.{ℕ, zero, suc, ◌*◌, ◌≡◌, List, [], ◌∷◌, length, drop}
use Rattle.std.proofs.Common.{ap, sym, ◌∙◌, arith}
use Rattle.laws.specs.Quotient.{quotient_up}
use Rattle.site.specs.declared.values.Site.{Site}
use Rattle.header.specs.declared.Header.{Header}
use Rattle.project_writer.specs.declared.course.FileRefusal.{FileRefusal}
use Rattle.project_writer.specs.declared.course.FileRefusal.TheVariants.{EditionUnknown, OutsideLimits, OutsideRange, TooShort}
use Rattle.project_writer.specs.ProjectFile.{file_answer, file_number, file_value, buffer_after}
use Rattle.project_writer.specs.Causes.{FileCause}
use Rattle.project_writer.specs.Promise.{WritesProject}
use Rattle.project_writer.proofs.Promise.{writes_project}
use Rattle.unit.specs.SiteNumbers.{site_from, site_numbers}

-- how many sites so many numbers are: 39 each, and a rest of fewer is a site too, of the kind 255 (`site_from`)
abbrev pub site_count : ℕ → ℕ
site_count numbers = quotient_up numbers site_numbers

-- the sites that are left, from an index on: each stands at 39 times its index
unfoldable pub given_from : (left i : ℕ) → List ℕ → List Site
given_from zero i numbers = []
given_from (suc left) i numbers = site_from (drop (site_numbers * i) numbers) ∷ given_from left (suc i) numbers

unfoldable pub sites_given : List ℕ → List Site
sites_given numbers = given_from (site_count (length numbers)) 0 numbers

-- "The file comes out complete, or nothing is written": the number, its place or the count of bytes, the buffer afterwards, and
-- why
pub record WritesFile (header : Header) (numbers before afterwards : List ℕ) (value number : ℕ) : Type 0 where
  pub number_is : number ≡ file_number (file_answer header (sites_given numbers) (length before))
  pub value_is : value ≡ file_value (file_answer header (sites_given numbers) (length before))
  pub buffer_is : afterwards ≡ buffer_after header (sites_given numbers) before
  pub cause : FileCause header (sites_given numbers) (length before) number value

module _ {header : Header} {numbers before afterwards : List ℕ} where
  pub filed : (answer : Result ℕ FileRefusal) → WritesProject header (sites_given numbers) before afterwards answer
      → (same : Result ℕ FileRefusal) → answer ≡ same → WritesFile header numbers before afterwards (file_value same) (file_number same)
  filed answer w same e =
      let q : same ≡ file_answer header (sites_given numbers) (length before) = sym e ∙ w.answer_is in
      record { number_is = ap file_number q; value_is = ap file_value q; buffer_is = w.buffer_is; cause = rw e at w.cause }

  -- the answer of a call that answers 0
  pub zero_filed : {n : ℕ} → WritesFile header numbers before afterwards n 0 → WritesProject header (sites_given numbers) before afterwards (Ok n)
  zero_filed {n} w =
      writes_project header (sites_given numbers) before afterwards (Ok n)
      (by (file_answer header (sites_given numbers) (length before)) w.number_is w.value_is) w.buffer_is
    where
      by : (answer : Result ℕ FileRefusal) → 0 ≡ file_number answer → n ≡ file_value answer → Ok n ≡ answer
      by (Ok m) e v = ap Ok v
      by (Err EditionUnknown) e v = absurd (omega arith)
      by (Err OutsideLimits) e v = absurd (omega arith)
      by (Err (OutsideRange index)) e v = absurd (omega arith)
      by (Err TooShort) e v = absurd (omega arith)
