-- Laws of Given in specs/.
use Rattle.std.specs.Prelude.{◌≡◌, Bool, true, false, List, [], ◌∷◌, ◌++◌, min, ltb}
use Rattle.std.proofs.Math.Path.{refl, ap}
use Rattle.std.proofs.Common.{sym, ◌∙◌, append-nil, ltb-true, ltb-false, le-leb}
use Rattle.std.proofs.lemmas.List.{nil_from_length, take-append-le}
use Prim.Native.Nat.{ℕ, zero, suc, ◌+◌, ◌*◌, ◌<◌, ◌≤◌}
use native.Mathlib.Omega.{arith}
use Rattle.std.proofs.Math.ListN.{length, length-append}
use Rattle.std.proofs.Math.Seq.{drop-append-add}
use Rattle.laws.specs.Quotient.{quotient_up_lem, rounded_up_is, quotient_up_zero}
use Rattle.site.specs.declared.values.Site.{Site}
use Rattle.project_writer.specs.ProjectFile.{sound_sites}
use Rattle.project_writer.specs.Sound.{all_sound}
use Rattle.unit.specs.SiteNumbers.{all_count, site_run, site_from, site_numbers}
use Rattle.unit.specs.FileNumbers.{site_count, given_from, sites_given}
use Rattle.unit.proofs.Coding.{site_read}
use Rattle.unit.specs.Given.{sites_run}

-- ONE BEHIND THE OTHER: the site that a run starts with, and those behind its numbers
count_more : (n : ℕ) → site_count (site_numbers + n) ≡ suc (site_count n)
count_more n =
    let up = quotient_up_lem n site_numbers (omega arith) in
    sym (rounded_up_is (omega arith) (record { above = omega arith; near = omega arith }))

module _ (run rest : List ℕ) (h : length run ≡ site_numbers) where
  behind : (left i : ℕ) → given_from left (suc i) (run ++ rest) ≡ given_from left i rest
  unfolding given_from
  behind zero i = refl
  behind (suc left) i =
      let at : site_numbers * suc i ≡ length run + site_numbers * i = omega arith in
      rw (at, drop-append-add run rest (site_numbers * i), behind left (suc i))

  pub given_more : sites_given (run ++ rest) ≡ site_from (run ++ rest) ∷ sites_given rest
  unfolding sites_given given_from
  given_more =
      let count : length (run ++ rest) ≡ site_numbers + length rest = omega (arith, length-append run rest) in
      rw (count, count_more (length rest), behind (site_count (length rest)) 0)

-- A PART OF THE NUMBERS AND THOSE BEHIND IT: those of a site, or all that are left where they are fewer

-- the site that numbers start with is that of their first part
pub part_site : (run rest : List ℕ) → length run ≡ min site_numbers (length (run ++ rest)) → site_from (run ++ rest) ≡ site_from run
unfolding site_from
part_site run [] e = rw (append-nil run) refl
part_site [] (y ∷ rest) e = absurd (omega arith)
part_site (x ∷ run) (y ∷ rest) e =
    let long = length-append run (y ∷ rest) in
    let enough : site_numbers ≤ length (x ∷ (run ++ (y ∷ rest))) = omega (arith, long) in
    let alone : site_numbers ≤ length (x ∷ run) = omega (arith, long) in
    let room : all_count ≤ length run = omega arith in
    rw (le-leb site_numbers (length (x ∷ (run ++ (y ∷ rest)))) enough, le-leb site_numbers (length (x ∷ run)) alone, take-append-le all_count run (y ∷ rest) room)

none_given : sites_given [] ≡ []
unfolding sites_given given_from
none_given = rw (quotient_up_zero site_numbers (omega arith)) refl

pub given_none : (numbers : List ℕ) → length numbers ≡ 0 → sites_given numbers ≡ []
given_none numbers e = rw (nil_from_length numbers e) none_given

few_given : (run : List ℕ) → 0 < length run → length run < site_numbers → sites_given run ≡ site_from run ∷ []
unfolding sites_given given_from
few_given run some few =
    let one : site_count (length run) ≡ 1 = sym (rounded_up_is (omega arith) (record { above = omega arith; near = omega arith })) in
    rw one refl

part_given : (run rest : List ℕ) → length run ≡ min site_numbers (length (run ++ rest)) → 0 < length (run ++ rest)
    → sites_given (run ++ rest) ≡ site_from run ∷ sites_given rest
part_given run rest e some = by (ltb (length run) site_numbers) refl
  where
    long : length (run ++ rest) ≡ length run + length rest
    long = length-append run rest

    by : (b : Bool) → ltb (length run) site_numbers ≡ b → sites_given (run ++ rest) ≡ site_from run ∷ sites_given rest
    by true q =
        let few : length run < site_numbers = ltb-true (length run) site_numbers q in
        let none : rest ≡ [] = nil_from_length rest (omega (arith, long)) in
        rw (none, append-nil, none_given) (few_given run (omega (arith, long, ap length none)) few)
    by false q =
        let full : length run ≡ site_numbers = omega (arith, long, ltb-false (length run) site_numbers q) in
        given_more run rest full ∙ rw (part_site run rest e) refl

pub given_part : {numbers : List ℕ} (run rest : List ℕ) {size : ℕ} {site : Site} → size ≡ site_numbers → numbers ≡ run ++ rest
    → length run ≡ min size (length numbers) → 0 < length numbers → site ≡ site_from run → sites_given numbers ≡ site ∷ sites_given rest
given_part run rest e is part some site = rw (is, site) (part_given run rest (rw (e, is) at part) (rw is at some))

pub given_again : (edition years : ℕ) (sites : List Site) → sound_sites edition years sites ≡ length sites → sites_given (sites_run sites) ≡ sites
unfolding sites_run sites_given given_from
given_again edition years [] e = rw (quotient_up_zero site_numbers (omega arith))
given_again edition years (site ∷ sites) e =
    let all = all_sound edition years site sites e in
    let rest = sites_run sites in
    given_more (site_run site) rest refl ∙ rw (site_read edition years site rest all.0, given_again edition years sites all.1)
