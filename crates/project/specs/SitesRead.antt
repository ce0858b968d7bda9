-- The sites of an accepted file: as many as its header counts, each valid in a project of its edition and years.
use Rattle.std.specs.Prelude.{Result, Ok, Err}
use Rattle.site.specs.declared.refusal.Refusal.{Refusal}
use Rattle.std.specs.Prelude.{◌≡◌, true, length, drop}
use Rattle.std.proofs.Math.Path.{refl}
use Rattle.std.proofs.Common.{arith}
use mathlib.Core.List.{List, Memᴰ}
use Prim.Native.Nat.{ℕ, zero, suc, ◌<◌, ◌≤◌}
use Rattle.site.specs.declared.values.Site.{Site}
use Rattle.site.specs.Rules.{edition_known, years_known}
use Rattle.site.specs.Record.{read_site}
use Rattle.site.specs.Writing.{Valid}
use Rattle.site.specs.Accepted.{reading}
use Rattle.header.specs.Header.{edition_in, in_limits, header_length, header_in, count_in, most_sites}
use Rattle.project.specs.File.{years_in, taken, sites_from, sites_in}

pub record ValidSites (edition years n : ℕ) (sites : List Site) : Type 0 where
  pub count_is : length sites ≡ n
  pub valid : (value : Site) → Memᴰ value sites → Valid edition years value

-- a file that has a site has years that the site reader takes, accepted or not
taken_years : (edition years at : ℕ) (s : List ℕ) (later : ℕ → List Site) (answer : Result (Site × ℕ) Refusal) → read_site edition years (drop at s) ≡ answer
    → 0 < length (taken at answer later) → years_known years ≡ true
taken_years edition years at s later (Err refusal) q h = absurd (omega arith)
taken_years edition years at s later (Ok (value, n)) q h = (reading edition years (drop at s) value n q).accepts.passes.head.years_in

from_years : (edition years left at : ℕ) (s : List ℕ) → 0 < length (sites_from edition years left at s) → years_known years ≡ true
unfolding sites_from
from_years edition years zero at s h = absurd (omega arith)
from_years edition years (suc left) at s h =
    taken_years edition years at s (λ next. sites_from edition years left next s) (read_site edition years (drop at s)) refl h

pub sites_years : (s : List ℕ) → 0 < length (sites_in s) → years_known (years_in s) ≡ true
unfolding sites_in
sites_years s = from_years (edition_in s) (years_in s) (count_in s) header_length s

-- what is so of a file that the scan accepts
pub record AcceptedFile (s : List ℕ) (n : ℕ) : Type 0 where
  pub long : header_length ≤ length s
  pub edition : edition_known (edition_in s) ≡ true
  pub limits : in_limits (header_in s) ≡ true
  pub count_is : n ≡ count_in s
  pub few : n ≤ most_sites
  pub sites : ValidSites (edition_in s) (years_in s) n (sites_in s)
