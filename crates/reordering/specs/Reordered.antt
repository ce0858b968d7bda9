-- WISH 7, about the bytes of two projects and the reports that are left for them: "For any two accepted projects with the same header
-- whose sites are the same in another order, each site's line moves with its site and the four totals are equal." What the two have in
-- common is the first record, and what their reports then have is the second; `reports_reordered` and `calls_reordered` say that the
-- first gives the second.
use Rattle.std.specs.Prelude.{ℕ, ◌<◌, ◌≡◌, List}
use Rattle.laws.specs.Reordering.{Reordering}
use Rattle.header.specs.Header.{header_in}
use Rattle.project.specs.File.{sites_in}
use Rattle.report.specs.Demand.{line_at}

-- "the same header whose sites are the same in another order": site i of the one is site `image i` of the other
pub record ReorderedProject (bytes other : List ℕ) (image : ℕ → ℕ) : Type 0 where
  pub same_header : header_in other ≡ header_in bytes
  pub same_sites : Reordering (sites_in bytes) (sites_in other) image

-- "each site's line moves with its site and the four totals are equal": reports of n sites, the totals in the line after them
pub record ReorderedReport (n : ℕ) (image : ℕ → ℕ) (report other_report : List ℕ) : Type 0 where
  pub lines_move : (i : ℕ) → i < n → line_at other_report (image i) ≡ line_at report i
  pub totals_equal : line_at other_report n ≡ line_at report n
