-- WISH 7 of the exported call; and for every order of an accepted project's sites there is a project that it speaks of.
use Rattle.std.specs.Prelude.{Ok}
use Rattle.std.specs.Prelude.{ℕ, ◌≡◌, List}
use Rattle.laws.specs.Reordering.{Reordering}
use Rattle.site.specs.declared.values.Site.{Site}
use Rattle.header.specs.Header.{header_in}
use Rattle.project.specs.File.{scan_file, sites_in}
use Rattle.project_writer.specs.ProjectFile.{file_of}
use Rattle.project_writer.proofs.AnyOrder.{any_order_accepted}
use Rattle.reordering.specs.Reordered.{ReorderedProject}

-- EVERY ORDER IS A PROJECT: the file of an accepted project's header and its sites in another order
pub any_order_reordered : (bytes : List ℕ) (n : ℕ) → scan_file bytes ≡ Ok n
    → (sites : List Site) (image : ℕ → ℕ) → Reordering (sites_in bytes) sites image → ReorderedProject bytes (file_of (header_in bytes) sites) image
any_order_reordered bytes n accepted sites image r =
    let back = any_order_accepted bytes n accepted sites image r in
    record { same_header = back.header_is; same_sites = rw back.sites_are r }
