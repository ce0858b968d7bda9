-- A header's values are those of its bytes by number; its number is told exactly where its cause is found in them, and 0 exactly where
-- none is; and its tests are the limits.
use Rattle.std.specs.Prelude.{◌≡◌, ℕ, ◌≤◌, leb}
use Rattle.std.proofs.Math.Path.{refl}
use Rattle.std.proofs.Math.Bool.{true}
use borrow.Author.Tests.{leb-true}
use Rattle.laws.specs.Truth.{and_right}
use Rattle.site.specs.Rules.{last_edition, edition_known}
use Rattle.header.specs.Layout.{HeaderOfValues}
use Rattle.header.specs.Header.{header_of}
pub use Rattle.header.specs.Causes.{HeaderWithin}

-- a known edition fits a byte
pub edition_few : (edition : ℕ) → edition_known edition ≡ true → edition ≤ last_edition
edition_few edition e = leb-true edition last_edition (and_right (leb 1 edition) _ e)

-- WHAT IS HANDED OVER is the header of these values
pub header_of_values : (edition years segments crossings : ℕ)
    → HeaderOfValues edition years segments crossings (header_of edition years segments crossings)
header_of_values edition years segments crossings = record { edition_is = refl; years_are = refl; segments_are = refl; crossings_are = refl }
