-- THE YEARS OF A TERM: a product is in proportion to its years, so that a site whose later years all have the traffic of the first has
-- the estimates of the site without later years, predicted and expected. A sum of terms that are each of all the years has other ones.
use Rattle.std.specs.Prelude.{None}
use Prim.Native.Nat.{ℕ, ◌+◌, ◌≤◌, ◌<◌}
use Rattle.std.specs.Prelude.{◌≡◌, get_or}
use Rattle.site.specs.declared.values.Site.{Site}
use Rattle.site.specs.Yearly.{no_later, later_slots}
use Rattle.site.specs.Numbers.{number}
use Rattle.site.specs.Record.{site_of}
use Rattle.site.specs.Writing.{slots_of}

-- the later year at a place, and every one so many places from a place on, have the traffic of the first, major and minor
abbrev pub SameAt : Site → (i : ℕ) → Type 0
SameAt site i =
    (number (get_or (later_slots site.later_traffic) i None) ≡ number site.traffic)
    × (number (get_or (later_slots site.later_minor) i None) ≡ number site.minor_traffic)

abbrev pub SameFrom : Site → (i count : ℕ) → Type 0
SameFrom site i count = (j : ℕ) → i ≤ j → j < i + count → SameAt site j

-- the site without its later years
abbrev pub of_one_traffic : Site → Site
of_one_traffic site = site_of site.kind (slots_of site) no_later no_later
