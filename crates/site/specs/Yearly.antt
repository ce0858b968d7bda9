-- Traffic year by year: document 02, request 4, "each traffic field is followed by Y − 1 more values, for years two to Y".
use Rattle.std.specs.Prelude.{Option, None}
use Rattle.std.specs.Prelude.{ℕ, ◌-◌, Bool, cond, not, List, [], ◌∷◌, get_or, eqb}
use Rattle.site.specs.declared.values.Later.{Later}
use Rattle.site.specs.declared.values.Site.{Site}
use Rattle.site.specs.Rules.{absent}

-- the slots of the later years, year by year, and the later years of a list of slots
abbrev pub later_slots : Later → List (Option ℕ)
later_slots later =
    later.second
    ∷ later.third
    ∷ later.fourth
    ∷ later.fifth
    ∷ later.sixth
    ∷ later.seventh
    ∷ later.eighth
    ∷ later.ninth
    ∷ later.tenth
    ∷ []

abbrev pub later_from_slots : List (Option ℕ) → Later
later_from_slots slots =
    record {
      second = get_or slots 0 None;
      third = get_or slots 1 None;
      fourth = get_or slots 2 None;
      fifth = get_or slots 3 None;
      sixth = get_or slots 4 None;
      seventh = get_or slots 5 None;
      eighth = get_or slots 6 None;
      ninth = get_or slots 7 None;
      tenth = get_or slots 8 None;
    }

-- "a site holds no number for a year not given": no later year
abbrev pub no_later : Later
no_later = later_from_slots []

-- a site has a traffic for each year where it has one for the second: "for each traffic field" all of them are given, or none
abbrev pub yearly : Site → Bool
yearly site = not (absent site.later_traffic.second)

-- how many later values follow the traffic of a site
abbrev pub later_given : (years : ℕ) → Site → ℕ
later_given years site = cond (yearly site) (years - 1) 0

-- and the minor traffic, which a segment does not have
abbrev pub later_minor : (kind later : ℕ) → ℕ
later_minor kind later = cond (eqb kind 0) 0 later
