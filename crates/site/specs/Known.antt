-- Document 01's known figures of a record: "03 0007 2710 03E8 0005 they are accepted; map 0017 with 0000 added is 9"; and a record with
-- yearly values.
use Rattle.std.specs.Prelude.{Ok}
use Rattle.std.specs.Prelude.{None, Some}
use Rattle.std.specs.Prelude.{◌≡◌, refl, true, List, [], ◌∷◌, ℕ, ◌-◌, ◌*◌}
use Rattle.std.proofs.Common.{arith}
use Rattle.site.specs.declared.values.Site.{Site}
use Rattle.site.specs.Rules.{entries_of, edition_known, years_known}
use Rattle.site.specs.Yearly.{no_later}
use Rattle.site.specs.Record.{any_field, words, fields_number, fields_values, site_of, later_read, later_allowed, site_in, record_number, refusal_of, read_site}

-- a signal with 10,000 and 1,000 vehicles a day and 5 crashes; its turn lanes are the default, its skew and sight are lacking
unfoldable pub signal : Site
signal =
    site_of 3
    (Some 10000
    ∷ None
    ∷ Some 1000
    ∷ Some 5
    ∷ None
    ∷ None
    ∷ None
    ∷ None
    ∷ None
    ∷ None
    ∷ None
    ∷ None
    ∷ None
    ∷ None
    ∷ None
    ∷ None
    ∷ None
    ∷ Some 0
    ∷ Some 0
    ∷ None
    ∷ [])
    no_later
    no_later

pub signal_read : (edition years : ℕ) → edition_known edition ≡ true → years_known years ≡ true
    → read_site edition years (0x03 ∷ 0x00 ∷ 0x07 ∷ 0x27 ∷ 0x10 ∷ 0x03 ∷ 0xE8 ∷ 0x00 ∷ 0x05 ∷ []) ≡ Ok (signal, 9)
unfolding signal entries_of any_field words fields_number fields_values later_read later_allowed record_number refusal_of read_site
signal_read edition years kept known = let none : 0 * (years - 1) ≡ 0 = omega arith in rw (kept, known, none)

pub default_spelled : (edition : ℕ) → edition_known edition ≡ true
    → refusal_of edition 5 (0x03 ∷ 0x00 ∷ 0x17 ∷ 0x27 ∷ 0x10 ∷ 0x03 ∷ 0xE8 ∷ 0x00 ∷ 0x05 ∷ 0x00 ∷ 0x00 ∷ []) ≡ 9
unfolding entries_of any_field words fields_number later_allowed record_number refusal_of
default_spelled edition kept = rw kept

-- document 02, request 4: "a new quarry doubled the traffic in the third year": half a mile with 1,000, 1,000 and 2,000 vehicles a day
pub quarry : List ℕ
quarry = 0x00 ∷ 0x80 ∷ 0x03 ∷ 0x03 ∷ 0xE8 ∷ 0x03 ∷ 0xE8 ∷ 0x07 ∷ 0xD0 ∷ 0x01 ∷ 0xF4 ∷ []

pub record QuarryRead (site : Site) : Type 0 where
  pub traffic : site.traffic ≡ Some 1000
  pub second : site.later_traffic.second ≡ Some 1000
  pub third : site.later_traffic.third ≡ Some 2000
  pub fourth : site.later_traffic.fourth ≡ None
  pub length : site.length ≡ Some 500

pub quarry_read : (edition : ℕ) → edition_known edition ≡ true
    → (read_site edition 3 quarry ≡ Ok (site_in edition 3 quarry, 11)) × QuarryRead (site_in edition 3 quarry)
unfolding quarry entries_of any_field words fields_number fields_values later_read later_allowed record_number refusal_of read_site
quarry_read edition kept = (rw kept, record { traffic = refl; second = refl; third = refl; fourth = refl; length = refl })

-- and a 3ST over two years: 3,000 and 3,500 vehicles a day on its major road, 400 and 450 on its minor road
unfoldable pub turn_off : List ℕ
turn_off = 0x01 ∷ 0x80 ∷ 0x03 ∷ 0x0B ∷ 0xB8 ∷ 0x0D ∷ 0xAC ∷ 0x01 ∷ 0x90 ∷ 0x01 ∷ 0xC2 ∷ []

pub record TurnOffRead (site : Site) : Type 0 where
  pub traffic : site.traffic ≡ Some 3000
  pub second : site.later_traffic.second ≡ Some 3500
  pub third : site.later_traffic.third ≡ None
  pub minor : site.minor_traffic ≡ Some 400
  pub minor_second : site.later_minor.second ≡ Some 450
  pub minor_third : site.later_minor.third ≡ None

pub turn_off_read : (read_site 1 2 turn_off ≡ Ok (site_in 1 2 turn_off, 11)) × TurnOffRead (site_in 1 2 turn_off)
unfolding turn_off entries_of any_field words fields_number fields_values later_read later_allowed record_number refusal_of read_site
turn_off_read = (refl, record { traffic = refl; second = refl; third = refl; minor = refl; minor_second = refl; minor_third = refl })

-- "Bit 15 with Y = 1 is refused with 7, and a missing value is 1"
pub quarry_in_one : (edition : ℕ) → edition_known edition ≡ true → refusal_of edition 1 quarry ≡ 7
unfolding quarry entries_of any_field words fields_number later_allowed record_number refusal_of
quarry_in_one edition kept = rw kept

pub quarry_short : (edition : ℕ) → edition_known edition ≡ true → refusal_of edition 4 quarry ≡ 1
unfolding quarry entries_of any_field words fields_number later_allowed record_number refusal_of
quarry_short edition kept = rw kept

-- document 02, request 6: "Bit 6 of a crossing gets 6 in edition 2": a 3ST with two quadrants of limited sight, and without them
unfoldable pub hidden : List ℕ
hidden = 0x01 ∷ 0x00 ∷ 0x43 ∷ 0x0B ∷ 0xB8 ∷ 0x01 ∷ 0x90 ∷ 0x00 ∷ 0x02 ∷ []

pub record SightRead : Type 0 where
  pub first : read_site 1 5 hidden ≡ Ok (site_in 1 5 hidden, 9)
  pub quadrants : (site_in 1 5 hidden).limited_sight ≡ Some 2
  pub lacked : refusal_of 2 5 hidden ≡ 6
  pub default_first : (site_in 1 2 turn_off).limited_sight ≡ Some 0
  pub absent_second : (site_in 2 2 turn_off).limited_sight ≡ None

-- "3 now means neither 1 nor 2", and is tried before the years
pub edition_three : refusal_of 3 0 quarry ≡ 3
unfolding refusal_of
edition_three = refl
