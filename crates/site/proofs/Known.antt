-- Laws of Known in specs/.
use Rattle.std.specs.Prelude.{refl}
use Rattle.site.specs.Rules.{entries_of}
use Rattle.site.specs.Record.{any_field, words, fields_number, fields_values, later_read, later_allowed, record_number, refusal_of, read_site}
use Rattle.site.specs.Known.{SightRead, hidden, turn_off}

pub sight_read : SightRead
unfolding hidden turn_off entries_of any_field words fields_number fields_values later_read later_allowed record_number refusal_of read_site
sight_read = record { first = refl; quadrants = refl; lacked = refl; default_first = refl; absent_second = refl }
