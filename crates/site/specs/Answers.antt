-- Document 01's number and value for each case of each answer: the record's length with 0, and with a refusal its place, which is 0.
use Rattle.std.specs.Prelude.{Result, Ok, Err}
use Rattle.site.specs.declared.refusal.Refusal.{Refusal}
use Rattle.site.specs.Refusals.{number_of, answer_by}
use Rattle.std.specs.Prelude.{Option, None, Some}
use Rattle.std.specs.Prelude.{ℕ, cond, eqb}
use Rattle.site.specs.declared.values.Site.{Site}
use Rattle.site.specs.Rules.{edition_known, years_known}

-- "That reader answers the site's values and the record's length, or 1 or 5 to 9"; with the edition and the years handed to it
-- (document 02, requests 6 and 4) also "3 or 4 at place 0, tried first", where they are outside their limits: 0 for success
abbrev pub read_number : Result (Site × ℕ) Refusal → ℕ
read_number (Ok read) = 0
read_number (Err refused) = number_of refused

-- "the record's length", or "at place 0"
abbrev pub read_value : Result (Site × ℕ) Refusal → ℕ
read_value (Ok read) = read.1
read_value (Err refused) = 0

-- the answer that has a number, and on 0 these values
abbrev pub read_answer : ℕ → Site → ℕ → Result (Site × ℕ) Refusal
read_answer number site n = answer_by number (site, n)

-- "Success gives 0 and the record's length. It refuses only with 8, then 10"; with edition and years handed to it with 3 and 4 before them
abbrev pub write_number : Result ℕ Refusal → ℕ
write_number (Ok n) = 0
write_number (Err refused) = number_of refused

-- "the record's length", or "at place 0"
abbrev pub write_value : Result ℕ Refusal → ℕ
write_value (Ok n) = n
write_value (Err refused) = 0

abbrev pub wrote_answer : ℕ → ℕ → Result ℕ Refusal
wrote_answer number n = answer_by number n

-- a site measured in a project of an edition and of so many years: 0 with a length. What is outside its range is the edition or the
-- years, "3 or 4 .., tried first", or the site, 8
abbrev pub measure_number : (edition years : ℕ) → Option ℕ → ℕ
measure_number edition years (Some n) = 0
measure_number edition years None = cond (edition_known edition) (cond (years_known years) 8 4) 3

-- the length, or place 0
abbrev pub measure_value : Option ℕ → ℕ
measure_value (Some n) = n
measure_value None = 0

-- what stands beside a number: a record's length beside 0, and place 0 beside a refusal
abbrev pub beside : (number length : ℕ) → ℕ
beside number length = cond (eqb number 0) length 0

-- a lent length afterwards: the record's, and as it was where the writer refuses
abbrev pub write_length : Result ℕ Refusal → ℕ → ℕ
write_length (Ok n) before = n
write_length (Err refused) before = before
