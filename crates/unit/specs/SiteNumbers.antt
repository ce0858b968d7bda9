-- A site as a run of numbers, for callers in other languages: the kind, its twenty slots in the site's order, then the later years of
-- its traffic and of its minor traffic.
use Rattle.std.specs.Prelude.{Result, Ok, Err}
use Rattle.site.specs.declared.refusal.Refusal.{Refusal}
use Rattle.std.specs.Prelude.{Option, None, Some}
use Rattle.std.specs.Prelude.{ℕ, ◌+◌, ◌*◌, ◌≡◌, cond, List, [], ◌∷◌, ◌++◌, map, length, get_or, take, drop, leb, ltb, eqb}
use Rattle.site.specs.declared.values.Site.{Site}
use Rattle.site.specs.Rules.{slot_count, later_years}
use Rattle.site.specs.Yearly.{later_slots, later_from_slots}
use Rattle.site.specs.Answers.{read_number, write_number, write_length}
use Rattle.site.specs.Record.{site_of, read_site}
use Rattle.site.specs.Writing.{slots_of, write_answer, write_into}
use Rattle.unit.specs.Lent.{LendsValues}

-- all the slots of a site, as they stand in its run, and the site of so many slots
abbrev pub all_slots : Site → List (Option ℕ)
all_slots site = slots_of site ++ (later_slots site.later_traffic ++ later_slots site.later_minor)

abbrev pub site_of_all : (kind : ℕ) → List (Option ℕ) → Site
site_of_all kind slots = site_of kind slots (later_from_slots (drop slot_count slots)) (later_from_slots (drop (slot_count + later_years) slots))

abbrev pub all_count : ℕ
all_count = slot_count + 2 * later_years

-- an absent slot is 65,536, which no two bytes hold
abbrev pub code : Option ℕ → ℕ
code None = 65536
code (Some value) = value

-- a site's run: the kind, then all the slots
abbrev pub site_run : Site → List ℕ
site_run site = site.kind ∷ map code (all_slots site)

-- the values of an answer: the site's run and the record's length; a refusal has none
abbrev pub read_values : Result (Site × ℕ) Refusal → List ℕ
read_values (Ok (site, n)) = site_run site ++ (n ∷ [])
read_values (Err refusal) = []

-- a number that is no code stands for 65,535, which no rule allows, and one that is no byte for the kind 255
abbrev pub slot_from : ℕ → Option ℕ
slot_from number = cond (ltb number 65536) (Some number) (cond (eqb number 65536) None (Some 65535))

abbrev pub kind_from : ℕ → ℕ
kind_from number = cond (ltb number 256) number 255

-- kind and slots
abbrev pub site_numbers : ℕ
site_numbers = 1 + all_count

-- kind, slots and length
abbrev pub answer_numbers : ℕ
answer_numbers = 1 + site_numbers

-- the site that a run of numbers starts with: what follows kind and slots bears on nothing. Fewer numbers stand for a site of the
-- kind 255 too, which is outside its range
abbrev pub slot_numbers : List ℕ → List ℕ
slot_numbers numbers = take all_count (drop 1 numbers)

unfoldable pub site_from : List ℕ → Site
site_from numbers =
    cond (leb site_numbers (length numbers)) (site_of_all (kind_from (get_or numbers 0 0)) (map slot_from (slot_numbers numbers))) (site_of_all 255 [])

-- a site read into a lent run of numbers, in a project of an edition and of so many years: the number, and the run afterwards
abbrev pub ReadsNumbers : (edition years : ℕ) (part before afterwards : List ℕ) (number : ℕ) → Type 0
ReadsNumbers edition years part before afterwards number =
    LendsValues (read_number (read_site edition years part)) (read_values (read_site edition years part)) before afterwards number

-- a site written from a lent run of numbers: the number, the buffer and the record's length afterwards
pub record WritesNumbers (edition years : ℕ) (numbers before afterwards : List ℕ) (length_before length_after number : ℕ) : Type 0 where
  pub number_is : number ≡ write_number (write_answer edition years (site_from numbers) (length before))
  pub buffer_is : afterwards ≡ write_into edition years (site_from numbers) before
  pub length_is : length_after ≡ write_length (write_answer edition years (site_from numbers) (length before)) length_before
