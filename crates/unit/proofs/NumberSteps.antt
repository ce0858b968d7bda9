-- A site as numbers: what the code of `src/slots.rt` and `src/sites.rt` takes.
use Rattle.std.specs.Prelude.{Option, None}
use mathlib.Core.Path.{◌≡◌}
use mathlib.Core.List.{List, [], map}
use Prim.Native.Nat.{ℕ, ◌+◌, ◌<◌, ◌≤◌}
use native.Mathlib.Omega.{arith}
use lib.ListN.{length, get_or, drop}
use borrow.Author.Tests.{lt-leb, le-leb}
use Rattle.site.specs.declared.values.Later.{Later}
use Rattle.site.specs.Rules.{slot_count, later_years}
use Rattle.site.specs.Record.{site_of}
use Rattle.site.specs.Yearly.{later_from_slots}
use Rattle.unit.specs.SiteNumbers.{site_of_all, slot_from, kind_from, slot_numbers, site_from, site_numbers}

-- the site of all its slots: of the first twenty, with the later years that stand behind them
pub made_of_all : (kind : ℕ) (first slots : List (Option ℕ)) (traffic minor : Later)
    → ((k : ℕ) → k < slot_count → get_or first k None ≡ get_or slots k None) → traffic ≡ later_from_slots (drop slot_count slots)
    → minor ≡ later_from_slots (drop (slot_count + later_years) slots) → site_of kind first traffic minor ≡ site_of_all kind slots
made_of_all kind first slots traffic minor e p q =
    rw (
      e 0 (omega arith),
      e 1 (omega arith),
      e 2 (omega arith),
      e 3 (omega arith),
      e 4 (omega arith),
      e 5 (omega arith),
      e 6 (omega arith),
      e 7 (omega arith),
      e 8 (omega arith),
      e 9 (omega arith),
      e 10 (omega arith),
      e 11 (omega arith),
      e 12 (omega arith),
      e 13 (omega arith),
      e 14 (omega arith),
      e 15 (omega arith),
      e 16 (omega arith),
      e 17 (omega arith),
      e 18 (omega arith),
      e 19 (omega arith),
      p,
      q,
    )

-- the site of a run of numbers, too few or enough
module _ (numbers : List ℕ) where
  pub few_numbers : length numbers < site_numbers → site_of_all 255 [] ≡ site_from numbers
  unfolding site_from
  few_numbers h = rw (lt-leb site_numbers (length numbers) h)

  pub enough_numbers : site_numbers ≤ length numbers → (kind : ℕ) (slots : List (Option ℕ)) → kind ≡ kind_from (get_or numbers 0 0)
      → slots ≡ map slot_from (slot_numbers numbers) → site_of_all kind slots ≡ site_from numbers
  unfolding site_from
  enough_numbers h kind slots p q = rw (le-leb site_numbers (length numbers) h, p, q)
