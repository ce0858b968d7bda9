-- What each test of a record tells, in the definition's order.
use mathlib.Core.Path.{◌≡◌, refl, sym, ◌∙◌}
use mathlib.Core.Bool.{Bool, true, false, cond, ◌&&◌, ◌||◌}
use mathlib.Core.List.{List}
use Prim.Native.Nat.{ℕ, ◌+◌, ◌-◌, ◌*◌, ◌≤◌}
use native.Mathlib.Omega.{arith}
use lib.ListN.{length, drop}
use lib.Dec.{ltb, eqb}
use Rattle.laws.specs.Truth.{passed}
use Rattle.site.specs.declared.rules.Rule.{Rule}
use Rattle.site.specs.Rules.{last_kind, later_years}
use Rattle.site.specs.Yearly.{later_from_slots, later_minor}
use Rattle.site.specs.Record.{lacks, misses, words, fields_number, fields_values, site_of, gathered, later_read, later_allowed, kind_in, field_map_in, fields_in, length_in, site_in}
use Rattle.site.specs.Record.{rules_read, rules_in, all_later_allowed, record_number}
use Rattle.site.specs.Answers.{read_answer}
use Rattle.site.specs.Accepted.{Parts, words_least}

-- the rules that are read by are the part's
pub rules_are : (edition : ℕ) {kind map yearly : ℕ} {s : List ℕ} {rules : List Rule} → Parts s kind map yearly → rules ≡ rules_read edition kind map
    → rules_in edition s ≡ rules
rules_are edition p e = rw (p.kind_is, p.map_is) (sym e)

module _ (edition years : ℕ) (s : List ℕ) (kind map yearly : ℕ) (rules : List Rule) (p : Parts s kind map yearly)
    (are : rules_in edition s ≡ rules) where
  module _ (fault : ℕ) (is : fault ≡ cond (lacks rules map) 6 (cond (misses rules map) 7 0)) where
    -- the map's own number is the record's
    pub map_tells : (fault ≡ 0 → ⊥) → record_number edition years s ≡ fault
    unfolding record_number
    map_tells refused = rw (are, p.map_is) (by (lacks rules map) (misses rules map) _ _ is)
      where
        by : (lack miss one : Bool) (rest : ℕ) → fault ≡ cond lack 6 (cond miss 7 0) → cond lack 6 (cond (miss || one) 7 rest) ≡ fault
        by true miss one rest e = sym e
        by false true one rest e = sym e
        by false false one rest e = absurd (refused e)

    -- or the map has none, and bit 15 is tried
    lack_none : fault ≡ 0 → (lacks rules map ≡ false) × (misses rules map ≡ false)
    lack_none none =
        let lack = passed (lacks rules map) 5 (cond (misses rules map) 7 0) (sym is ∙ none) in
        (lack.0, (passed (misses rules map) 6 0 lack.1).0)

    -- then bits 0 and 1 stand
    pub two_words : kind ≤ last_kind → fault ≡ 0 → 2 ≤ words rules map
    two_words known none =
        rw (← are, ← p.map_is)
        (words_least edition (kind_in s) (field_map_in s) (omega (arith, p.kind_is)) (rw (are, p.map_is) (lack_none none).1))

    pub one_year_tells : fault ≡ 0 → (eqb yearly 1 && eqb years 1) ≡ true → record_number edition years s ≡ 7
    unfolding record_number
    one_year_tells none e = let l = lack_none none in rw (are, p.map_is, l.0, l.1, p.bit_is, e)

    -- then the fields' space
    pub space_tells : fault ≡ 0 → (eqb yearly 1 && eqb years 1) ≡ false
        → record_number edition years s ≡ cond (ltb (length s) (length_in edition years s)) 1 (cond (all_later_allowed years s) (fields_number rules map (fields_in years s)) 8)
    unfolding record_number
    space_tells none e = let l = lack_none none in rw (are, p.map_is, l.0, l.1, p.bit_is, e) refl

  -- and what is told of a record that has space for them
  abbrev later : ℕ
  later = yearly * (years - 1)

  pub length_told : length_in edition years s ≡ 3 + 2 * (words rules map + (later + later_minor kind later))
  length_told = rw (are, p.map_is, p.bit_is, p.kind_is) refl

  pub present_told : read_answer
      (cond (later_allowed later (drop 5 s) && later_allowed (later_minor kind later) (drop (7 + 2 * later) s))
      (fields_number rules map (gathered later (later_minor kind later) (drop 3 s))) 8)
      (site_of kind (fields_values rules map (gathered later (later_minor kind later) (drop 3 s)))
      (later_from_slots (later_read later_years later (drop 5 s))) (later_from_slots (later_read later_years (later_minor kind later) (drop (7 + 2 * later) s))))
      (3 + 2 * (words rules map + (later + later_minor kind later)))
      ≡ read_answer (cond (all_later_allowed years s) (fields_number rules map (fields_in years s)) 8) (site_in edition years s) (length_in edition years s)
  present_told = rw (are, p.map_is, p.bit_is, p.kind_is) refl
