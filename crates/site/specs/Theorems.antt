-- What other crates cite of the site reader and the site writer. The round trips, over the writer's own answer and buffer, are
-- `written_reads_back` and `read_writes_back`; `past_nothing`, `same_for_any` and `one_exactly` of BytesRead say which bytes bear
-- on an answer.
use Rattle.std.specs.Prelude.{None}
use Rattle.std.proofs.Math.Path.{◌≡◌, refl}
use Rattle.std.proofs.Common.{arith, lit≤}
use Rattle.std.specs.Prelude.{Bool, List, [], ◌∷◌, ℕ, ◌+◌, ◌≤◌, ltb}
use Rattle.std.proofs.Math.Bool.{true, false, cond}
use Rattle.std.proofs.Math.ListN.{length}
use Rattle.std.proofs.Math.Dec.{eqb}
use borrow.Author.Tests.{ltb-false}
use Rattle.site.specs.declared.rules.Rule.{Rule}
use Rattle.site.specs.declared.values.Site.{Site}
use Rattle.site.specs.Rules.{segment, entries_by, entries_of, last_kind, edition_known, years_known, later_years, bits, settle}
use Rattle.site.specs.Yearly.{later_minor}
use Rattle.site.specs.Record.{curved, rest_of, words, kind_in, field_map_in, rules_in, later_in, length_in}
use Rattle.site.specs.Writing.{sound, measure_of}
use Rattle.site.specs.Digits.{digit_most}
use Rattle.laws.specs.Truth.{and_right, or_left, never_so}
use Rattle.site.specs.Tested.{bit_count, by_rules}
use Rattle.site.specs.Accepted.{later_most}
use Rattle.site.specs.BytesRead.{project_known, head_refused, bears}

-- a record has no more fields than its rules have bits
pub words_most : (rules : List Rule) (map : ℕ) → words rules map ≤ bit_count rules
unfolding words bit_count
words_most [] map = omega arith
words_most (rule ∷ rules) map = omega (arith, digit_most (bits rule) map, words_most rules (rest_of rule map))

-- kind, map and the 7 fields of a crossing, with nine later values for each of its traffics: more than the 15 fields of a segment with
-- nine later values
abbrev pub longest : ℕ
longest = 53

-- the length of an accepted record
pub record RecordLength (s : List ℕ) (n : ℕ) : Type 0 where
  pub at_least : 7 ≤ n
  pub at_most : n ≤ longest
  pub within : n ≤ length s

-- no kind has more: the fields, the nine later years of the traffic, and those of a minor traffic
numbers_most : (edition kind : ℕ) (curved : Bool) → kind ≤ last_kind → bit_count (settle curved (entries_of edition kind)) + later_minor kind later_years ≤ 16
unfolding entries_of bit_count
numbers_most edition kind curved h =
    by_rules (λ sight kind. bit_count (settle curved (entries_by sight kind)) + later_minor kind later_years ≤ 16)
    (λ sight. by curved) (lit≤ tt) (lit≤ tt) (lit≤ tt) (lit≤ tt) (λ sight. lit≤ tt) edition kind h
  where
    by : (curved : Bool) → bit_count (settle curved segment) + later_minor 0 later_years ≤ 16
    by true = lit≤ tt
    by false = lit≤ tt

minor_more : (kind later : ℕ) → later ≤ later_years → later_minor kind later ≤ later_minor kind later_years
minor_more kind later h = by (eqb kind 0)
  where
    by : (b : Bool) → cond b 0 later ≤ cond b 0 later_years
    by true = omega arith
    by false = h

pub length_most : (edition years : ℕ) (s : List ℕ) → years_known years ≡ true → kind_in s ≤ last_kind → length_in edition years s ≤ longest
length_most edition years s y known =
    let few = (later_most years s y).0 in
    omega (
      arith,
      words_most (rules_in edition s) (field_map_in s),
      numbers_most edition (kind_in s) (curved (entries_of edition (kind_in s)) (field_map_in s)) known,
      few,
      minor_more (kind_in s) (later_in years s) few,
    )

-- no more bytes bear on an answer
pub bears_most : (edition years : ℕ) (s : List ℕ) → bears edition years s ≤ longest
unfolding bears
bears_most edition years s = by (project_known edition years) (ltb (length s) 3) (head_refused edition years s) refl refl
  where
    by : (y a b : Bool) → project_known edition years ≡ y → head_refused edition years s ≡ b
        → cond y (cond a 3 (cond b 3 (length_in edition years s))) 0 ≤ longest
    by false a b p e = omega arith
    by true true b p e = omega arith
    by true false true p e = omega arith
    by true false false p e =
        length_most edition years s (and_right (edition_known edition) _ p) (ltb-false last_kind (kind_in s) (or_left (ltb last_kind (kind_in s)) _ e))

pub measured_outside : (edition years : ℕ) (site : Site) → measure_of edition years site ≡ None → sound edition years site ≡ false
unfolding measure_of
measured_outside edition years site e = never_so (sound edition years site) (λ q. let l = rw q at e in let z : ◌≡◌ {A = ℕ} 0 1 = cc in omega arith)
