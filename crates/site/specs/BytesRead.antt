-- "nothing past the record bears on it": the bytes of a part on which the site reader's answer rests.
use Rattle.std.specs.Prelude.{Result, Ok, Err}
use Rattle.site.specs.declared.refusal.Refusal.{Refusal}
use Rattle.site.specs.Refusals.{refusal}
use Rattle.std.specs.Prelude.{Option}
use Rattle.std.specs.Prelude.{◌≡◌, Bool, ◌&&◌, ◌||◌, ◌↔◌, ℕ, ◌+◌, ◌*◌, ◌<◌, ◌≤◌, take, drop, eqb}
use Rattle.std.proofs.Math.Path.{refl}
use Rattle.std.proofs.Common.{ap, sym, ◌∙◌, true≢false, length-append, length-drop, take-append-drop, length-take-le}
use Rattle.std.proofs.Math.Bool.{true, false, cond}
use mathlib.Core.List.{List, [], ◌∷◌, ◌++◌}
use native.Mathlib.Omega.{arith}
use Rattle.std.proofs.Math.ListN.{length}
use Rattle.std.proofs.lemmas.List.{drop-append-le}
use Rattle.std.proofs.Math.Dec.{ltb}
use borrow.Author.Tests.{lt-ltb, le-ltb, ltb-false, eqb-true}
use Rattle.site.specs.declared.rules.Rule.{Rule}
use Rattle.site.specs.declared.values.Site.{Site}
use Rattle.site.specs.Rules.{last_kind, edition_known, years_known, later_years, allows, absent_of, holds}
use Rattle.site.specs.Yearly.{later_from_slots}
use Rattle.site.specs.LaterLaws.{gathered_append, length_gathered, same_word, LaterAlike, later_alike}
use Rattle.site.specs.Record.{word, bit_of, rest_of, stands, words, field_number, field_value, after, fields_number, fields_values}
use Rattle.site.specs.Record.{lacks, site_of, kind_in, field_map_in, rules_in, later_in, later_minor_in, fields_in, later_at, later_minor_at, later_read, all_later_allowed}
use Rattle.site.specs.Record.{length_in, site_in, misses_in, refusal_of, read_site}
use Rattle.site.specs.Answers.{read_answer}
use Rattle.site.specs.Accepted.{HeadPresent, MapPasses, Tried, edition_unknown, years_unknown, head_short, kind_unknown, map_lacks, map_misses}
use Rattle.site.specs.Accepted.{fields_short, later_refused, fields_tell, fields_long, tried, tried_number, accepted, reading}

-- kind or map is refused: 5, 6 or 7
abbrev pub head_refused : (edition years : ℕ) → List ℕ → Bool
head_refused edition years s = ltb last_kind (kind_in s) || (lacks (rules_in edition s) (field_map_in s) || misses_in edition years s)

-- edition and years are within their limits
abbrev pub project_known : (edition years : ℕ) → Bool
project_known edition years = edition_known edition && years_known years

-- kind and map, and unless these are refused the fields; nothing where the edition or the years are outside their limits
unfoldable pub bears : (edition years : ℕ) → List ℕ → ℕ
bears edition years s = cond (project_known edition years) (cond (ltb (length s) 3) 3 (cond (head_refused edition years s) 3 (length_in edition years s))) 0

-- two lists that share the fields of a record are read alike
record Alike (rules : List Rule) (map : ℕ) (s t : List ℕ) : Type 0 where
  pub number : fields_number rules map s ≡ fields_number rules map t
  pub values : fields_values rules map s ≡ fields_values rules map t

record SameField (rule : Rule) (map : ℕ) (s t : List ℕ) : Type 0 where
  pub number : field_number rule map (s ++ t) ≡ field_number rule map s
  pub value : field_value rule map (s ++ t) ≡ field_value rule map s

same_field : (rule : Rule) (map : ℕ) (s t : List ℕ) → 2 * bit_of rule map ≤ length s → SameField rule map s t
same_field rule map s t h = by (stands rule map) refl
  where
    by : (b : Bool) → stands rule map ≡ b → SameField rule map s t
    by true e =
        let one : bit_of rule map ≡ 1 = eqb-true (bit_of rule map) 1 e in
        let w = same_word s t (omega arith) in
        record { number = rw w; value = rw w }
    by false e = record { number = rw e; value = rw e }

alike : (rules : List Rule) (map : ℕ) (s t : List ℕ) → 2 * words rules map ≤ length s → Alike rules map (s ++ t) s
unfolding words fields_number fields_values
alike [] map s t h = record { number = refl; values = refl }
alike (rule ∷ rules) map s t h =
    let f = same_field rule map s t (omega arith) in
    let short : 2 * bit_of rule map ≤ length s = omega arith in
    let d = drop-append-le (2 * bit_of rule map) s t short in
    let rest = alike rules (rest_of rule map) (after rule map s) t (omega (arith, length-drop (2 * bit_of rule map) s)) in
    record {
      number = rw (f.number, d, rest.number);
      values = rw (f.value, d, rest.values);
    }

-- where kind and map are right, the fields bear on the answer, and where they are not, nothing past them does
fields_bear : {edition years : ℕ} {s : List ℕ} → MapPasses edition years s → bears edition years s ≡ length_in edition years s
unfolding bears
fields_bear p = rw (p.head.edition_in, p.head.years_in, le-ltb _ _ p.head.long, le-ltb _ _ p.head.known, p.lack, p.miss)

-- a part that holds a record, and goes on
module _ (edition years k a b : ℕ) (s t : List ℕ) where
  abbrev part : List ℕ
  part = k ∷ a ∷ b ∷ s

  abbrev longer : List ℕ
  longer = k ∷ a ∷ b ∷ (s ++ t)

  head_longer : HeadPresent edition years part → HeadPresent edition years longer
  head_longer h = record { edition_in = h.edition_in; years_in = h.years_in; long = omega arith; known = h.known }

  passes_longer : MapPasses edition years part → MapPasses edition years longer
  passes_longer p = record { head = head_longer p.head; lack = p.lack; miss = p.miss }

  module _ (p : MapPasses edition years part) (full : length_in edition years part ≤ length part) where
    between : 4 + 2 * later_in years part + 2 * later_minor_in years part ≤ length s
    between = fields_long edition years part p full

    fields_alike : Alike (rules_in edition part) (field_map_in part) (fields_in years longer) (fields_in years part)
    fields_alike =
        rw (gathered_append (later_in years part) (later_minor_in years part) s t between)
        (alike (rules_in edition part) (field_map_in part) (fields_in years part) t
        (omega (arith, full, between, length_gathered (later_in years part) (later_minor_in years part) s between)))

    traffic_alike : LaterAlike later_years (later_in years part) (later_at part) t
    traffic_alike = later_alike later_years (later_in years part) (later_at part) t (omega (arith, between, length-drop 2 s))

    minor_alike : LaterAlike later_years (later_minor_in years part) (later_minor_at years part) t
    minor_alike = later_alike later_years (later_minor_in years part) (later_minor_at years part) t (omega (arith, between, length-drop (7 + 2 * later_in years part) part))

    at_traffic : later_at longer ≡ later_at part ++ t
    at_traffic = drop-append-le 2 s t (omega (arith, between))

    at_minor : later_minor_at years longer ≡ later_minor_at years part ++ t
    at_minor = drop-append-le (7 + 2 * later_in years part) part t (omega (arith, between))

    allowed_alike : all_later_allowed years longer ≡ all_later_allowed years part
    allowed_alike = rw (at_traffic, at_minor, traffic_alike.right, minor_alike.right) refl

    site_alike : site_in edition years longer ≡ site_in edition years part
    site_alike =
        let n = later_in years part in
        let m = later_minor_in years part in
        ap (λ (l : List (Option ℕ)). site_of k l (later_from_slots (later_read later_years n (later_at longer))) (later_from_slots (later_read later_years m (later_minor_at years longer)))) fields_alike.values
        ∙ ap (λ (l : List (Option ℕ)). site_of k (fields_values (rules_in edition part) (field_map_in part) (fields_in years part)) (later_from_slots l) (later_from_slots (later_read later_years m (later_minor_at years longer))))
        (ap (later_read later_years n) at_traffic ∙ traffic_alike.values)
        ∙ ap (λ (l : List (Option ℕ)). site_of k (fields_values (rules_in edition part) (field_map_in part) (fields_in years part)) (later_from_slots (later_read later_years n (later_at part))) (later_from_slots l))
        (ap (later_read later_years m) at_minor ∙ minor_alike.values)

  -- the tests of a part come out as those of the bytes that bear on it
  tried_alike : {n : ℕ} → bears edition years part ≤ length part → Tried edition years part n → Tried edition years longer n
  tried_alike e (edition_unknown x) = edition_unknown x
  tried_alike e (years_unknown x y) = years_unknown x y
  tried_alike e (head_short x y h) = absurd (omega arith)
  tried_alike e (kind_unknown x y l h) = kind_unknown x y (omega arith) h
  tried_alike e (map_lacks h l) = map_lacks (head_longer h) l
  tried_alike e (map_misses h l m) = map_misses (head_longer h) l m
  tried_alike e (fields_short p f) = absurd (omega (arith, fields_bear p))
  tried_alike e (later_refused p f r) = later_refused (passes_longer p) (omega (arith, length-append s t)) (allowed_alike p f ∙ r)
  tried_alike e (fields_tell p f r) =
      rw (← (fields_alike p f).number) (fields_tell (passes_longer p) (omega (arith, length-append s t)) (allowed_alike p f ∙ r))

-- an answer by a number tells the site only where the number is 0
same_answer : (number : ℕ) (site other : Site) (n : ℕ) → (number ≡ 0 → site ≡ other)
    → read_answer number site n ≡ read_answer number other n
same_answer number site other n h = by (eqb number 0) refl
  where
    by : (b : Bool) → eqb number 0 ≡ b → ◌≡◌ {A = Result (Site × ℕ) Refusal} (cond b (Ok (site, n)) (Err (refusal number))) (cond b (Ok (other, n)) (Err (refusal number)))
    by true e = ap (λ (x : Site). Ok (x, n)) (h (eqb-true number 0 e))
    by false e = refl

-- where a part holds the bytes that bear on its answer, whatever follows them bears on nothing
module _ (edition years : ℕ) (known : project_known edition years ≡ true) where
  long_enough : (s : List ℕ) → bears edition years s ≤ length s → 3 ≤ length s
  unfolding bears
  long_enough s h = by (ltb (length s) 3) refl (rw known at h)
    where
      by : (c : Bool) → ltb (length s) 3 ≡ c → cond c 3 (cond (head_refused edition years s) 3 (length_in edition years s)) ≤ length s → 3 ≤ length s
      by true e h = h
      by false e h = ltb-false (length s) 3 e

  past_known : (s t : List ℕ) → bears edition years s ≤ length s → read_site edition years (s ++ t) ≡ read_site edition years s
  unfolding read_site
  past_known [] t h = absurd (omega (arith, long_enough [] h))
  past_known (k ∷ []) t h = absurd (omega (arith, long_enough (k ∷ []) h))
  past_known (k ∷ a ∷ []) t h = absurd (omega (arith, long_enough (k ∷ a ∷ []) h))
  past_known (k ∷ a ∷ b ∷ s) t h =
      let x = k ∷ a ∷ b ∷ s in
      rw (tried_number edition years (k ∷ a ∷ b ∷ (s ++ t)) (tried_alike edition years k a b s t h (tried edition years x)))
      (same_answer (refusal_of edition years x) (site_in edition years (k ∷ a ∷ b ∷ (s ++ t))) (site_in edition years x) (length_in edition years x)
      (λ e. let r = accepted edition years x e in site_alike edition years k a b s t r.passes r.full))

  -- the bytes that bear on an answer are told by kind and map
  bears_same : (s t : List ℕ) → 3 ≤ length s → bears edition years (s ++ t) ≡ bears edition years s
  unfolding bears
  bears_same [] t h = absurd (omega arith)
  bears_same (k ∷ []) t h = absurd (omega arith)
  bears_same (k ∷ a ∷ []) t h = absurd (omega arith)
  bears_same (k ∷ a ∷ b ∷ s) t h =
      rw (le-ltb (length (k ∷ a ∷ b ∷ s)) 3 (omega arith), le-ltb (length (k ∷ a ∷ b ∷ (s ++ t))) 3 (omega arith))

  pub three_bear : (s : List ℕ) → 3 ≤ bears edition years s
  unfolding bears
  three_bear s = rw known (by (ltb (length s) 3) (head_refused edition years s))
    where
      by : (a b : Bool) → 3 ≤ cond a 3 (cond b 3 (length_in edition years s))
      by true b = omega arith
      by false true = omega arith
      by false false = omega arith

  same_known : (s t : List ℕ) → bears edition years s ≤ length s → read_site edition years (take (bears edition years s) s ++ t) ≡ read_site edition years s
  same_known s t h =
      let x = take (bears edition years s) s in
      let l : length x ≡ bears edition years s = length-take-le (bears edition years s) s h in
      let e : x ++ drop (bears edition years s) s ≡ s = take-append-drop (bears edition years s) s in
      let b : bears edition years x ≡ bears edition years s =
      sym (bears_same x (drop (bears edition years s) s) (omega (arith, three_bear s))) ∙ ap (bears edition years) e in
      let enough : bears edition years x ≤ length x = omega arith in
      past_known x t enough ∙ sym (past_known x (drop (bears edition years s) s) enough) ∙ ap (read_site edition years) e

-- an edition or years outside their limits are refused with 3 or 4, whatever the bytes are: none bear on that answer
module _ (edition years : ℕ) where
  unknown_alike : project_known edition years ≡ false → (s t : List ℕ) → read_site edition years s ≡ read_site edition years t
  unfolding read_site refusal_of
  unknown_alike e s t = by (edition_known edition) (years_known years) refl refl e
    where
      by : (a b : Bool) → edition_known edition ≡ a → years_known years ≡ b → (a && b) ≡ false → read_site edition years s ≡ read_site edition years t
      by false b x y e = rw x
      by true false x y e = rw (x, y)
      by true true x y e = absurd (true≢false e)

  pub past_nothing : (s t : List ℕ) → bears edition years s ≤ length s → read_site edition years (s ++ t) ≡ read_site edition years s
  past_nothing s t h = by (project_known edition years) refl
    where
      by : (b : Bool) → project_known edition years ≡ b → read_site edition years (s ++ t) ≡ read_site edition years s
      by true y = past_known edition years y s t h
      by false y = unknown_alike y (s ++ t) s

  -- the answer is the same for any bytes after those that bear on it
  pub same_for_any : (s t : List ℕ) → bears edition years s ≤ length s
      → read_site edition years (take (bears edition years s) s ++ t) ≡ read_site edition years s
  same_for_any s t h = by (project_known edition years) refl
    where
      by : (b : Bool) → project_known edition years ≡ b → read_site edition years (take (bears edition years s) s ++ t) ≡ read_site edition years s
      by true y = same_known edition years y s t h
      by false y = unknown_alike y (take (bears edition years s) s ++ t) s

-- a record that is read is the bytes that bear on its answer
pub read_bears : (edition years : ℕ) (s : List ℕ) (site : Site) (n : ℕ) → read_site edition years s ≡ Ok (site, n) → bears edition years s ≡ n
read_bears edition years s site n e =
    let r = reading edition years s site n e in
    fields_bear r.accepts.passes ∙ r.length_is

-- no field is refused with 1
field_not_one : (b a d : Bool) → ◌≡◌ {A = ℕ} (cond b (cond a (cond d 9 0) 8) 0) 1 → ⊥
field_not_one false a d e = omega arith
field_not_one true false d e = omega arith
field_not_one true true true e = omega arith
field_not_one true true false e = omega arith

fields_not_one : (rules : List Rule) (map : ℕ) (s : List ℕ) → fields_number rules map s ≡ 1 → ⊥
unfolding fields_number
fields_not_one [] map s e = omega arith
fields_not_one (rule ∷ rules) map s e =
    by (eqb (field_number rule map s) 0) e (fields_not_one rules (rest_of rule map) (after rule map s))
  where
    by : (b : Bool) → cond b (fields_number rules (rest_of rule map) (after rule map s)) (field_number rule map s) ≡ 1
        → (fields_number rules (rest_of rule map) (after rule map s) ≡ 1 → ⊥) → ⊥
    by true q later = later q
    by false q later = field_not_one (stands rule map) (allows rule (word s)) (holds (absent_of rule) (word s)) q

-- 1 exactly when the bytes that bear on the answer are not all there
module _ (edition years : ℕ) (s : List ℕ) where
  other : {n : ℕ} → (n ≡ 1 → ⊥) → 3 ≤ length s → bears edition years s ≡ 3 → (n ≡ 1) ↔ (length s < bears edition years s)
  other ne l b = (λ q. absurd (ne q), λ q. absurd (omega arith))

  one_by : {n : ℕ} → Tried edition years s n → (n ≡ 1) ↔ (length s < bears edition years s)
  unfolding bears
  one_by (edition_unknown x) = (λ q. absurd (omega arith), rw x (λ q. absurd (omega arith)))
  one_by (years_unknown x y) = (λ q. absurd (omega arith), rw (x, y) (λ q. absurd (omega arith)))
  one_by (head_short x y h) = (λ q. rw (x, y, lt-ltb _ _ h) h, λ q. refl)
  one_by (kind_unknown x y l k) = other (omega arith) l (rw (x, y, le-ltb _ _ l, lt-ltb _ _ k))
  one_by (map_lacks h l) = other (omega arith) h.long (rw (h.edition_in, h.years_in, le-ltb _ _ h.long, le-ltb _ _ h.known, l))
  one_by (map_misses h l m) = other (omega arith) h.long (rw (h.edition_in, h.years_in, le-ltb _ _ h.long, le-ltb _ _ h.known, l, m))
  one_by (fields_short p f) = (λ q. rw (fields_bear p) f, λ q. refl)
  one_by (later_refused p f r) = (λ q. absurd (omega arith), λ q. absurd (omega (arith, fields_bear p)))
  one_by (fields_tell p f r) = (λ q. absurd (fields_not_one _ _ _ q), λ q. absurd (omega (arith, fields_bear p)))

  pub one_exactly : (refusal_of edition years s ≡ 1) ↔ (length s < bears edition years s)
  one_exactly = one_by (tried edition years s)
