-- Laws of Scan in specs/.
use Rattle.std.specs.Prelude.{Result, Ok, Err}
use Rattle.site.specs.declared.refusal.Refusal.{Refusal}
use Rattle.site.specs.declared.refusal.Refusal.TheVariants as refused
use Rattle.site.specs.Refusals.{ok_parts, number_of, refusal, refusal_lem, refusal_again}
use Rattle.project.specs.declared.Refused.{Refused}
use Rattle.std.specs.Prelude.{◌≡◌, Bool, true, false, cond, List, ◌↔◌, length, drop, ltb, eqb}
use Rattle.std.proofs.Math.Path.{refl}
use Rattle.std.proofs.Common.{ap, sym, subst, ◌∙◌, length-drop, ltb-true, ltb-false, lt-ltb, le-ltb, eqb-true}
use Prim.Native.Nat.{ℕ, zero, suc, ◌+◌, ◌-◌, ◌<◌, ◌≤◌}
use native.Mathlib.Omega.{arith}
use Rattle.std.proofs.lemmas.Bool.{eqb-false}
use Rattle.site.specs.declared.values.Site.{Site}
use Rattle.site.specs.Record.{refusal_of, read_site}
use Rattle.site.specs.RecordCauses.{RecordCause}
use Rattle.site.specs.Accepted.{refusal_most}
use Rattle.site.proofs.RecordCauses.{refused_by_cause, cause_number, cause_not_zero}
use Rattle.site.proofs.Theorems.{read_length}
use Rattle.site.specs.Rules.{edition_known}
use Rattle.header.specs.Header.{edition_in, header_length, header_in, count_in, admits, header_number}
use Rattle.header.specs.Causes.{HeaderAccepted}
use Rattle.header.proofs.HeaderLaws.{header_cause, cause_header, header_not_zero, header_accepted, accepted_header}
use Rattle.project.specs.File.{years_in, refused_at, after_record, scan_records, scan_file}
use Rattle.project.proofs.File.{place_of_record}
use Rattle.project.specs.Causes.{Starts, first, next, RecordNumber, BytesAfter, FirstInBytes, in_header, in_record, in_rest, Whole}
use Rattle.project.specs.Scan.{read_zero, scan_header, scan_past_header}

module _ (s : List ℕ) where
  -- the place of a record is told by its index
  pub same_place : {i p q : ℕ} → Starts s i p → Starts s i q → p ≡ q
  same_place first first = refl
  same_place (next {p = p} a e) (next {p = q} b f) =
      let h : p ≡ q = same_place a b in
      let parts = ok_parts _ _ _ _ (sym e ∙ ap (λ (x : ℕ). read_site (edition_in s) (years_in s) (drop x s)) h ∙ f) in
      omega (arith, h, parts.1)

  pub starts_within : {i p : ℕ} → header_length ≤ length s → Starts s i p → p ≤ length s
  starts_within h first = h
  starts_within h (next {i} {p} {n} {value} st e) =
      omega (arith, (read_length (edition_in s) (years_in s) (drop p s) value n e).within, length-drop p s, starts_within h st)

  -- a record that starts before another is read
  earlier_by : (i j p q n : ℕ) (value : Site) → Starts s j q → read_site (edition_in s) (years_in s) (drop q s) ≡ Ok (value, n) → Starts s i p
      → i < suc j → (i < j → refusal_of (edition_in s) (years_in s) (drop p s) ≡ 0) → (b : Bool) → eqb i j ≡ b
      → refusal_of (edition_in s) (years_in s) (drop p s) ≡ 0
  earlier_by i j p q n value a e st h later true t =
      let st' : Starts s j p = subst (λ (k : ℕ). Starts s k p) (eqb-true i j t) st in
      let w : p ≡ q = same_place st' a in
      rw w (read_zero (edition_in s) (years_in s) (drop q s) value n e)
  earlier_by i j p q n value a e st h later false t = let ne = eqb-false i j t in later (omega arith)

  pub earlier : {i j p q : ℕ} → Starts s j q → Starts s i p → i < j → refusal_of (edition_in s) (years_in s) (drop p s) ≡ 0
  earlier first st h = let z : ⊥ = omega arith in absurd z
  earlier {i} {p} (next {i = j} {p = q} {n} {value} a e) st h =
      earlier_by i j p q n value a e st h (λ w. earlier a st w) (eqb i j) refl

  -- one record of a scan
  step_read : (sites left p n : ℕ) (value : Site) → read_site (edition_in s) (years_in s) (drop p s) ≡ Ok (value, n)
      → scan_records (edition_in s) (years_in s) sites (suc left) p s ≡ scan_records (edition_in s) (years_in s) sites left (p + n) s
  unfolding scan_records
  step_read sites left p n value e = rw e

  step_refused : (sites left p : ℕ) (refusal : Refusal) → read_site (edition_in s) (years_in s) (drop p s) ≡ Err refusal
      → scan_records (edition_in s) (years_in s) sites (suc left) p s ≡ refused_at refusal p
  unfolding scan_records
  step_refused sites left p refusal e = rw e (place_of_record p refusal (λ next. scan_records (edition_in s) (years_in s) sites left next s))

  step_after : (sites p : ℕ) → p < length s → scan_records (edition_in s) (years_in s) sites zero p s ≡ refused_at refused.BytesAfter p
  unfolding scan_records
  step_after sites p h = rw (lt-ltb p (length s) h)

  step_end : (sites p : ℕ) → length s ≤ p → scan_records (edition_in s) (years_in s) sites zero p s ≡ Ok sites
  unfolding scan_records
  step_end sites p h = rw (le-ltb p (length s) h)

  -- a scan reaches each record that starts
  walk : (sites : ℕ) {i p : ℕ} → Starts s i p → (left : ℕ)
      → scan_records (edition_in s) (years_in s) sites (i + left) header_length s ≡ scan_records (edition_in s) (years_in s) sites left p s
  walk sites first left = let e : 0 + left ≡ left = omega arith in ap (λ (k : ℕ). scan_records (edition_in s) (years_in s) sites k header_length s) e
  walk sites (next {i} {p} {n} {value} st e) left =
      let m : suc i + left ≡ i + suc left = omega arith in
      ap (λ (k : ℕ). scan_records (edition_in s) (years_in s) sites k header_length s) m ∙ walk sites st (suc left) ∙ step_read sites left p n value e

  pub reach : (sites i p left : ℕ) → Starts s i p → i + left ≡ sites
      → scan_records (edition_in s) (years_in s) sites sites header_length s ≡ scan_records (edition_in s) (years_in s) sites left p s
  reach sites i p left st e = ap (λ (k : ℕ). scan_records (edition_in s) (years_in s) sites k header_length s) (sym e) ∙ walk sites st left

-- two refusals that are one have one refusal and place
pub same_refused : {q r : Refused} → ◌≡◌ {A = Result ℕ Refused} (Err q) (Err r) → q ≡ r
same_refused e = cc

-- a record's first cause has a number from 1 to 10
cause_most : {edition years : ℕ} {s : List ℕ} {n : ℕ} → RecordCause edition years s n → n ≤ 10
cause_most {edition} {years} {s} {n} c = omega (arith, cause_number edition years s c, refusal_most edition years s)

-- and so has a header's
pub header_most : (s : List ℕ) → header_number s ≤ 10
unfolding header_number
header_most s = by (ltb (length s) header_length) (edition_known (edition_in s)) (admits (header_in s) (count_in s))
  where
    by : (x y a : Bool) → cond x 1 (cond y (cond a 0 4) 3) ≤ 10
    by true y a = omega arith
    by false true true = omega arith
    by false true false = omega arith
    by false false a = omega arith

-- and the first cause that the bytes show
pub bytes_most : {s : List ℕ} {number p : ℕ} → FirstInBytes s number p → number ≤ 10
bytes_most {s} (in_header c) = omega (arith, cause_header s c, header_most s)
bytes_most (in_record header r) = cause_most r.cause
bytes_most (in_rest header r) = omega arith

-- and is told by the refusal that has it
pub bytes_number : {s : List ℕ} {number p : ℕ} → FirstInBytes s number p → number_of (refusal number) ≡ number
bytes_number {s} {number} f = refusal_lem number (bytes_most f) (not_zero f)
  where
    not_zero : {s : List ℕ} {number p : ℕ} → FirstInBytes s number p → number ≡ 0 → ⊥
    not_zero {s} (in_header c) e = header_not_zero s c e
    not_zero (in_record header r) e = cause_not_zero r.cause e
    not_zero (in_rest header r) e = omega arith

-- what a scan of the records tells
data Scanned (s : List ℕ) : Result ℕ Refused → Type 0 where
  to_end : Starts s (count_in s) (length s) → Scanned s (Ok (count_in s))
  at_record : {refusal : Refusal} {p : ℕ} → RecordNumber s (number_of refusal) p → Scanned s (refused_at refusal p)
  at_rest : {p : ℕ} → BytesAfter s p → Scanned s (refused_at refused.BytesAfter p)

module _ (s : List ℕ) (long : header_length ≤ length s) where
  scanned_end : (p : ℕ) → Starts s (count_in s) p → (b : Bool) → ltb p (length s) ≡ b
      → Scanned s (cond b (refused_at refused.BytesAfter p) (Ok (count_in s)))
  scanned_end p st true t = at_rest (record { starts = st; more = ltb-true p (length s) t })
  scanned_end p st false t =
      let e : p ≡ length s = omega (arith, ltb-false p (length s) t, starts_within s long st) in
      to_end (subst (λ (q : ℕ). Starts s (count_in s) q) e st)

  scanned_step : (left i p : ℕ) → Starts s i p → i < count_in s
      → ((n : ℕ) → Starts s (suc i) (p + n) → Scanned s (scan_records (edition_in s) (years_in s) (count_in s) left (p + n) s))
      → (answer : Result (Site × ℕ) Refusal) → read_site (edition_in s) (years_in s) (drop p s) ≡ answer
      → Scanned s (after_record p answer (λ next. scan_records (edition_in s) (years_in s) (count_in s) left next s))
  scanned_step left i p st h later (Err refusal) e =
      rw (place_of_record p refusal (λ next. scan_records (edition_in s) (years_in s) (count_in s) left next s))
      (at_record (record { index = i; counted = h; starts = st; cause = (refused_by_cause (edition_in s) (years_in s) (drop p s) refusal).0 e }))
  scanned_step left i p st h later (Ok (value, n)) e = later n (next st e)

  scanned_from : (left i p : ℕ) → Starts s i p → i + left ≡ count_in s → Scanned s (scan_records (edition_in s) (years_in s) (count_in s) left p s)
  unfolding scan_records
  scanned_from zero i p st e =
      let c : i ≡ count_in s = omega arith in
      scanned_end p (subst (λ (k : ℕ). Starts s k p) c st) (ltb p (length s)) refl
  scanned_from (suc left) i p st e =
      scanned_step left i p st (omega arith) (λ n st'. scanned_from left (suc i) (p + n) st' (omega arith)) (read_site (edition_in s) (years_in s) (drop p s)) refl

  scanned : Scanned s (scan_records (edition_in s) (years_in s) (count_in s) (count_in s) header_length s)
  scanned = scanned_from (count_in s) zero header_length first (omega arith)

-- the scan refuses a file with the first cause that its bytes show
module _ (s : List ℕ) where
  told : HeaderAccepted s → (r : Refused) (answer : Result ℕ Refused) → Scanned s answer → answer ≡ Err r → FirstInBytes s (number_of r.refusal) r.place
  told header r (Ok n) (to_end st) e = let z : ◌≡◌ {A = ℕ} 0 1 = cc in absurd (omega arith)
  told header r (Err q) (at_record c) e =
      let a : q ≡ r = cc in
      subst (λ (x : Refused). FirstInBytes s (number_of x.refusal) x.place) a (in_record header c)
  told header r (Err q) (at_rest c) e =
      let a : q ≡ r = cc in
      subst (λ (x : Refused). FirstInBytes s (number_of x.refusal) x.place) a (in_rest header c)

  refused_by : (r : Refused) → scan_file s ≡ Err r → (b : Bool) → eqb (header_number s) 0 ≡ b → FirstInBytes s (number_of r.refusal) r.place
  refused_by r e true t =
      let z = eqb-true (header_number s) 0 t in
      let header = header_accepted s z in
      told header r _ (scanned s header.long) (sym (scan_past_header s z) ∙ e)
  refused_by r e false t =
      let ne = eqb-false (header_number s) 0 t in
      let q : refused_at (refusal (header_number s)) 0 ≡ Err r = sym (scan_header s ne) ∙ e in
      let a = same_refused q in
      subst (λ (x : Refused). FirstInBytes s (number_of x.refusal) x.place) a
      (subst (λ (n : ℕ). FirstInBytes s n 0) (sym (refusal_lem (header_number s) (header_most s) ne)) (in_header (header_cause s ne)))

  pub first_refused : {number p : ℕ} → FirstInBytes s number p → scan_file s ≡ refused_at (refusal number) p
  first_refused (in_header c) =
      let h = cause_header s c in
      let ne : header_number s ≡ 0 → ⊥ = λ z. header_not_zero s c (sym h ∙ z) in
      scan_header s ne ∙ ap (λ (m : ℕ). refused_at (refusal m) 0) h
  first_refused (in_record {number} {p} header r) =
      let m : r.index + suc (count_in s - suc r.index) ≡ count_in s = let h = r.counted in omega arith in
      let n : number_of (refusal number) ≡ number = refusal_lem number (cause_most r.cause) (cause_not_zero r.cause) in
      scan_past_header s (accepted_header s header) ∙ reach s (count_in s) r.index p (suc (count_in s - suc r.index)) r.starts m
      ∙ step_refused s (count_in s) (count_in s - suc r.index) p (refusal number)
      ((refused_by_cause (edition_in s) (years_in s) (drop p s) (refusal number)).1
      (subst (λ (k : ℕ). RecordCause (edition_in s) (years_in s) (drop p s) k) (sym n) r.cause))
  first_refused (in_rest {p} header r) =
      scan_past_header s (accepted_header s header) ∙ reach s (count_in s) (count_in s) p 0 r.starts (omega arith) ∙ step_after s (count_in s) p r.more

  pub refused_exactly : (r : Refused) → (scan_file s ≡ Err r) ↔ FirstInBytes s (number_of r.refusal) r.place
  refused_exactly r = (
    λ e. refused_by r e (eqb (header_number s) 0) refl,
    λ f. first_refused f ∙ ap (λ (x : Refusal). refused_at x r.place) (refusal_again r.refusal),
  )

  -- and accepts it where the bytes are a header and the records that it counts
  ended : HeaderAccepted s → (n : ℕ) (answer : Result ℕ Refused) → Scanned s answer → answer ≡ Ok n → Whole s n
  ended header n (Ok m) (to_end st) e =
      let a : count_in s ≡ n = cc in
      record { header = header; count_is = sym a; ends = subst (λ (k : ℕ). Starts s k (length s)) a st }
  ended header n (Err q) (at_record r) e = let z : ◌≡◌ {A = ℕ} 0 1 = cc in absurd (omega arith)
  ended header n (Err q) (at_rest r) e = let z : ◌≡◌ {A = ℕ} 0 1 = cc in absurd (omega arith)

  accepted_by : (n : ℕ) → scan_file s ≡ Ok n → (b : Bool) → eqb (header_number s) 0 ≡ b → Whole s n
  accepted_by n e true t =
      let z = eqb-true (header_number s) 0 t in
      let header = header_accepted s z in
      ended header n _ (scanned s header.long) (sym (scan_past_header s z) ∙ e)
  accepted_by n e false t =
      let q : refused_at (refusal (header_number s)) 0 ≡ Ok n = sym (scan_header s (eqb-false (header_number s) 0 t)) ∙ e in
      let z : ◌≡◌ {A = ℕ} 0 1 = cc in
      absurd (omega arith)

  whole_accepted : (n : ℕ) → Whole s n → scan_file s ≡ Ok n
  whole_accepted n w =
      let e = w.count_is in
      let m : n + 0 ≡ count_in s = omega arith in
      let l : length s ≤ length s = omega arith in
      scan_past_header s (accepted_header s w.header) ∙ reach s (count_in s) n (length s) 0 w.ends m
      ∙ step_end s (count_in s) (length s) l ∙ ap Ok (sym e)

  pub accepted_exactly : (n : ℕ) → (scan_file s ≡ Ok n) ↔ Whole s n
  accepted_exactly n = (λ e. accepted_by n e (eqb (header_number s) 0) refl, whole_accepted n)
