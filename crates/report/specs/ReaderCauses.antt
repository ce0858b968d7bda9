-- The project reader's answer by document 01's causes: a report exactly where none is found in the bytes or the room, and
-- otherwise the first cause, with its number and its place; and the report that each way of answering leaves.
use Rattle.site.specs.declared.refusal.Refusal.{Refusal}
use Rattle.site.specs.declared.refusal.Refusal.TheVariants as refused
use Rattle.site.specs.Refusals.{number_of, refusal, refusal_lem, refusal_again}
use Rattle.std.specs.Prelude.{Ok, Err}
use Rattle.project.specs.declared.Refused.{Refused}
use Rattle.std.specs.Prelude.{ℕ, ◌≤◌, ◌<◌, ◌≡◌, List, ◌↔◌, Bool, true, false, cond, length, leb}
use Rattle.std.proofs.Math.Path.{refl, sym}
use Rattle.std.proofs.Common.{ap, ◌∙◌, ⊎_elim, arith}
use borrow.Author.Tests.{le-leb, lt-leb, leb-true}
use Rattle.laws.specs.Lent.{laid_over}
use Rattle.site.proofs.RecordCauses.{cause_not_zero}
use Rattle.header.specs.Header.{count_in}
use Rattle.header.proofs.HeaderLaws.{header_not_zero}
use Rattle.project.specs.Causes.{report_length, NoCause, FirstCause, in_bytes, in_report, in_header, in_record, in_rest}
use Rattle.project.proofs.ScanLaws.{accepted_exactly, bytes_most, first_refused as first_refused_lem}
use Rattle.project.proofs.Acceptance.{no_cause_exactly, FirstFound, first_or_none}
use Rattle.project.specs.File.{refused_at, scan_file}
use Rattle.report.specs.Report.{answer_number, answer_value, project_answer, report_numbers, lines_in, spaced, report_after}
use Rattle.report.specs.Demand.{Demand, ReportsProject}

-- no cause has the number of a success
pub first_not_zero : {s : List ℕ} {room number p : ℕ} → FirstCause s room number p → number ≡ 0 → ⊥
first_not_zero {s} (in_bytes (in_header h)) e = header_not_zero s h e
first_not_zero (in_bytes (in_record header r)) e = cause_not_zero r.cause e
first_not_zero (in_bytes (in_rest header r)) e = omega arith
first_not_zero (in_report w h) e = omega arith

-- nor one above 10
first_most : {s : List ℕ} {room number p : ℕ} → FirstCause s room number p → number ≤ 10
first_most (in_bytes f) = bytes_most f
first_most (in_report w h) = omega arith

module _ (s : List ℕ) (room : ℕ) where
  none_reported : NoCause s room → project_answer s room ≡ Ok (report_length (count_in s))
  unfolding project_answer
  none_reported none = let h = (no_cause_exactly s room (count_in s)).1 (none, refl) in rw (h.0, le-leb _ _ h.1) refl

  first_refused : {number p : ℕ} → FirstCause s room number p → project_answer s room ≡ refused_at (refusal number) p
  unfolding project_answer
  first_refused (in_bytes f) = rw (first_refused_lem s f) refl
  first_refused (in_report w h) = rw ((accepted_exactly s (count_in s)).1 w, lt-leb _ _ h.short) refl

  not_both : (r : Refused) (count : ℕ) → project_answer s room ≡ Err r → project_answer s room ≡ Ok count → ⊥
  not_both r count e f = let z : ◌≡◌ {A = ℕ} 0 1 = cc in omega arith

  -- A REPORT exactly where no cause is found, and then the count is 4(sites + 1)
  pub reported_exactly : (count : ℕ) → (project_answer s room ≡ Ok count) ↔ (NoCause s room × (count ≡ report_length (count_in s)))
  reported_exactly count = (
    λ e. ⊎_elim
        (λ (found : FirstFound s room). absurd (not_both _ count (first_refused found.found) e))
        (λ (none : NoCause s room). (none, ap answer_value (sym e ∙ none_reported none)))
        (first_or_none s room),
    λ h. none_reported h.0 ∙ ap Ok (sym h.1),
  )

  -- A REFUSAL exactly for the first cause, with its number and place
  pub refused_by_first_cause : (r : Refused) → (project_answer s room ≡ Err r) ↔ FirstCause s room (number_of r.refusal) r.place
  refused_by_first_cause r = (
    λ e. ⊎_elim
        (λ (found : FirstFound s room).
        let same = sym (first_refused found.found) ∙ e in
        let number_is : found.number ≡ number_of r.refusal =
        sym (refusal_lem found.number (first_most found.found) (first_not_zero found.found)) ∙ ap answer_number same in
        let place_is : found.place ≡ r.place = ap answer_value same in
        rw (← number_is, ← place_is) found.found)
        (λ (none : NoCause s room). absurd (not_both r _ e (none_reported none)))
        (first_or_none s room),
    λ f. first_refused f ∙ ap (λ (x : Refusal). refused_at x r.place) (refusal_again r.refusal),
  )

  -- whatever the first cause's number is: it is the number of a refusal, and that refusal is the answer, with its place
  pub first_cause_answered : {number p : ℕ} → FirstCause s room number p
      → (number_of (refusal number) ≡ number) × (project_answer s room ≡ refused_at (refusal number) p)
  first_cause_answered f = (refusal_lem _ (first_most f) (first_not_zero f), first_refused f)

-- the space test, by the count of a report's numbers
pub room_short : (n room count : ℕ) → room < count → count ≡ report_length n → refused_at refused.NoSpace 0 ≡ spaced (Ok n) room
room_short n room count h e = rw (lt-leb (report_length n) room (omega arith)) refl

pub room_enough : (n room count : ℕ) → count ≤ room → count ≡ report_length n → Ok count ≡ spaced (Ok n) room
room_enough n room count h e = rw (le-leb (report_length n) room (omega arith)) (ap Ok e)

-- what the space test says of an accepted file
reported_by_space : (n room count : ℕ) → Ok count ≡ spaced (Ok n) room → (count ≡ report_length n) × (report_length n ≤ room)
reported_by_space n room count e = by (leb (report_length n) room) refl e
  where
    by : (b : Bool) → leb (report_length n) room ≡ b → Ok count ≡ cond b (Ok (report_length n)) (refused_at refused.NoSpace 0)
        → (count ≡ report_length n) × (report_length n ≤ room)
    by true t q = (ap answer_value q, leb-true (report_length n) room t)
    by false t q = let z : ◌≡◌ {A = ℕ} 0 1 = cc in absurd (omega arith)

-- an accepted file is answered by the space test
module _ (s : List ℕ) (room n : ℕ) (accepted : scan_file s ≡ Ok n) where
  answer_by_space : project_answer s room ≡ spaced (Ok n) room
  unfolding project_answer
  answer_by_space = rw accepted refl

  pub space_suffices : (count : ℕ) → Ok count ≡ spaced (Ok n) room → report_length n ≤ room
  space_suffices count e = (reported_by_space n room count e).1

-- the report that each answer leaves
module _ (s before : List ℕ) where
  left_as_it_was : (r : Refused) → project_answer s (length before) ≡ Err r → ReportsProject s before before (Err r)
  unfolding report_after
  left_as_it_was r e = record { answer_is = sym e; report_is = rw e refl; meets = ((refused_by_first_cause s (length before) r).0 e, refl) }

  pub refused_by_bytes : (r : Refused) → scan_file s ≡ Err r → ReportsProject s before before (Err r)
  unfolding project_answer
  refused_by_bytes r e = left_as_it_was r (rw e refl)

  module _ (n : ℕ) (accepted : scan_file s ≡ Ok n) where
    pub refused_by_room : (r : Refused) → Err r ≡ spaced (Ok n) (length before) → ReportsProject s before before (Err r)
    refused_by_room r e = left_as_it_was r (answer_by_space s (length before) n accepted ∙ sym e)

    pub reported : (count : ℕ) (after : List ℕ) → Ok count ≡ spaced (Ok n) (length before)
        → after ≡ laid_over (report_numbers (lines_in s)) before → Demand s after → ReportsProject s before after (Ok count)
    unfolding report_after
    reported count after e a met =
        let w = answer_by_space s (length before) n accepted ∙ sym e in
        let c = (reported_exactly s (length before) count).0 w in
        record { answer_is = sym w; report_is = rw w a; meets = (c.0, refl, c.1, met) }
