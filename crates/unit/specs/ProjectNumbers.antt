-- A project's report left in a lent run of numbers, the number that the call answers, and the count or place beside it.
use Rattle.std.specs.Prelude.{Result, Ok, Err}
use Rattle.project.specs.declared.Refused.{Refused}
use Rattle.std.specs.Prelude.{ℕ, ◌≡◌, refl, List, length}
use Rattle.std.proofs.Common.{sym, ap, ◌∙◌}
use Rattle.header.specs.Header.{count_in}
use Rattle.project.specs.Causes.{report_length, NoCause, FirstCause}
use Rattle.report.specs.Report.{project_answer, answer_number, answer_value, report_after}
use Rattle.report.specs.Demand.{Demand, AnswerMeets, ReportsProject}
use Rattle.report.specs.ReaderCauses.{first_not_zero}

-- 0: no cause is found in the file or its report, "4(sites + 1)", and the report meets the demand
pub record ReportMade (file before afterwards : List ℕ) (value : ℕ) : Type 0 where
  pub no_cause : NoCause file (length before)
  pub count_is : value ≡ report_length (count_in file)
  pub demand : Demand file afterwards

-- any other number: the first cause in document 01's order, its place, and the report as it was
pub record ProjectRefused (file before afterwards : List ℕ) (value number : ℕ) : Type 0 where
  pub first_cause : FirstCause file (length before) number value
  pub left : afterwards ≡ before

-- "Success returns 0 and 4(sites + 1)"; a refusal its number and place, and the report stays as it was
pub record ReadsProject (file before afterwards : List ℕ) (value number : ℕ) : Type 0 where
  pub number_is : number ≡ answer_number (project_answer file (length before))
  pub value_is : value ≡ answer_value (project_answer file (length before))
  pub report_is : afterwards ≡ report_after file before
  pub reported : number ≡ 0 → ReportMade file before afterwards value
  pub refused : (number ≡ 0 → ⊥) → ProjectRefused file before afterwards value number

module _ (file before afterwards : List ℕ) where
  made : (same : Result ℕ Refused) → AnswerMeets file before afterwards same → answer_number same ≡ 0 → ReportMade file before afterwards (answer_value same)
  made (Ok count) m e = record { no_cause = m.0; count_is = m.2; demand = m.3 }
  made (Err refused) m e = absurd (first_not_zero m.0 e)

  not_made : (same : Result ℕ Refused) → AnswerMeets file before afterwards same → (answer_number same ≡ 0 → ⊥)
      → ProjectRefused file before afterwards (answer_value same) (answer_number same)
  not_made (Ok count) m ne = absurd (ne refl)
  not_made (Err refused) m ne = record { first_cause = m.0; left = m.1 }

  pub told : (answer : Result ℕ Refused)
      → ReportsProject file before afterwards answer
      → (same : Result ℕ Refused) → answer ≡ same → ReadsProject file before afterwards (answer_value same) (answer_number same)
  told answer h same e =
      let q : same ≡ project_answer file (length before) = sym e ∙ h.answer_is in
      let m : AnswerMeets file before afterwards same = rw e at h.meets in
      record {
        number_is = ap answer_number q;
        value_is = ap answer_value q;
        report_is = h.report_is;
        reported = made same m;
        refused = not_made same m;
      }
