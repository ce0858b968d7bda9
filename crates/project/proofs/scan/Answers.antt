-- The header's refusal, or the scan of as many records as the header says, in a project of its edition and years.
use Rattle.std.proofs.Common.{◌≡◌, ap, sym, ◌∙◌, ◌≤◌, length, ℕ, List, Result, Ok, Err}
use Rattle.std.specs.Result.{IsErrAnd}
use Rattle.site.specs.declared.refusal.Refusal.{Refusal}
use Rattle.site.specs.Refusals.{refusal, number_of, checked, number_in, answer_by_number, answer_by_err, refusal_again, refusal_not_zero}
use Rattle.header.specs.declared.Header.{Header}
use Rattle.header.specs.Header.{header_length, header_number}
use Rattle.header.proofs.HeaderLaws.{header_accepted}
use Rattle.project.specs.declared.Refused.{Refused}
use Rattle.project.specs.File.{refused_at, scan_file}
use Rattle.project.specs.Scan.{scan_header, scan_past_header}
use Rattle.project.proofs.ScanLaws.{header_most}
use Rattle.project.proofs.Promise.{scans_file}
use Rattle.project.proofs.scan.Goals as goal

module _ (file : List ℕ) where
  -- a header that passes has no refusal
  passed : (answer : Result Unit Refusal) → answer ≡ checked (header_number file) → answer ≡ Ok tt → header_number file ≡ 0
  passed answer is ok = sym (answer_by_number (header_number file) tt (header_most file)) ∙ ap number_in (sym is ∙ ok)

  long : (answer : Result Unit Refusal) → answer ≡ checked (header_number file) → answer ≡ Ok tt → header_length ≤ length file
  long answer is ok = (header_accepted file (passed answer is ok)).long

  -- one that does not is refused at place 0
  told : (cause : Refusal) (answer : Result Unit Refusal) → answer ≡ checked (header_number file) → answer ≡ Err cause
      → (scanned : Result ℕ Refused) → IsErrAnd scanned (λ r. r ≡ record { refusal = cause; place = 0 }) → scanned ≡ scan_file file
  told cause answer is err (Ok n) h = absurd h
  told cause answer is err (Err r) h =
      let number = answer_by_err (header_number file) tt cause (header_most file) (sym is ∙ err) in
      let header = scan_header file (λ z. refusal_not_zero cause (sym number ∙ z)) in
      ap Err h ∙ sym (header ∙ ap (λ (n : ℕ). refused_at (refusal n) 0) number ∙ ap (λ (x : Refusal). refused_at x 0) (refusal_again cause))

pub returns-in_err-check_header : goal.returns-in_err-check_header
returns-in_err-check_header c =
    scans_file _ _ (told c.args.file.now _ _ c.check_header.ensures c.in_err-check_header.was _ c.from_residual.ensures.1)

pub header_in-header-requires : goal.header_in-header-requires
header_in-header-requires c = long _ _ c.check_header.ensures c.in_ok-check_header.was

pub count_in-requires : goal.count_in-requires
count_in-requires c = long _ _ c.check_header.ensures c.in_ok-check_header.was

pub scan_records-requires : goal.scan_records-requires
scan_records-requires c = long _ _ c.check_header.ensures c.in_ok-check_header.was

pub returns : goal.returns
returns c =
    let past = scan_past_header c.args.file.now (passed _ _ c.check_header.ensures c.in_ok-check_header.was) in
    scans_file _ _ (rw past (simp (
      ← ap (λ (h : Header). h.edition) c.header_in-header.ensures,
      ← ap (λ (h : Header). h.years) c.header_in-header.ensures,
      ← c.count_in.ensures,
      c.scan_records.ensures,
    )))
