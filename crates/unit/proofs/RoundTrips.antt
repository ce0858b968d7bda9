-- Laws of RoundTrips in specs/.
use Rattle.std.specs.Prelude.{Result, Ok}
use Rattle.site.specs.declared.refusal.Refusal.{Refusal}
use Rattle.std.specs.Prelude.{◌≡◌, refl, List, ◌∷◌, ◌++◌, ℕ, ◌≤◌, length, get_or, take, drop}
use Rattle.std.proofs.Common.{ap, sym, ◌∙◌, le-leb}
use Rattle.std.proofs.Math.Seq.{append_snoc}
use Rattle.site.specs.declared.values.Site.{Site}
use Rattle.site.specs.Digits.{Bytes}
use Rattle.site.specs.Answers.{write_number, write_length}
use Rattle.site.specs.Record.{read_site}
use Rattle.site.specs.Writing.{record_of, write_refusal, write_answer}
use Rattle.site.specs.Accepted.{accept, accepted, number_read}
use Rattle.site.proofs.ReadWrite.{read_valid}
use Rattle.site.specs.Promises.{number_written}
use Rattle.site.proofs.Theorems.{zero_exactly, written_reads_back, read_writes_back}
use Rattle.unit.specs.Lent.{zero_lent}
use Rattle.unit.specs.SiteNumbers.{read_values, site_from, site_numbers, answer_numbers, ReadsNumbers, WritesNumbers}
use Rattle.unit.proofs.Coding.{site_read}
use Rattle.unit.proofs.Coding.{values_again}
use Rattle.unit.specs.RoundTrips.{WrittenBack}
use Rattle.unit.specs.RoundTrips.{ReadBack}

-- a writer that does not refuse answers the record's length
wrote : (edition years : ℕ) (site : Site) (room : ℕ) → write_refusal edition years site room ≡ 0
    → write_answer edition years site room ≡ Ok (length (record_of edition site))
unfolding write_answer
wrote edition years site room e = rw e refl

pub written_read : (edition years : ℕ) (numbers buffer bytes : List ℕ) (length_before n : ℕ)
    → WritesNumbers edition years numbers buffer bytes length_before n 0
    → (before afterwards : List ℕ) (number : ℕ) → answer_numbers ≤ length before → ReadsNumbers edition years bytes before afterwards number
    → ReadBack numbers n before afterwards number
written_read edition years numbers buffer bytes length_before n w before afterwards number room r =
    let site = site_from numbers in
    let zero : write_refusal edition years site (length buffer) ≡ 0 = sym (number_written edition years site (length buffer)) ∙ sym w.number_is in
    let valid = (zero_exactly edition years site (length buffer)).0 zero in
    let n_is : n ≡ length (record_of edition site) = w.length_is ∙ rw (wrote edition years site (length buffer) zero) refl in
    let answer : write_answer edition years site (length buffer) ≡ Ok n = wrote edition years site (length buffer) zero ∙ ap Ok (sym n_is) in
    let read : read_site edition years bytes ≡ Ok (site, n) = rw w.buffer_is (written_reads_back edition years site buffer n answer) in
    let fits = le-leb answer_numbers (length before) room in
    record {
      number_is = r.number_is ∙ rw (read, fits) refl;
      values_are =
          r.run_is
          ∙ rw (read, fits) (ap (λ (values : List ℕ). values ++ drop answer_numbers before) (values_again edition years numbers valid.0.is_sound n))
          ∙ append_snoc (take site_numbers numbers) n (drop answer_numbers before);
    }

-- the site of the numbers that a read leaves is the site that was read, and the number after them is its record's length
pub handed_on : (edition years : ℕ) (part before values : List ℕ) → ReadsNumbers edition years part before values 0
    → read_site edition years part ≡ Ok ((site_from values), (get_or values site_numbers 0))
handed_on edition years part before values r =
    by (accept edition years part (accepted edition years part (sym (number_read edition years part) ∙ (zero_lent r).0)))
  where
    by : {site : Site} {n : ℕ} → read_site edition years part ≡ Ok (site, n)
        → read_site edition years part ≡ Ok ((site_from values), (get_or values site_numbers 0))
    by {site} {n} read =
        let left : values ≡ read_values (Ok (site, n)) ++ drop answer_numbers before = rw read at (zero_lent r).2 in
        let again = site_read edition years site (n ∷ drop answer_numbers before) (read_valid edition years part site n read) in
        read ∙ rw left (ap (λ (same : Site). Ok (same, n)) (sym again))

pub read_written : (edition years : ℕ) (part run values : List ℕ) → Bytes part → ReadsNumbers edition years part run values 0
    → (before afterwards : List ℕ) (length_before length_after number : ℕ) → get_or values site_numbers 0 ≤ length before
    → WritesNumbers edition years values before afterwards length_before length_after number
    → WrittenBack part (get_or values site_numbers 0) before afterwards length_after number
read_written edition years part run values bytes r before afterwards length_before length_after number room w =
    let back =
    read_writes_back edition years part (site_from values) (get_or values site_numbers 0) before bytes (handed_on edition years part run values r) room in
    record {
      number_is = w.number_is ∙ ap write_number back.0;
      buffer_is = w.buffer_is ∙ back.1;
      length_is = w.length_is ∙ ap (λ (answer : Result ℕ Refusal). write_length answer length_before) back.0;
    }
