-- Laws of Promises in specs/.
use Rattle.std.specs.Prelude.{Result, Ok, Err}
use Rattle.site.specs.declared.refusal.Refusal.{Refusal}
use Rattle.site.specs.declared.values.Site.{Site}
use Rattle.site.specs.Refusals.{refusal}
use Rattle.std.specs.Prelude.{◌≡◌, refl, List, ℕ}
use Rattle.std.proofs.Common.{ap, sym, ◌∙◌}
use Rattle.site.specs.Answers.{read_number, read_value, beside}
use Rattle.site.specs.Record.{length_in, site_in, refusal_of, read_site}
use Rattle.site.specs.Accepted.{number_read}
use Rattle.site.proofs.ReadWrite.{read_valid}
use Rattle.site.proofs.FieldsRead.{fields_read}
use Rattle.site.proofs.RecordCauses.{refused_by_cause}
use Rattle.site.proofs.Theorems.{read_length}
use Rattle.site.specs.Promises.{ReadsSite, value_of_answer}

value_read : (edition years : ℕ) (part : List ℕ) → read_value (read_site edition years part) ≡ beside (refusal_of edition years part) (length_in edition years part)
unfolding read_site
value_read edition years part =
    value_of_answer read_value (refusal_of edition years part) (length_in edition years part) (Ok (site_in edition years part, length_in edition years part))
    (Err (refusal (refusal_of edition years part))) refl refl

pub reads_site : (edition years : ℕ) (part : List ℕ) (answer : Result (Site × ℕ) Refusal) → answer ≡ read_site edition years part → ReadsSite edition years part answer
reads_site edition years part answer e =
    record {
      answer_is = e;
      number_is = ap read_number e ∙ number_read edition years part;
      value_is = ap read_value e ∙ value_read edition years part;
      valid = λ site n q. read_valid edition years part site n (sym e ∙ q);
      bounds = λ site n q. read_length edition years part site n (sym e ∙ q);
      fields = λ site n q. fields_read edition years part site n (sym e ∙ q);
      cause = λ number q. (refused_by_cause edition years part number).0 (sym e ∙ q);
    }
