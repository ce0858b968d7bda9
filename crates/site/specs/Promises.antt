-- What the public calls promise, in one record each, with equations for the answer and for every lent number afterwards.
use Rattle.std.specs.Prelude.{Result, Ok, Err}
use Rattle.site.specs.declared.refusal.Refusal.{Refusal}
use Rattle.site.specs.Refusals.{refusal, number_of, number_in, answer_by_number}
use Rattle.std.specs.Prelude.{Option, None, Some}
use Rattle.std.specs.Prelude.{◌≡◌, ◌≤◌, refl, Bool, true, false, cond, ◌&&◌, List, ℕ, length, leb, eqb}
use Rattle.std.proofs.Common.{ap, ◌∙◌, le_refl, le-leb, arith}
use Rattle.site.specs.declared.values.Site.{Site}
use Rattle.site.specs.Rules.{edition_known, years_known}
use Rattle.site.specs.Answers.{read_number, read_value, write_number, write_value, measure_number, measure_value, beside}
use Rattle.site.specs.Record.{length_in, refusal_of, read_site}
use Rattle.site.specs.Fields.{FieldsRead}
use Rattle.site.specs.Writing.{record_of, sound_site, sound, Valid, measure_of, write_refusal, measure_refusal, write_answer, write_into}
use Rattle.site.specs.RecordCauses.{RecordCause}
use Rattle.site.specs.Theorems.{RecordLength}

-- the value of an answer by a number: a refusal's is 0
pub value_of_answer : {A : Type 0} (value_of : A → ℕ) (number n : ℕ) (success refusal : A) → value_of success ≡ n → value_of refusal ≡ 0
    → value_of (cond (eqb number 0) success refusal) ≡ beside number n
value_of_answer value_of number n success refusal s r = by (eqb number 0)
  where
    by : (b : Bool) → value_of (cond b success refusal) ≡ cond b n 0
    by true = s
    by false = r

-- the site reader: its answer, document 01's number and value for it, what is so of a site that it reads, and why it refuses
pub record ReadsSite (edition years : ℕ) (part : List ℕ) (answer : Result (Site × ℕ) Refusal) : Type 0 where
  pub answer_is : answer ≡ read_site edition years part
  pub number_is : read_number answer ≡ refusal_of edition years part
  pub value_is : read_value answer ≡ beside (refusal_of edition years part) (length_in edition years part)
  pub valid : (site : Site) (n : ℕ) → answer ≡ Ok (site, n) → Valid edition years site
  pub bounds : (site : Site) (n : ℕ) → answer ≡ Ok (site, n) → RecordLength part n
  pub fields : (site : Site) (n : ℕ) → answer ≡ Ok (site, n) → FieldsRead edition years part site n
  pub cause : (refused : Refusal) → answer ≡ Err refused → RecordCause edition years part (number_of refused)

-- a site measured: its answer, and document 01's number and value for it
pub record MeasuresSite (edition years : ℕ) (site : Site) (answer : Option ℕ) : Type 0 where
  pub answer_is : answer ≡ measure_of edition years site
  pub number_is : measure_number edition years answer ≡ measure_refusal edition years site
  pub value_is : measure_value answer ≡ beside (measure_refusal edition years site) (length (record_of edition site))

pub measures_site : (edition years : ℕ) (site : Site) (answer : Option ℕ) → answer ≡ measure_of edition years site → MeasuresSite edition years site answer
unfolding measure_of sound write_refusal
measures_site edition years site answer e =
    let told = by (edition_known edition) (years_known years) (sound_site edition years site) refl refl in
    record { answer_is = e; number_is = rw e told.0; value_is = rw e told.1 }
  where
    n : ℕ
    n = length (record_of edition site)

    by : (x y a : Bool) → edition_known edition ≡ x → years_known years ≡ y
        → (measure_number edition years (cond (x && (y && a)) (Some n) None) ≡ cond x (cond y (cond a (cond (leb n n) 0 10) 8) 4) 3)
        × (measure_value (cond (x && (y && a)) (Some n) None) ≡ beside (cond x (cond y (cond a (cond (leb n n) 0 10) 8) 4) 3) n)
    by true true true p q = rw (le-leb n n (le_refl n)) (refl, refl)
    by true true false p q = (rw (p, q), refl)
    by true false a p q = (rw (p, q), refl)
    by false y a p q = (rw p, refl)

-- the site writer: its answer, document 01's number and value for it, and the buffer afterwards, byte for byte
pub record WritesSite (edition years : ℕ) (site : Site) (before afterwards : List ℕ) (answer : Result ℕ Refusal) : Type 0 where
  pub answer_is : answer ≡ write_answer edition years site (length before)
  pub number_is : write_number answer ≡ write_refusal edition years site (length before)
  pub value_is : write_value answer ≡ beside (write_refusal edition years site (length before)) (length (record_of edition site))
  pub buffer_is : afterwards ≡ write_into edition years site before

-- no refusal of the writer has a number above 10
write_most : (edition years : ℕ) (site : Site) (room : ℕ) → write_refusal edition years site room ≤ 10
unfolding write_refusal
write_most edition years site room = by (edition_known edition) (years_known years) (sound_site edition years site) (leb (length (record_of edition site)) room)
  where
    by : (x y a b : Bool) → cond x (cond y (cond a (cond b 0 10) 8) 4) 3 ≤ 10
    by true true true true = omega arith
    by true true true false = omega arith
    by true true false b = omega arith
    by true false a b = omega arith
    by false y a b = omega arith

pub number_written : (edition years : ℕ) (site : Site) (room : ℕ) → write_number (write_answer edition years site room) ≡ write_refusal edition years site room
unfolding write_answer
number_written edition years site room =
    number_in_wrote _ ∙ answer_by_number (write_refusal edition years site room) (length (record_of edition site)) (write_most edition years site room)
  where
    number_in_wrote : (answer : Result ℕ Refusal) → write_number answer ≡ number_in answer
    number_in_wrote (Ok n) = refl
    number_in_wrote (Err refused) = refl

value_written : (edition years : ℕ) (site : Site) (room : ℕ)
    → write_value (write_answer edition years site room) ≡ beside (write_refusal edition years site room) (length (record_of edition site))
unfolding write_answer
value_written edition years site room =
    value_of_answer write_value (write_refusal edition years site room) (length (record_of edition site)) (Ok (length (record_of edition site)))
    (Err (refusal (write_refusal edition years site room))) refl refl

pub writes_site : (edition years : ℕ) (site : Site) (before afterwards : List ℕ) (answer : Result ℕ Refusal)
    → answer ≡ write_answer edition years site (length before) → afterwards ≡ write_into edition years site before
    → WritesSite edition years site before afterwards answer
writes_site edition years site before afterwards answer e b =
    record {
      answer_is = e;
      number_is = ap write_number e ∙ number_written edition years site (length before);
      value_is = ap write_value e ∙ value_written edition years site (length before);
      buffer_is = b;
    }
