-- A valid site whose record fits the buffer is written: the record's length is answered, and the record stands at the start.
use Rattle.std.specs.Prelude.{Ok}
use Rattle.std.specs.Prelude.{◌≡◌, List, ℕ, ◌≤◌, length}
use Rattle.std.proofs.Common.{sym}
use Rattle.std.proofs.lemmas.List.Edits.{sets}
use borrow.Author.Tests.{le-leb}
use Rattle.laws.specs.Stores.{sets_laid}
use Rattle.site.specs.declared.values.Site.{Site}
use Rattle.site.specs.Writing.{record_of, Valid, write_answer, write_into}
use Rattle.site.proofs.Theorems.{zero_exactly}

module _ {edition years : ℕ} {site : Site} (before : List ℕ) (v : Valid edition years site) (fits : length (record_of edition site) ≤ length before) where
  pub length_answered : write_answer edition years site (length before) ≡ Ok (length (record_of edition site))
  unfolding write_answer
  length_answered = rw ((zero_exactly edition years site (length before)).1 (v, fits))

  pub record_written : write_into edition years site before ≡ sets before 0 (record_of edition site)
  unfolding write_into
  record_written = rw (v.is_sound, le-leb (length (record_of edition site)) (length before) fits) (sym (sets_laid (record_of edition site) before fits))
