-- With the digits that are left stored at the place, the buffer is as it is to be.
use Rattle.std.proofs.Common.{◌≡◌, ◌+◌, length}
use Rattle.std.proofs.lemmas.List.Edits.{sets}
use Rattle.report_text.specs.Text.{decimal_text}
use Rattle.report_text.proofs.put_digits.Given as goal

abbrev pub invariant-loop-i : goal.invariant-loop-i
invariant-loop-i l =
    (l.i ≡ l.at + length (decimal_text l.rest)) × (sets l.out l.at (decimal_text l.rest) ≡ sets l.initial.out l.at (decimal_text l.n))
