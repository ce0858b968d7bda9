use Rattle.laws.specs.Table.{passes_all}
use Rattle.estimate.specs.Fraction.{leᶠ, fraction, whole, decimal}
use Rattle.estimate.specs.Exponential.{term_num, term_den, sum_num, partial_sum, sum_with_tail, exp_under, exp_over}
use Rattle.logarithm.proofs.Entries.{passes, right_entry, stored_by_test}
use Rattle.logarithm.proofs.stored.stored_logarithms.Goals as goal

-- the one test, which is computed over the table
pub invariant_of-result : goal.invariant_of-result
unfolding passes passes_all right_entry leᶠ fraction whole decimal exp_over exp_under sum_with_tail partial_sum sum_num term_num term_den
invariant_of-result c = record { stored = stored_by_test _ tt }
