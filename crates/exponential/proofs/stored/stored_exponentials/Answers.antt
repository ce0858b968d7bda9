-- The table is the definition's, entry by entry: one computed test.
use Rattle.laws.specs.Table.{passes_all}
use Rattle.estimate.specs.Fraction.{whole, fraction}
use Rattle.estimate.specs.Exponential.{term_num, term_den, sum_num, partial_sum, exp_under}
use Rattle.exponential.specs.Stored.{stored_exp}
use Rattle.exponential.specs.StoredLaws.{is_stored, stored_by_test}
use Rattle.exponential.proofs.stored.stored_exponentials.Goals as goal

pub invariant_of-result : goal.invariant_of-result
unfolding passes_all is_stored stored_exp exp_under partial_sum sum_num term_num term_den whole fraction
invariant_of-result c = record { stored = stored_by_test _ tt }
