use Rattle.laws.specs.Table.{passes_all}
use Rattle.power.proofs.Entries.{passes, right_entry, right_bound, stored_by_test}
use Rattle.power.proofs.stored.stored_powers.Goals as goal

-- the one test, which is computed over the table
pub invariant_of-result : goal.invariant_of-result
unfolding passes passes_all right_entry right_bound
invariant_of-result c = record { stored = stored_by_test _ tt }
