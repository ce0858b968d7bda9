use Rattle.std.specs.Prelude.{ℕ, ◌≡◌}
use Rattle.std.proofs.Common.{refl, ap, sym, ◌∙◌}
use Rattle.remainder.specs.Remainder.{log_low, log_high, log_bounds_of, with_cube}
use Rattle.remainder.specs.LogarithmBounds.{log_low_small, log_high_small, log_high_with_cube}
use Rattle.remainder.proofs.log_bounds.Goals.{After-with_cube}
use Rattle.remainder.proofs.log_bounds.Goals as goal

both : {low high : ℕ} (N r : ℕ) → low ≡ log_low N r → high ≡ log_high N r → record { low = low; high = high } ≡ log_bounds_of N r
both N r l h = rw (l, h)

high : (c : After-with_cube) → c.with_cube.result ≡ log_high c.args.product c.args.rest
high c = c.with_cube.ensures ∙ ap with_cube c.up_from-twice.ensures.value ∙ sym (log_high_with_cube c.args.product c.args.rest c.requires)

pub returns-clause-value : goal.returns-clause-value
unfolding log_low
returns-clause-value c = both c.args.product c.args.rest refl (high c)

pub returns-clause-small : goal.returns-clause-small
unfolding log_low
returns-clause-small c =
    (log_low_small c.args.product c.args.rest c.requires, rw (high c) (log_high_small c.args.product c.args.rest c.requires))
