-- Laws of Carrying in specs/.
use Rattle.std.specs.Prelude.{ℕ, ◌+◌, ◌≤◌, ◌<◌, ◌≡◌, length, get_or, drop}
use Rattle.std.proofs.Common.{ap, ◌∙◌, add-zero, zero-add, add_assoc, arith}
use Rattle.site.specs.declared.values.Site.{Site}
use Rattle.site.specs.Writing.{Valid}
use Rattle.model.specs.Coefficients.{Coefficients}
use Rattle.header.specs.declared.Header.{Header}
use Rattle.header.specs.HeaderLaws.{HeaderWithin}
use Rattle.model.specs.Predicted.{terms_of}
use Rattle.bracket.specs.declared.Bounds.{Bounds}
use Rattle.prediction.specs.Pair.{term_pair, plus, sum_pair, predicted_pair, most_predicted}
use Rattle.prediction.specs.Kept.{Rated}
use Rattle.prediction.proofs.PredictedLaws.{predicted_stands, predicted_small}
use Rattle.prediction.specs.Terms.{no_term}
use Rattle.laws.specs.Walk.{next, at_end}

-- THE PAIR of a site is the sum of its terms'
plus_none : (x : Bounds) → x ≡ plus x (record { low = 0; high = 0 })
plus_none x = rw (add-zero x.low, add-zero x.high)

plus_assoc : (x y z : Bounds) → plus (plus x y) z ≡ plus x (plus y z)
plus_assoc x y z = rw (add_assoc x.low y.low z.low, add_assoc x.high y.high z.high)

none_plus : (x : Bounds) → plus (record { low = 0; high = 0 }) x ≡ x
none_plus x = rw (zero-add x.low, zero-add x.high)

module _ (k : Coefficients) (header : Header) (site : Site) where
  -- WHAT THE LOOP KEEPS: the sum so far, and the terms from a place on
  pub record Summed (i : ℕ) (sum : Bounds) : Type 0 where
    pub whole : plus sum (sum_pair k header site (drop i (terms_of header site))) ≡ predicted_pair k header site

  pub none_summed : Summed 0 (record { low = 0; high = 0 })
  unfolding predicted_pair
  none_summed = record { whole = none_plus _ }

  pub next_summed : (i : ℕ) (sum : Bounds) → i < length (terms_of header site) → Summed i sum
      → Summed (i + 1) (plus sum (term_pair k header site (get_or (terms_of header site) i no_term)))
  unfolding sum_pair
  next_summed i sum h s = record { whole = rw (plus_assoc sum _ _) (rw (next (terms_of header site) i no_term h) at s.whole) }

  pub all_summed : (i : ℕ) (sum : Bounds) → length (terms_of header site) ≤ i → Summed i sum → sum ≡ predicted_pair k header site
  unfolding sum_pair
  all_summed i sum h s = plus_none sum ∙ rw (at_end (terms_of header site) i h) at s.whole

  -- no sum on the way is above the whole
  pub summed_small : Rated k → HeaderWithin header → Valid header.edition header.years site → {i : ℕ} {sum : Bounds} → Summed i sum
      → (sum.low ≤ most_predicted) × (sum.high ≤ most_predicted)
  summed_small rated limits valid s =
      let stands = predicted_stands k rated header limits site valid in
      let small = predicted_small k rated header limits site valid in
      (omega (arith, ap (λ (p : Bounds). p.low) s.whole, stands.in_order), omega (arith, ap (λ (p : Bounds). p.high) s.whole))
