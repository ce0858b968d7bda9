use Rattle.std.proofs.Common.{◌≡◌, ◌∙◌, ◌+◌, ◌<◌, ℕ, Bool, cond, length, get_or, arith}
use Rattle.site.specs.declared.values.Site.{Site}
use Rattle.site.specs.Writing.{Valid}
use Rattle.site.specs.Yearly.{yearly}
use Rattle.header.specs.declared.Header.{Header}
use Rattle.header.specs.HeaderLaws.{HeaderWithin}
use Rattle.model.specs.Coefficients.{coefficients_of}
use Rattle.model.specs.Predicted.{terms_of}
use Rattle.model.specs.Parts.{term_at}
use Rattle.model.specs.StatedWidths.{sites_counted}
use Rattle.model.proofs.TermLaws.{sites_counted_lem}
use Rattle.prediction.specs.Pair.{plus, term_pair}
use Rattle.bracket.specs.declared.Bounds.{Bounds}
use Rattle.prediction.specs.Editions.{edition_rated}
use Rattle.prediction.specs.Terms.{TermSizes, no_term, terms_sized, term_at_lem, sized_at, traffic_in, minor_in}
use Rattle.prediction.proofs.Carrying.{Summed, none_summed, next_summed, all_summed, summed_small}
use Rattle.prediction.proofs.predicted_with.Goals as goal

module _ (header : Header) (site : Site) (limits : HeaderWithin header) {count : ℕ} {each : Bool} (e : each ≡ yearly site) (n : count ≡ cond each header.years 1) where
  -- how many terms there are
  count_is : count ≡ length (terms_of header site)
  unfolding sites_counted
  count_is = rw e at n ∙ sites_counted_lem header site limits.years_least

  -- the term of a turn
  module _ {year years traffic minor : ℕ} (h : year < count) (y : years ≡ cond each 1 header.years) (t : traffic ≡ traffic_in site year) (m : minor ≡ minor_in site year) where
    term_is : get_or (terms_of header site) year no_term ≡ term_at years traffic minor
    term_is = rw (y, t, m, e) (term_at_lem header site year (rw (n, e) at h))

    term_sized : Valid header.edition header.years site → TermSizes site (term_at years traffic minor)
    term_sized valid = rw term_is at (sized_at site (terms_of header site) (terms_sized header limits site valid) year (rw (← count_is) h))

    -- the sum with its pair
    term_summed : (sum next : Bounds) → Summed (coefficients_of header.edition) header site year sum
        → next ≡ term_pair (coefficients_of header.edition) header site (term_at years traffic minor)
        → Summed (coefficients_of header.edition) header site (year + 1) (plus sum next)
    term_summed sum next s p = rw (p, ← term_is) (next_summed (coefficients_of header.edition) header site year sum (rw (← count_is) h) s)

pub loop-year-init : goal.loop-year-init
loop-year-init c = none_summed _ c.args.header c.args.site

pub term_pair-next-requires : goal.term_pair-next-requires
term_pair-next-requires c =
    let p = c.requires in (
      p.0,
      p.1,
      term_sized _ _ p.0 c.is_yearly-yearly.ensures c.count_of-count.ensures (omega arith) c.years_of-years.ensures c.traffic_in.ensures
          c.traffic_in-in-loop-year.ensures p.1,
    )

pub add_pair-sum-requires : goal.add_pair-sum-requires
add_pair-sum-requires c =
    let p = c.requires in
    summed_small _ c.args.header c.args.site (edition_rated c.args.header.edition) p.0 p.1
    (term_summed _ _ p.0 c.is_yearly-yearly.ensures c.count_of-count.ensures (omega arith) c.years_of-years.ensures c.traffic_in.ensures
    c.traffic_in-in-loop-year.ensures _ _ c.loop-year.invariant c.term_pair-next.ensures)

pub loop-year-preserved : goal.loop-year-preserved
loop-year-preserved c =
    rw c.add_pair-sum.ensures
    (term_summed _ _ c.requires.0 c.is_yearly-yearly.ensures c.count_of-count.ensures (omega arith) c.years_of-years.ensures c.traffic_in.ensures
    c.traffic_in-in-loop-year.ensures _ _ c.loop-year.invariant c.term_pair-next.ensures)

pub returns : goal.returns
returns c =
    let terms = count_is c.args.header c.args.site c.requires.0 c.is_yearly-yearly.ensures c.count_of-count.ensures in
    all_summed _ c.args.header c.args.site _ _ (rw (← terms) c.loop-year-test.false) c.loop-year.invariant
