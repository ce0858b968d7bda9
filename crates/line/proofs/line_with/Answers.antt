use mathlib.Core.Path.{ap, ◌∙◌}
use Rattle.site.specs.Ranges.{valid_kind}
use Rattle.site.specs.Numbers.{site_traffic, segment_sizes}
use Rattle.model.specs.Coefficients.{coefficients_of}
use Rattle.prediction.specs.Editions.{edition_rated}
use Rattle.bracket.specs.declared.Ratio.{Ratio}
use Rattle.bracket.specs.Ratio.{coded}
use Rattle.line.specs.Dispersion.{edition_dispersed}
use Rattle.line.specs.Weighing.{both_sizes, line_made}
use Rattle.line.proofs.line_with.Goals as goal

pub overdispersion-k-requires : goal.overdispersion-k-requires
overdispersion-k-requires c =
    let site = c.args.site in
    let valid = c.requires.1 in
    (valid_kind _ _ site valid, λ e. rw c.number.ensures (segment_sizes _ _ site valid e _ (site_traffic _ _ site valid)).length_least)

pub weigh-expected-requires : goal.weigh-expected-requires
weigh-expected-requires c =
    let edition = c.args.header.edition in
    rw (c.overdispersion-k.ensures, c.number.ensures, c.predicted_with-predicted.ensures)
    (both_sizes (coefficients_of edition) (edition_rated edition) _ c.requires.0 c.args.site c.requires.1 (edition_dispersed edition))

pub returns : goal.returns
returns c =
    let a = c.args in
    let coefficients = coefficients_of a.header.edition in
    let length = ap (coefficients.overdispersion a.site.kind) c.number.ensures in
    let k = c.overdispersion-k.ensures ∙ ap coded length in
    line_made coefficients _ a.site _ _ _ _ (ap (λ (r : Ratio). r.num) k) (ap (λ (r : Ratio). r.den) k) c.predicted_with-predicted.ensures c.weigh-expected.ensures
