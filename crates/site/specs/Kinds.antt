-- Document 01's number for each kind, and the kind of a number.
use Rattle.std.specs.Prelude.{◌≡◌, ℕ, ◌<◌, ◌≤◌, Result, MatchResult}
use Rattle.std.proofs.Common.{arith}
use Rattle.site.specs.declared.kind.Kind.{Kind}
use Rattle.site.specs.declared.kind.Kind.TheVariants.{Segment, ThreeLegStop, FourLegStop, FourLegSignal}
use Rattle.site.specs.declared.refusal.Refusal.{Refusal}
use Rattle.site.specs.declared.refusal.Refusal.TheVariants.{KindUnknown}
use Rattle.site.specs.Rules.{last_kind}

-- "kind byte (0 segment, 1 3ST, 2 4ST, 3 4SG)"
abbrev pub number_of_kind : Kind → ℕ
number_of_kind Segment = 0
number_of_kind ThreeLegStop = 1
number_of_kind FourLegStop = 2
number_of_kind FourLegSignal = 3

-- the kind that has the number, or "kind above 3": a refusal
abbrev pub KindOfNumber : ℕ → Result Kind Refusal → Type 0
KindOfNumber number answer =
    MatchResult answer (λ kind. number_of_kind kind ≡ number) (λ refusal. (refusal ≡ KindUnknown) × (last_kind < number))

-- every kind is one of the four
pub kind_known : (kind : Kind) → number_of_kind kind ≤ last_kind
kind_known Segment = omega arith
kind_known ThreeLegStop = omega arith
kind_known FourLegStop = omega arith
kind_known FourLegSignal = omega arith
