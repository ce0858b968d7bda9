-- Laws of Curve in specs/.
use Rattle.std.specs.Prelude.{◌≡◌, refl, Bool, true, false, cond, ◌&&◌, ◌||◌, not, ℕ, ◌/◌, ◌≤◌}
use Rattle.std.proofs.Common.{sym, ◌∙◌, true≢false, div-one}
use Rattle.std.proofs.lemmas.Bool.{not-false}
use Rattle.site.specs.Rules.{entries_by, entries_of, last_kind, segment, settle}
use Rattle.site.specs.Record.{any_field, misses, curved, rules_read}
use Rattle.site.specs.Fields.{bit_at, road_curves}
use Rattle.laws.specs.Truth.{and_right}
use Rattle.site.specs.Tested.{by_rules}
use Rattle.site.specs.Accepted.{rules_by}
use Rattle.site.specs.Curve.{curve_bits, map_matched, matched}

two : (zeroth first : Bool) → (not zeroth || (not first || false)) ≡ not (zeroth && first)
two true true = refl
two true false = refl
two false first = refl

either_way : (c : Bool) → cond c true true ≡ true
either_way true = refl
either_way false = refl

by_bits : (zeroth first six seven eight nine : Bool)
    → cond (six || (seven || (eight || (nine || false)))) (not zeroth || (not first || (not six || (not seven || false)))) (not zeroth || (not first || false))
    ≡ not (zeroth && (first && matched six seven eight nine))
by_bits false first six seven eight nine = either_way (six || (seven || (eight || (nine || false))))
by_bits true false six seven eight nine = either_way (six || (seven || (eight || (nine || false))))
by_bits true true false false false false = refl
by_bits true true false false false true = refl
by_bits true true false false true nine = refl
by_bits true true false true eight nine = refl
by_bits true true true false eight nine = refl
by_bits true true true true false false = refl
by_bits true true true true false true = refl
by_bits true true true true true nine = refl

misses_on_road : (curve : Bool) (map : ℕ)
    → misses (settle curve segment) map
    ≡ cond curve (not (bit_at 0 map) || (not (bit_at 1 map) || (not (bit_at 6 map) || (not (bit_at 7 map) || false))))
    (not (bit_at 0 map) || (not (bit_at 1 map) || false))
unfolding any_field
misses_on_road true map = rw (div-one (map / 2 / 2))
misses_on_road false map = refl

-- a segment is refused with 7 exactly where these do not all hold
pub segment_misses : (map : ℕ)
    → misses (settle (curved segment map) segment) map ≡ not (bit_at 0 map && (bit_at 1 map && matched (bit_at 6 map) (bit_at 7 map) (bit_at 8 map) (bit_at 9 map)))
segment_misses map =
    misses_on_road (curved segment map) map
    ∙ rw (curve_bits map) (by_bits (bit_at 0 map) (bit_at 1 map) (bit_at 6 map) (bit_at 7 map) (bit_at 8 map) (bit_at 9 map))

-- a crossing has no curve
pub misses_by_bits : (edition kind map : ℕ) → kind ≤ last_kind → misses (rules_read edition kind map) map ≡ not (map_matched kind map)
unfolding any_field entries_of
misses_by_bits edition kind map =
    by_rules (λ sight kind. misses (rules_by sight kind map) map ≡ not (map_matched kind map)) (λ sight. segment_misses map)
    (rw (div-one (map / 2)) (two (bit_at 0 map) (bit_at 1 map)))
    (rw (div-one (map / 2)) (two (bit_at 0 map) (bit_at 1 map)))
    (rw (div-one (map / 2)) (two (bit_at 0 map) (bit_at 1 map)))
    (rw (div-one (map / 2)) (two (bit_at 0 map) (bit_at 1 map)))
    (λ sight. rw (div-one (map / 2)) (two (bit_at 0 map) (bit_at 1 map)))
    edition kind

-- where no bit is missing, bit 6 tells the curve
matched_six : (six seven eight nine : Bool) → matched six seven eight nine ≡ true → (six || (seven || (eight || (nine || false)))) ≡ six
matched_six true seven eight nine e = refl
matched_six false true eight nine e = absurd (true≢false (sym e))
matched_six false false true nine e = absurd (true≢false (sym e))
matched_six false false false true e = absurd (true≢false (sym e))
matched_six false false false false e = refl

pub curved_by_six : (edition kind map : ℕ) → kind ≤ last_kind → misses (rules_read edition kind map) map ≡ false
    → curved (entries_of edition kind) map ≡ road_curves kind map
unfolding any_field entries_of
curved_by_six edition kind map =
    by_rules (λ sight kind. misses (rules_by sight kind map) map ≡ false → curved (entries_by sight kind) map ≡ road_curves kind map)
    (λ sight e.
    let m = not-false (map_matched 0 map) (sym (segment_misses map) ∙ e) in
    curve_bits map ∙ matched_six (bit_at 6 map) (bit_at 7 map) (bit_at 8 map) (bit_at 9 map) (and_right (bit_at 1 map) _ (and_right (bit_at 0 map) _ m)))
    (λ e. refl) (λ e. refl) (λ e. refl) (λ e. refl) (λ sight e. refl) edition kind
