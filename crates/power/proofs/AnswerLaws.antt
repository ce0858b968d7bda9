-- The answer of the public call: its test is the range's, the bracket that is answered stands, and what a form of the call ensures.
use Rattle.std.specs.Prelude.{None, Some, ℕ, ◌≡◌, ◌≤◌, leb, eqb}
use Rattle.std.proofs.Common.{arith}
use borrow.Author.Tests.{le-leb, lt-ltb, eq-eqb}
use Rattle.std.proofs.Math.Dec.{leb→le, ltb→lt, eqb→eq}
use Rattle.laws.specs.Table.{both_left, both_right}
use Rattle.bracket.specs.Answer.{Answers, answer_stands, refused, given}
use Rattle.bracket.specs.declared.Bracket.{Bracket}
use Rattle.remainder.specs.Remainder.{Exponent}
use Rattle.power.specs.Exponents.{exponent_at, place_of, place_of_holds, place_among, place_among_is, place_among_none, exponent_small}
use Rattle.power.specs.Power.{power_bracket, PowerRange, in_range, StandingPower, power_answer, PowerStands}
use Rattle.power.proofs.PowerStanding.{power_standing}

module _ (base num den : ℕ) where
  -- a stored exponent is at most 0.79
  range_exponent : PowerRange base num den → Exponent num den
  range_exponent r =
      let s = exponent_small (place_of num) r.stored in
      let e = place_of_holds num r.stored in
      record { at_most_one = omega (arith, s, e, r.hundredths); positive = omega (arith, r.hundredths) }

  pub power_answers : let Range = PowerRange base num den in
      Answers Range (StandingPower base num den) (Range → ⊥) (in_range base num den) (power_bracket base num den)
  unfolding in_range
  power_answers = record {
    passed = λ r. rw (le-leb 1 base r.from_one, le-leb base 20000 r.to_20000, eq-eqb den 100 r.hundredths, lt-ltb (place_of num) 5 r.stored);
    within = λ t.
        let b = both_right (leb 1 base) _ t in
        let c = both_right (leb base 20000) _ b in
        record {
          from_one = leb→le 1 base (both_left (leb 1 base) _ t);
          to_20000 = leb→le base 20000 (both_left (leb base 20000) _ b);
          hundredths = eqb→eq den 100 (both_left (eqb den 100) _ c);
          stored = ltb→lt (place_of num) 5 (both_right (eqb den 100) _ c);
        };
    kept = λ r. power_standing base num den r.from_one (omega (arith, r.to_20000)) (range_exponent r);
    outside = λ f. f;
  }

  pub power_answer_stands : PowerStands base num den (power_answer base num den)
  unfolding power_answer
  power_answer_stands = answer_stands power_answers

  -- THE TWO ANSWERS OF A FORM OF THE CALL, with all that it ensures
  pub power_refused : (PowerRange base num den → ⊥) → (None ≡ power_answer base num den) × (PowerRange base num den → ⊥)
  unfolding power_answer
  power_refused = refused power_answers

  -- none, where the exponent has no place
  pub power_refused_place : None ≡ place_among num → (None ≡ power_answer base num den) × (PowerRange base num den → ⊥)
  power_refused_place e = power_refused (λ r. place_among_none num e r.stored)

  -- the bracket that was made at the place of num hundredths
  pub power_given : {place : ℕ} {b : Bracket} → 1 ≤ base → base ≤ 20000 → den ≡ 100 → Some place ≡ place_among num → b ≡ power_bracket base (exponent_at place) 100
      → (Some b ≡ power_answer base num den) × StandingPower base num den b
  unfolding power_answer
  power_given {place} from to hundredths e is =
      let p = place_among_is num place e in
      let r : PowerRange base num den = record { from_one = from; to_20000 = to; hundredths = hundredths; stored = p.1 } in
      given power_answers r (rw (is, p.0, place_of_holds num p.1, hundredths))
