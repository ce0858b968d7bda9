-- What a call that makes a bracket answers, by a test of its range, and what its answer promises.
use Rattle.std.specs.Prelude.{Option, None, Some, ℕ, Bool, true, false, cond, ◌≡◌, refl, T}
use Rattle.std.proofs.Common.{sym, arith}
use Rattle.bracket.specs.declared.Bracket.{Bracket}

-- "an argument outside the range stated for such a bracket is answered as that, with no bracket"
abbrev pub answer_where : (inside : Bool) → Bracket → Option Bracket
answer_where inside b = cond inside (Some b) None

-- a bracket that is answered has what is promised of it; none is answered outside the range only
abbrev pub AnswerPromised : (Promised : Bracket → Type 0) (Outside : Type 0) → Option Bracket → Type 0
AnswerPromised Promised Outside (Some b) = Promised b
AnswerPromised Promised Outside None = Outside

-- of a call's answer: its test is the range's, the bracket has what is promised within it, and what is known outside
pub record Answers (Range : Type 0) (Promised : Bracket → Type 0) (Outside : Type 0) (inside : Bool) (b : Bracket) : Type 0 where
  pub passed : Range → inside ≡ true
  pub within : T inside → Range
  pub kept : Range → Promised b
  pub outside : (Range → ⊥) → Outside

module _ {Range : Type 0} {Promised : Bracket → Type 0} {Outside : Type 0} {inside : Bool} {b : Bracket} (a : Answers Range Promised Outside inside b) where
  pub answer_in_range : Range → answer_where inside b ≡ Some b
  answer_in_range r = rw (a.passed r)

  pub answer_out_of_range : (Range → ⊥) → answer_where inside b ≡ None
  answer_out_of_range f = by inside refl
    where
      by : (v : Bool) → inside ≡ v → answer_where v b ≡ None
      by true e = absurd (f (a.within (rw e tt)))
      by false e = refl

  pub answer_stands : AnswerPromised Promised Outside (answer_where inside b)
  answer_stands = by inside refl
    where
      by : (v : Bool) → inside ≡ v → AnswerPromised Promised Outside (answer_where v b)
      by true e = a.kept (a.within (rw e tt))
      by false e = a.outside (λ r. let t = a.passed r in let z : ◌≡◌ {A = ℕ} 0 1 = cc in omega arith)

  -- THE TWO ANSWERS OF A CALL, with all that it ensures
  pub refused : (Range → ⊥) → (None ≡ answer_where inside b) × Outside
  refused f = (sym (answer_out_of_range f), a.outside f)

  pub given : {made : Bracket} → Range → made ≡ b → (Some made ≡ answer_where inside b) × Promised made
  given r e = rw e (sym (answer_in_range r), a.kept r)
