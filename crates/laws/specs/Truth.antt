-- Laws of truth values: what a test that came out so says of its parts.
use Rattle.std.specs.Prelude.{◌≡◌, refl, Bool, true, false, cond, ◌&&◌, ◌||◌, ℕ, suc, eqb}
use Rattle.std.proofs.Common.{sym, ◌∙◌, true≢false, arith, eqb-true}
use Rattle.std.proofs.lemmas.Bool.{eqb-false}

pub and_left : (a b : Bool) → (a && b) ≡ true → a ≡ true
and_left true b e = refl
and_left false b e = e

pub and_right : (a b : Bool) → (a && b) ≡ true → b ≡ true
and_right true b e = e
and_right false b e = absurd (true≢false (sym e))

pub or_left : (a b : Bool) → (a || b) ≡ false → a ≡ false
or_left true b e = e
or_left false b e = refl

pub or_right : (a b : Bool) → (a || b) ≡ false → b ≡ false
or_right true b e = absurd (true≢false e)
or_right false b e = e

pub not_both : {A : Type 0} (a : Bool) → a ≡ true → a ≡ false → A
not_both a p q = absurd (true≢false (sym p ∙ q))

-- a choice that comes out as the first, and is never the second
pub chosen : {A : Type 0} (a : Bool) (x y z : A) → (y ≡ z → ⊥) → cond a x y ≡ z → (a ≡ true) × (x ≡ z)
chosen true x y z never e = (refl, e)
chosen false x y z never e = absurd (never e)

-- the first of two numbers that is not 0, where neither is
pub both_zero : (x y : ℕ) (b : Bool) → eqb x 0 ≡ b → cond b y x ≡ 0 → (x ≡ 0) × (y ≡ 0)
both_zero x y true q e = (eqb-true x 0 q, e)
both_zero x y false q e = absurd (eqb-false x 0 q e)

-- a refusal that was passed: the test failed, and the rest refuses nothing
pub passed : (a : Bool) (x y : ℕ) → cond a (suc x) y ≡ 0 → (a ≡ false) × (y ≡ 0)
passed true x y e = let z : ⊥ = omega arith in absurd z
passed false x y e = (refl, e)

-- a test that never holds
pub never_so : (a : Bool) → (a ≡ true → ⊥) → a ≡ false
never_so true never = absurd (never refl)
never_so false never = refl

-- and one that never fails
pub never_false : (a : Bool) → (a ≡ false → ⊥) → a ≡ true
never_false true never = refl
never_false false never = absurd (never refl)

pub both_true : (a b : Bool) → a ≡ true → b ≡ true → (a && b) ≡ true
both_true a b p q = rw (p, q)
