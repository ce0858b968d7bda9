-- Laws of ReorderingLaws in specs/.
use Rattle.std.specs.Prelude.{ℕ, zero, suc, ◌+◌, ◌-◌, ◌<◌, ◌≡◌, Bool, true, false, cond, ◌↔◌, length, get_or, eqb}
use Rattle.std.proofs.Math.Path.{refl}
use Rattle.std.proofs.Common.{sym, ap, ◌∙◌, zero-add, arith, eqb-true}
use mathlib.Core.List.Permᴰ
use mathlib.Core.List.{List, [], ◌∷◌, reverse_aux, reverse, Permᴰ}
use Rattle.std.proofs.lemmas.List.{length-reverse}
use Rattle.std.proofs.lemmas.Bool.{eqb-false}
use Rattle.laws.specs.Reordering.{Reordering}
use Rattle.laws.specs.ReorderingLaws.{ImageAt}

-- PLACES. Where place k is once place j is taken out
abbrev closed : (j k : ℕ) → ℕ
closed zero zero = zero
closed zero (suc k) = k
closed (suc j) zero = zero
closed (suc j) (suc k) = suc (closed j k)

closed_inside : (n j k : ℕ) → j < suc n → k < suc n → (j ≡ k → ⊥) → closed j k < n
closed_inside n zero zero h l other = absurd (other refl)
closed_inside n zero (suc k) h l other = omega arith
closed_inside n (suc j) zero h l other = omega arith
closed_inside zero (suc j) (suc k) h l other = absurd (omega arith)
closed_inside (suc n) (suc j) (suc k) h l other = omega (arith, closed_inside n j k (omega arith) (omega arith) (λ e. other (ap suc e)))

closed_apart : (j k l : ℕ) → (j ≡ k → ⊥) → (j ≡ l → ⊥) → closed j k ≡ closed j l → k ≡ l
closed_apart zero zero l p q e = absurd (p refl)
closed_apart zero (suc k) zero p q e = absurd (q refl)
closed_apart zero (suc k) (suc l) p q e = ap suc e
closed_apart (suc j) zero zero p q e = refl
closed_apart (suc j) zero (suc l) p q e = absurd (omega arith)
closed_apart (suc j) (suc k) zero p q e = absurd (omega arith)
closed_apart (suc j) (suc k) (suc l) p q e = ap suc (closed_apart j k l (λ h. p (ap suc h)) (λ h. q (ap suc h)) (omega arith))

-- places behind a first that stays, and the first two exchanged
abbrev behind : (ℕ → ℕ) → ℕ → ℕ
behind image zero = zero
behind image (suc i) = suc (image i)

abbrev exchanged : ℕ → ℕ
exchanged zero = suc zero
exchanged (suc zero) = zero
exchanged (suc (suc i)) = suc (suc i)

exchanged_twice : (i : ℕ) → exchanged (exchanged i) ≡ i
exchanged_twice zero = refl
exchanged_twice (suc zero) = refl
exchanged_twice (suc (suc i)) = refl

module _ {A : Type 0} where
  -- ONE ELEMENT TAKEN OUT of a list
  abbrev without : List A → ℕ → List A
  without [] j = []
  without (y ∷ ys) zero = ys
  without (y ∷ ys) (suc j) = y ∷ without ys j

  length_without : (ys : List A) (j : ℕ) → j < length ys → suc (length (without ys j)) ≡ length ys
  length_without [] j h = absurd (omega arith)
  length_without (y ∷ ys) zero h = refl
  length_without (y ∷ ys) (suc j) h = ap suc (length_without ys j (omega arith))

  at_closed : (ys : List A) (j k : ℕ) (d : A) → (j ≡ k → ⊥) → get_or (without ys j) (closed j k) d ≡ get_or ys k d
  at_closed [] j k d other = refl
  at_closed (y ∷ ys) zero zero d other = absurd (other refl)
  at_closed (y ∷ ys) zero (suc k) d other = refl
  at_closed (y ∷ ys) (suc j) zero d other = refl
  at_closed (y ∷ ys) (suc j) (suc k) d other = at_closed ys j k d (λ e. other (ap suc e))

  put_back : (x : A) (ys : List A) (j : ℕ) → j < length ys → get_or ys j x ≡ x → Permᴰ (x ∷ without ys j) ys
  put_back x [] j h e = absurd (omega arith)
  put_back x (y ∷ ys) zero h e = Permᴰ.cons (sym e) (Permᴰ.refl ys)
  put_back x (y ∷ ys) (suc j) h e = Permᴰ.trans (Permᴰ.swap refl refl) (Permᴰ.cons refl (put_back x ys j (omega arith) e))

  -- what is left of a reordering without the first element and its image
  module _ (x : A) (xs ys : List A) (image : ℕ → ℕ) (r : Reordering (x ∷ xs) ys image) where
    first_inside : image 0 < length ys
    first_inside = r.inside 0 (omega arith)

    other_image : (i : ℕ) → i < length xs → image 0 ≡ image (suc i) → ⊥
    other_image i h e = omega (arith, r.one_to_one 0 (suc i) (omega arith) (omega arith) e)

    one_less : suc (length (without ys (image 0))) ≡ length ys
    one_less = length_without ys (image 0) first_inside

    closed_within : (j : ℕ) → j < length ys → (image 0 ≡ j → ⊥) → closed (image 0) j < length (without ys (image 0))
    closed_within j h = closed_inside (length (without ys (image 0))) (image 0) j (omega (arith, first_inside, one_less)) (omega (arith, one_less))

    abbrev rest_image : ℕ → ℕ
    rest_image i = closed (image 0) (image (suc i))

    rest_reordered : Reordering xs (without ys (image 0)) rest_image
    rest_reordered = record {
      same_length = omega (arith, one_less, r.same_length);
      inside = λ i h. closed_within (image (suc i)) (r.inside (suc i) (omega arith)) (other_image i h);
      one_to_one = λ i j h k e.
          let apart = closed_apart (image 0) (image (suc i)) (image (suc j)) (other_image i h) (other_image j k) e in
          omega (arith, r.one_to_one (suc i) (suc j) (omega arith) (omega arith) apart);
      same = λ i d h. at_closed ys (image 0) (image (suc i)) d (other_image i h) ∙ r.same (suc i) d (omega arith);
    }

  -- A REORDERING GIVES A PERMUTATION
  pub reordering_permutes : (xs ys : List A) (image : ℕ → ℕ) → Reordering xs ys image → Permᴰ xs ys
  reordering_permutes [] [] image r = Permᴰ.nil
  reordering_permutes [] (y ∷ ys) image r = absurd (omega (arith, r.same_length))
  reordering_permutes (x ∷ xs) ys image r =
      let rest = reordering_permutes xs (without ys (image 0)) (rest_image x xs ys image r) (rest_reordered x xs ys image r) in
      Permᴰ.trans (Permᴰ.cons refl rest) (put_back x ys (image 0) (first_inside x xs ys image r) (r.same 0 x (omega arith)))

  -- NO PLACE IS LEFT OUT
  pub each_is_image : (xs ys : List A) (image : ℕ → ℕ) → Reordering xs ys image → (j : ℕ) → j < length ys → ImageAt (length xs) image j
  each_is_image [] ys image r j h = absurd (omega (arith, r.same_length))
  each_is_image (x ∷ xs) ys image r j h =
      by (eqb (image 0) j) refl (each_is_image xs (without ys (image 0)) (rest_image x xs ys image r) (rest_reordered x xs ys image r) (closed (image 0) j))
    where
      by : (b : Bool) → eqb (image 0) j ≡ b
          → (closed (image 0) j < length (without ys (image 0)) → ImageAt (length xs) (rest_image x xs ys image r) (closed (image 0) j))
          → ImageAt (suc (length xs)) image j
      by true e later = record { place = 0; within = omega arith; is = eqb-true (image 0) j e }
      by false e later =
          let other = eqb-false (image 0) j e in
          let found = later (closed_within x xs ys image r j h other) in
          let next = other_image x xs ys image r found.place found.within in
          record {
            place = suc found.place;
            within = omega (arith, found.within);
            is = closed_apart (image 0) (image (suc found.place)) j next other found.is;
          }

  -- THE STEPS OF A PERMUTATION: nothing in another order, one element more in front of both lists, the first two exchanged, and one
  -- reordering after another
  none_reordered : Reordering {A = A} [] [] (λ i. i)
  none_reordered = record { same_length = refl; inside = λ i h. absurd (omega arith); one_to_one = λ i j h k e. e; same = λ i d h. refl }

  behind_reordered : (x y : A) (xs ys : List A) (image : ℕ → ℕ) → x ≡ y → Reordering xs ys image → Reordering (x ∷ xs) (y ∷ ys) (behind image)
  behind_reordered x y xs ys image e r = record { same_length = ap suc r.same_length; inside = inside; one_to_one = apart; same = same }
    where
      inside : (i : ℕ) → i < suc (length xs) → behind image i < suc (length ys)
      inside zero h = omega arith
      inside (suc i) h = omega (arith, r.inside i (omega arith))

      apart : (i j : ℕ) → i < suc (length xs) → j < suc (length xs) → behind image i ≡ behind image j → i ≡ j
      apart zero zero h k q = refl
      apart zero (suc j) h k q = absurd (omega arith)
      apart (suc i) zero h k q = absurd (omega arith)
      apart (suc i) (suc j) h k q = ap suc (r.one_to_one i j (omega arith) (omega arith) (omega arith))

      same : (i : ℕ) (d : A) → i < suc (length xs) → get_or (y ∷ ys) (behind image i) d ≡ get_or (x ∷ xs) i d
      same zero d h = sym e
      same (suc i) d h = r.same i d (omega arith)

  exchanged_reordered : (a b c d : A) (xs : List A) → a ≡ d → b ≡ c → Reordering (a ∷ b ∷ xs) (c ∷ d ∷ xs) exchanged
  exchanged_reordered a b c d xs e f = record {
    same_length = refl;
    inside = inside;
    one_to_one = λ i j h k q. sym (exchanged_twice i) ∙ ap exchanged q ∙ exchanged_twice j;
    same = same;
  }
    where
      inside : (i : ℕ) → i < suc (suc (length xs)) → exchanged i < suc (suc (length xs))
      inside zero h = omega arith
      inside (suc zero) h = omega arith
      inside (suc (suc i)) h = h

      same : (i : ℕ) (z : A) → i < suc (suc (length xs)) → get_or (c ∷ d ∷ xs) (exchanged i) z ≡ get_or (a ∷ b ∷ xs) i z
      same zero z h = sym e
      same (suc zero) z h = sym f
      same (suc (suc i)) z h = refl

  reordered_again : {xs ys zs : List A} {image next : ℕ → ℕ} → Reordering xs ys image → Reordering ys zs next → Reordering xs zs (λ i. next (image i))
  reordered_again r s = record {
    same_length = s.same_length ∙ r.same_length;
    inside = λ i h. s.inside _ (r.inside i h);
    one_to_one = λ i j h k e. r.one_to_one i j h k (s.one_to_one _ _ (r.inside i h) (r.inside j k) e);
    same = λ i d h. s.same _ d (r.inside i h) ∙ r.same i d h;
  }

  -- A PERMUTATION GIVES A REORDERING
  unfoldable pub image_of : {xs ys : List A} → Permᴰ xs ys → ℕ → ℕ
  image_of Permᴰ.nil = λ i. i
  image_of (Permᴰ.cons e p) = behind (image_of p)
  image_of (Permᴰ.swap e f) = exchanged
  image_of (Permᴰ.trans p q) = λ i. image_of q (image_of p i)

  pub permutation_reorders : {xs ys : List A} (p : Permᴰ xs ys) → Reordering xs ys (image_of p)
  unfolding image_of
  permutation_reorders Permᴰ.nil = none_reordered
  permutation_reorders (Permᴰ.cons e p) = behind_reordered _ _ _ _ (image_of p) e (permutation_reorders p)
  permutation_reorders (Permᴰ.swap e f) = exchanged_reordered _ _ _ _ _ e f
  permutation_reorders (Permᴰ.trans p q) = reordered_again (permutation_reorders p) (permutation_reorders q)

  -- EACH GIVES THE OTHER
  pub reordering_exactly : (xs ys : List A) → ((image : ℕ → ℕ) × Reordering xs ys image) ↔ Permᴰ xs ys
  reordering_exactly xs ys = (λ r. reordering_permutes xs ys r.0 r.1, λ p. (image_of p, permutation_reorders p))

  -- EACH ELEMENT STANDS AS OFTEN AS BEFORE, whatever a test picks out
  unfoldable pub count_of : (A → Bool) → List A → ℕ
  count_of test [] = 0
  count_of test (x ∷ xs) = cond (test x) 1 0 + count_of test xs

  as_often : (test : A → Bool) {xs ys : List A} → Permᴰ xs ys → count_of test ys ≡ count_of test xs
  unfolding count_of
  as_often test Permᴰ.nil = refl
  as_often test (Permᴰ.cons e p) = rw (e, as_often test p) refl
  as_often test (Permᴰ.swap e f) = rw (e, f) (omega arith)
  as_often test (Permᴰ.trans p q) = as_often test q ∙ as_often test p

  pub each_as_often : (test : A → Bool) (xs ys : List A) (image : ℕ → ℕ) → Reordering xs ys image → count_of test ys ≡ count_of test xs
  each_as_often test xs ys image r = as_often test (reordering_permutes xs ys image r)

  -- so one that stands twice is not dropped: a a b is no reordering of a b b
  pub none_dropped : (a b : A) (image : ℕ → ℕ) → (b ≡ a → ⊥) → Reordering (a ∷ a ∷ b ∷ []) (a ∷ b ∷ b ∷ []) image → ⊥
  none_dropped a b image other r =
      let first = at_first (image 0) (r.inside 0 (omega arith)) (r.same 0 b (omega arith)) in
      let second = at_first (image 1) (r.inside 1 (omega arith)) (r.same 1 b (omega arith)) in
      omega (arith, r.one_to_one 0 1 (omega arith) (omega arith) (first ∙ sym second))
    where
      at_first : (k : ℕ) → k < 3 → get_or (a ∷ b ∷ b ∷ []) k b ≡ a → k ≡ 0
      at_first zero h e = refl
      at_first (suc zero) h e = absurd (other e)
      at_first (suc (suc zero)) h e = absurd (other e)
      at_first (suc (suc (suc k))) h e = absurd (omega arith)

  -- A LIST FROM ITS END IS A REORDERING: place i of n goes to n - 1 - i
  past_end : (xs more : List A) (k : ℕ) (d : A) → get_or (reverse_aux xs more) (length xs + k) d ≡ get_or more k d
  past_end [] more k d = rw (zero-add k) refl
  past_end (x ∷ xs) more k d =
      let e : suc (length xs) + k ≡ length xs + suc k = omega arith in
      rw e (past_end xs (x ∷ more) (suc k) d)

  from_end : (xs more : List A) (i : ℕ) (d : A) → i < length xs → get_or (reverse_aux xs more) (length xs - suc i) d ≡ get_or xs i d
  from_end [] more i d h = absurd (omega arith)
  from_end (x ∷ xs) more zero d h =
      let e : suc (length xs) - 1 ≡ length xs + 0 = omega arith in
      rw e (past_end xs (x ∷ more) 0 d)
  from_end (x ∷ xs) more (suc i) d h =
      let e : suc (length xs) - suc (suc i) ≡ length xs - suc i = omega arith in
      rw e (from_end xs (x ∷ more) i d (omega arith))

  pub reverse_reorders : (xs : List A) → Reordering xs (reverse xs) (λ i. length xs - suc i)
  reverse_reorders xs = record {
    same_length = length-reverse xs;
    inside = λ i h. omega (arith, length-reverse xs);
    one_to_one = λ i j h k e. omega arith;
    same = λ i d h. from_end xs [] i d h;
  }
