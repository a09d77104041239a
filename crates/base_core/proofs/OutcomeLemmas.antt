-- Outcomes of several calls: of two lists one behind the other, of one call more, and of calls that all succeed.
use Rattle.std.proofs.Common.{◌≡◌, ◌↔◌, inl, inr, ℕ, suc, List, [], ◌∷◌, ◌++◌, length, map, refl, sym, ap, ◌∙◌, arith, Bool, true, false, cond, Ordering, Result, Ok, Err}
use Rattle.std.specs.declared.cmp.Ordering.TheVariants.{Less, Equal, Greater}
use Rattle.std.specs.Cmp.{IsTotalOrder}
use Rattle.std.specs.Ordering.{is_lt, is_gt, ordering_reverse}
use Rattle.std.proofs.lemmas.Cmp.{upto}
use Rattle.base_core.specs.Outcomes.{then_give, both, first_of_all, lesser, with_lesser, least_of_all}
use Rattle.base_core.proofs.SetLemmas.{In}
use Rattle.base_core.proofs.SetOperatorLemmas.{is_lt-Less}

-- ---- the first fault

pub then_give-then_give : {X Y Z F : Type 0} (x : Result X F) (f : X → Result Y F) (g : Y → Result Z F) → then_give (then_give x f) g ≡ then_give x (λ a. then_give (f a) g)
then_give-then_give (Ok x) f g = refl
then_give-then_give (Err e) f g = refl

pub then_give-Ok : {X F : Type 0} (x : Result X F) → then_give x (λ a. Ok a) ≡ x
then_give-Ok (Ok x) = refl
then_give-Ok (Err e) = refl

with_first : {X F : Type 0} (x : X) (a b : Result (List X) F) → then_give (both a b (λ vs ws. Ok (vs ++ ws))) (λ vs. Ok (x ∷ vs)) ≡ both (then_give a (λ vs. Ok (x ∷ vs))) b (λ vs ws. Ok (vs ++ ws))
with_first x (Ok a) (Ok b) = refl
with_first x (Ok a) (Err e) = refl
with_first x (Err e) b = refl

pub first_of_all-append : {X F : Type 0} (xs ys : List (Result X F)) → first_of_all (xs ++ ys) ≡ both (first_of_all xs) (first_of_all ys) (λ vs ws. Ok (vs ++ ws))
first_of_all-append [] ys = sym (then_give-Ok (first_of_all ys))
first_of_all-append (Err e ∷ xs) ys = refl
first_of_all-append (Ok x ∷ xs) ys = ap (λ r. then_give r (λ vs. Ok (x ∷ vs))) (first_of_all-append xs ys) ∙ with_first x (first_of_all xs) (first_of_all ys)

-- one more, as at a step of a loop
pub first_of_all-more : {X F : Type 0} (xs : List (Result X F)) (x : Result X F) → first_of_all (xs ++ x ∷ []) ≡ both (first_of_all xs) x (λ vs v. Ok (vs ++ v ∷ []))
first_of_all-more xs (Ok v) = first_of_all-append xs (Ok v ∷ [])
first_of_all-more xs (Err e) = first_of_all-append xs (Err e ∷ [])

-- after a first fault nothing counts
pub first_of_all-Err : {X F : Type 0} (xs ys : List (Result X F)) (e : F) → first_of_all xs ≡ Err e → first_of_all (xs ++ ys) ≡ Err e
first_of_all-Err xs ys e h = first_of_all-append xs ys ∙ ap (λ r. both r (first_of_all ys) (λ vs ws. Ok (vs ++ ws))) h

-- a fault at one of several behind values alone
pub first_of_all-Err_at : {X F : Type 0} (xs ys : List (Result X F)) (vs : List X) (e : F) → first_of_all xs ≡ Ok vs → first_of_all (xs ++ Err e ∷ ys) ≡ Err e
first_of_all-Err_at xs ys vs e h = first_of_all-append xs (Err e ∷ ys) ∙ ap (λ r. both r (Err e) (λ us ws. Ok (us ++ ws))) h

-- calls that all succeed
pub first_of_all-map : {X Y F : Type 0} (f : X → Result Y F) (g : X → Y) (xs : List X) → ((x : X) → In x xs → f x ≡ Ok (g x)) → first_of_all (map f xs) ≡ Ok (map g xs)
first_of_all-map f g [] h = refl
first_of_all-map f g (x ∷ xs) h =
    ap (λ r. both r (first_of_all (map f xs)) (λ v vs. Ok (v ∷ vs))) (h x (inl refl))
    ∙ ap (λ r. then_give r (λ vs. Ok (g x ∷ vs))) (first_of_all-map f g xs (λ y i. h y (inr i)))

length_with_first : {X F : Type 0} (x : X) (r : Result (List X) F) (vs : List X) (n : ℕ) → then_give r (λ us. Ok (x ∷ us)) ≡ Ok vs → ((us : List X) → r ≡ Ok us → length us ≡ n) → length vs ≡ suc n
length_with_first x (Err e) vs n h k = absurd (cc)
length_with_first x (Ok us) vs n h k = let e : x ∷ us ≡ vs = cc in let m = ap length e in let l = k us refl in omega (arith, m, l)

ok_with_first : {X F : Type 0} (x : X) (xs : List (Result X F)) (r : Result (List X) F) (vs : List X) → then_give r (λ us. Ok (x ∷ us)) ≡ Ok vs → ((us : List X) → r ≡ Ok us → xs ≡ map (λ v. Ok v) us)
    → Ok x ∷ xs ≡ map (λ v. Ok v) vs
ok_with_first x xs (Err e) vs h k = absurd (cc)
ok_with_first {X} {F} x xs (Ok us) vs h k =
    let e : x ∷ us ≡ vs = cc in
    let all : List X → List (Result X F) = λ ws. map (λ v. Ok v) ws in
    ap (λ ys. Ok x ∷ ys) (k us refl) ∙ ap all e

-- where all succeed, each call gave its value
pub first_of_all-Ok : {X F : Type 0} (xs : List (Result X F)) (vs : List X) → first_of_all xs ≡ Ok vs → xs ≡ map (λ v. Ok v) vs
first_of_all-Ok [] [] h = refl
first_of_all-Ok [] (v ∷ vs) h = absurd (cc)
first_of_all-Ok (Err e ∷ xs) vs h = absurd (cc)
first_of_all-Ok (Ok x ∷ xs) vs h = ok_with_first x xs (first_of_all xs) vs h (first_of_all-Ok xs)

-- there is a value for each call
pub length-first_of_all : {X F : Type 0} (xs : List (Result X F)) (vs : List X) → first_of_all xs ≡ Ok vs → length vs ≡ length xs
length-first_of_all [] [] h = refl
length-first_of_all [] (v ∷ vs) h = absurd (cc)
length-first_of_all (Err e ∷ xs) vs h = absurd (cc)
length-first_of_all (Ok x ∷ xs) vs h = length_with_first x (first_of_all xs) vs (length xs) h (length-first_of_all xs)

-- ---- the least fault

module _ {F : Type 0} (cmp : F → F → Ordering) where
  -- the values of both lists, or the lesser of their faults
  abbrev pub with_least : {X : Type 0} → Result (List X) F → Result (List X) F → Result (List X) F
  with_least (Ok vs) (Ok ws) = Ok (vs ++ ws)
  with_least (Ok vs) (Err e) = Err e
  with_least (Err d) (Ok ws) = Err d
  with_least (Err d) (Err e) = Err (lesser cmp d e)

module _ {F : Type 0} (cmp : F → F → Ordering) (o : IsTotalOrder cmp) where
  lesser-at : (a b : F) (r : Bool) → is_lt (cmp b a) ≡ r → lesser cmp a b ≡ cond r b a
  lesser-at a b r e = ap (λ z. cond z b a) e

  is_gt-back : (a b : F) → is_gt (cmp a b) ≡ is_lt (cmp b a)
  is_gt-back a b = ap is_gt (o.antisymm a b) ∙ turned (cmp b a)
    where
      turned : (r : Ordering) → is_gt (ordering_reverse r) ≡ is_lt r
      turned Less = refl
      turned Equal = refl
      turned Greater = refl

  lesser_by : (a b c : F) (r s : Bool) → is_lt (cmp b a) ≡ r → is_lt (cmp c b) ≡ s → lesser cmp a (lesser cmp b c) ≡ lesser cmp (lesser cmp a b) c
  lesser_by a b c true true p q =
      let below : is_lt (cmp c a) ≡ true = (is_lt-Less (cmp c a)).1 (o.trans c b a ((is_lt-Less (cmp c b)).0 q) ((is_lt-Less (cmp b a)).0 p)) in
      ap (lesser cmp a) (lesser-at b c true q) ∙ lesser-at a c true below ∙ sym (ap (λ z. lesser cmp z c) (lesser-at a b true p) ∙ lesser-at b c true q)
  lesser_by a b c true false p q =
      ap (lesser cmp a) (lesser-at b c false q) ∙ lesser-at a b true p ∙ sym (ap (λ z. lesser cmp z c) (lesser-at a b true p) ∙ lesser-at b c false q)
  lesser_by a b c false true p q = ap (lesser cmp a) (lesser-at b c true q) ∙ sym (ap (λ z. lesser cmp z c) (lesser-at a b false p))
  lesser_by a b c false false p q =
      let above : is_lt (cmp c a) ≡ false = sym (is_gt-back a c) ∙ upto o a b c (is_gt-back a b ∙ p) (is_gt-back b c ∙ q) in
      ap (lesser cmp a) (lesser-at b c false q) ∙ lesser-at a b false p ∙ sym (ap (λ z. lesser cmp z c) (lesser-at a b false p) ∙ lesser-at a c false above)

  pub lesser-lesser : (a b c : F) → lesser cmp a (lesser cmp b c) ≡ lesser cmp (lesser cmp a b) c
  lesser-lesser a b c = lesser_by a b c (is_lt (cmp b a)) (is_lt (cmp c b)) refl refl

  with_least-none : {X : Type 0} (r : Result (List X) F) → r ≡ with_least cmp (Ok []) r
  with_least-none (Ok vs) = refl
  with_least-none (Err e) = refl

  with_lesser-with_least : {X : Type 0} (x : Result X F) (a b : Result (List X) F) → with_lesser cmp x (with_least cmp a b) ≡ with_least cmp (with_lesser cmp x a) b
  with_lesser-with_least (Ok v) (Ok a) (Ok b) = refl
  with_lesser-with_least (Ok v) (Ok a) (Err e) = refl
  with_lesser-with_least (Ok v) (Err d) (Ok b) = refl
  with_lesser-with_least (Ok v) (Err d) (Err e) = refl
  with_lesser-with_least (Err c) (Ok a) (Ok b) = refl
  with_lesser-with_least (Err c) (Ok a) (Err e) = refl
  with_lesser-with_least (Err c) (Err d) (Ok b) = refl
  with_lesser-with_least (Err c) (Err d) (Err e) = ap (λ f. Err f) (lesser-lesser c d e)

  pub least_of_all-append : {X : Type 0} (xs ys : List (Result X F)) → least_of_all cmp (xs ++ ys) ≡ with_least cmp (least_of_all cmp xs) (least_of_all cmp ys)
  least_of_all-append [] ys = with_least-none (least_of_all cmp ys)
  least_of_all-append (x ∷ xs) ys = ap (with_lesser cmp x) (least_of_all-append xs ys) ∙ with_lesser-with_least x (least_of_all cmp xs) (least_of_all cmp ys)

  -- one more, as at a step of a loop
  abbrev pub with_one : {X : Type 0} → Result (List X) F → Result X F → Result (List X) F
  with_one r (Ok v) = with_least cmp r (Ok (v ∷ []))
  with_one r (Err e) = with_least cmp r (Err e)

  pub least_of_all-more : {X : Type 0} (xs : List (Result X F)) (x : Result X F) → least_of_all cmp (xs ++ x ∷ []) ≡ with_one (least_of_all cmp xs) x
  least_of_all-more xs (Ok v) = least_of_all-append xs (Ok v ∷ [])
  least_of_all-more xs (Err e) = least_of_all-append xs (Err e ∷ [])

  pub least_of_all-map : {X Y : Type 0} (f : X → Result Y F) (g : X → Y) (xs : List X) → ((x : X) → In x xs → f x ≡ Ok (g x)) → least_of_all cmp (map f xs) ≡ Ok (map g xs)
  least_of_all-map f g [] h = refl
  least_of_all-map f g (x ∷ xs) h =
      ap (λ r. with_lesser cmp r (least_of_all cmp (map f xs))) (h x (inl refl))
      ∙ ap (λ r. with_lesser cmp (Ok (g x)) r) (least_of_all-map f g xs (λ y i. h y (inr i)))

  -- without a fault the least one and the first one are told alike
  pub least_of_all-Ok : {X : Type 0} (xs : List (Result X F)) (vs : List X) → (least_of_all cmp xs ≡ Ok vs) ↔ (first_of_all xs ≡ Ok vs)
  least_of_all-Ok [] vs = (λ h. h, λ h. h)
  least_of_all-Ok (Ok x ∷ xs) vs =
      let rest = least_of_all-Ok xs in (
        λ h. alike x (least_of_all cmp xs) (first_of_all xs) vs (λ us. (rest us).0) h,
        λ h. back x (least_of_all cmp xs) (first_of_all xs) vs (λ us. (rest us).1) h,
      )
    where
      alike : {X : Type 0} (x : X) (a b : Result (List X) F) (vs : List X) → ((us : List X) → a ≡ Ok us → b ≡ Ok us) → with_lesser cmp (Ok x) a ≡ Ok vs → both (Ok x) b (λ v us. Ok (v ∷ us)) ≡ Ok vs
      alike x (Ok us) b vs k h = ap (λ r. then_give r (λ ws. Ok (x ∷ ws))) (k us refl) ∙ h
      alike x (Err e) b vs k h = absurd (cc)

      back : {X : Type 0} (x : X) (a b : Result (List X) F) (vs : List X) → ((us : List X) → b ≡ Ok us → a ≡ Ok us) → both (Ok x) b (λ v us. Ok (v ∷ us)) ≡ Ok vs → with_lesser cmp (Ok x) a ≡ Ok vs
      back x a (Ok us) vs k h = ap (with_lesser cmp (Ok x)) (k us refl) ∙ h
      back x a (Err e) vs k h = absurd (cc)
  least_of_all-Ok (Err e ∷ xs) vs = (λ h. absurd (not_ok e (least_of_all cmp xs) vs h), λ h. absurd (cc))
    where
      not_ok : {X : Type 0} (e : F) (r : Result (List X) F) (vs : List X) → with_lesser cmp (Err e) r ≡ Ok vs → ⊥
      not_ok e (Ok us) vs h = cc
      not_ok e (Err d) vs h = cc
