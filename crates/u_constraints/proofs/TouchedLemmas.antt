-- Lists that change: the members whose parts pass a test, and the others, which are old.
--     IsTouched      few are the members of all whose parts pass the test, and what does not pass it is old
--     touched_map      so it is of what a function makes of the members
--     within_length      a set within another has no more members
use Rattle.std.proofs.Common.{◌≡◌, ◌↔◌, ◌≤◌, Bool, true, false, List, map, length, refl, sym, ap, ◌∙◌, arith, Ordering}
use Rattle.std.specs.Bool.{IsTrue}
use Rattle.std.specs.List.{filter}
use Rattle.std.specs.Cmp.{IsTotalOrder}
use Rattle.base_core.specs.Sets.{has}
use Rattle.base_core.proofs.SetLemmas.{In, Ascends, Separates, same_by_members}
use Rattle.base_core.proofs.MemberLemmas.{In-map, In-filter, has-In}
use Rattle.base_core.proofs.SetOperatorLemmas.{Ascends-filter}
use Rattle.relation_core.proofs.FilterLemmas.{length-filter_at_most}

-- few are the members of all whose parts pass the test, and what does not pass it is old
pub record IsTouched {X Y : Type 0} (f : X → Y) (test : Y → Bool) (old all few : List X) : Type 0 where
  pub touched : (x : X) → In x few ↔ (In x all × IsTrue (test (f x)))
  pub rest : (x : X) → In x all → test (f x) ≡ false → In x old

module _ {X Y : Type 0} (f : X → Y) (test : Y → Bool) (old all few : List X) (is : IsTouched f test old all few) where
  -- what holds of any two members of the few and of the old ones that have one part holds of any two of all
  pub each_of_all : (P : X → X → Type 0) → ((x y : X) → In x old → In y old → f x ≡ f y → P x y) → ((x y : X) → In x few → In y few → f x ≡ f y → P x y)
      → (x y : X) → In x all → In y all → f x ≡ f y → P x y
  each_of_all P olds fews x y i j e =
      elim (test (f x)) as (λ b. test (f x) ≡ b → P x y) [
        | true ↦ λ t. fews x y ((is.touched x).1 (i, t)) ((is.touched y).1 (j, ap test (sym e) ∙ t)) e
        | false ↦ λ t. olds x y (is.rest x i t) (is.rest y j (ap test (sym e) ∙ t)) e
      ] refl

  -- so it is of what a function makes of the members, where the parts stay the same
  pub touched_map : {Z : Type 0} (h : X → Z) (g : Z → Y) → ((x : X) → g (h x) ≡ f x) → IsTouched g test (map h old) (map h all) (map h few)
  touched_map h g same = record {
    touched = λ z. (
      λ i.
          let w = (In-map h z few).0 i in
          let v = (is.touched w.0).0 w.1 in
          ((In-map h z all).1 (w.0, v.0, w.2), ap test (ap g w.2 ∙ same w.0) ∙ v.1),
      λ t.
          let w = (In-map h z all).0 t.0 in
          (In-map h z few).1 (w.0, (is.touched w.0).1 (w.1, ap test (sym (same w.0) ∙ ap g (sym w.2)) ∙ t.1), w.2),
    );
    rest = λ z i t.
        let w = (In-map h z all).0 i in
        (In-map h z old).1 (w.0, is.rest w.0 w.1 (ap test (sym (same w.0) ∙ ap g (sym w.2)) ∙ t), w.2);
  }

-- a set within another has no more members
pub within_length : {X : Type 0} (cmp : X → X → Ordering) → IsTotalOrder cmp → Separates cmp → (xs ys : List X) → Ascends cmp xs → Ascends cmp ys → ((x : X) → In x xs → In x ys) → length xs ≤ length ys
within_length {X = X} cmp o same xs ys up up' within =
    let p : X → Bool = has cmp xs in
    let is : xs ≡ filter p ys =
    same_by_members cmp o same xs (filter p ys) up (Ascends-filter cmp p ys up') (λ x.
    let f = In-filter p x ys in
    let h = has-In cmp o same xs x in
    (λ i. f.1 (within x i, h.1 i), λ i. h.0 ((f.0 i).1))) in
    let few = length-filter_at_most p ys in
    let long = ap (λ (zs : List X). length zs) is in
    omega (arith, few, long)
