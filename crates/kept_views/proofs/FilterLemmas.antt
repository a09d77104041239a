-- The operators part by part: what passes a test is given of what passes it.
--     filters_parted, united_parted, mapped_parted      of a filter, of two sets together, and of what a function gives of each
use Rattle.std.proofs.Common.{◌≡◌, inl, inr, Bool, true, false, not, List, [], ◌∷◌, ◌++◌, map, refl, sym, ap, ◌∙◌, cond, Ordering}
use Rattle.std.specs.Bool.{IsTrue}
use Rattle.std.specs.Cmp.{IsTotalOrder}
use Rattle.std.specs.List.{filter}
use Rattle.std.proofs.lemmas.Bool.{cases_Bool}
use Rattle.base_core.specs.Sets.{in_order, union_of, common_of, difference_of, has}
use Rattle.base_core.proofs.MemberLemmas.{In-append, In-map, In-filter}
use Rattle.base_core.proofs.SetLemmas.{In, Separates, in_order_by_members}
use Rattle.base_core.proofs.SetOperatorLemmas.{in_order-filter}
use Rattle.kept_views.proofs.PartedLemmas.{has_passing}

module _ {X : Type 0} where
  kept_first : (q : X → Bool) (x : X) (xs : List X) → q x ≡ true → filter q (x ∷ xs) ≡ x ∷ filter q xs
  kept_first q x xs e = λ t. cond (e t) (x ∷ filter q xs) (filter q xs)

  left_first : (q : X → Bool) (x : X) (xs : List X) → q x ≡ false → filter q (x ∷ xs) ≡ filter q xs
  left_first q x xs e = λ t. cond (e t) (x ∷ filter q xs) (filter q xs)

  -- two filters, of which the other one may look different where the first one passes
  pub filters_parted : (p q q' : X → Bool) (xs : List X) → ((x : X) → IsTrue (p x) → q x ≡ q' x) → filter p (filter q xs) ≡ filter q' (filter p xs)
  filters_parted p q q' [] h = refl
  filters_parted p q q' (x ∷ xs) h =
      let more = filters_parted p q q' xs h in
      elim (cases_Bool (p x)) [
        | inl e ↦ elim (cases_Bool (q x)) [
          | inl f ↦ ap (filter p) (kept_first q x xs f) ∙ kept_first p x (filter q xs) e ∙ ap (λ (ys : List X). x ∷ ys) more
              ∙ sym (ap (filter q') (kept_first p x xs e) ∙ kept_first q' x (filter p xs) (sym (h x e) ∙ f))
          | inr f ↦ ap (filter p) (left_first q x xs f) ∙ more
              ∙ sym (ap (filter q') (kept_first p x xs e) ∙ left_first q' x (filter p xs) (sym (h x e) ∙ f))
        ]
        | inr e ↦ elim (cases_Bool (q x)) [
          | inl f ↦ ap (filter p) (kept_first q x xs f) ∙ left_first p x (filter q xs) e ∙ more ∙ sym (ap (filter q') (left_first p x xs e))
          | inr f ↦ ap (filter p) (left_first q x xs f) ∙ more ∙ sym (ap (filter q') (left_first p x xs e))
        ]
      ]

module _ {X : Type 0} (cmp : X → X → Ordering) (o : IsTotalOrder cmp) (same : Separates cmp) (p : X → Bool) where
  pub united_parted : (xs ys : List X) → filter p (union_of cmp xs ys) ≡ union_of cmp (filter p xs) (filter p ys)
  united_parted xs ys =
      sym (in_order-filter cmp o same p (xs ++ ys))
      ∙ in_order_by_members cmp o same (filter p (xs ++ ys)) (filter p xs ++ filter p ys) (λ x.
      let a = In-filter p x (xs ++ ys) in
      let b = In-append x xs ys in
      let c = In-append x (filter p xs) (filter p ys) in
      let d = In-filter p x xs in
      let e = In-filter p x ys in (
        λ h. let w = a.0 h in c.1 (elim (b.0 w.0) [ inl i ↦ inl (d.1 (i, w.1)) | inr i ↦ inr (e.1 (i, w.1)) ]),
        λ h. elim (c.0 h) [ inl i ↦ let w = d.0 i in a.1 (b.1 (inl w.0), w.1) | inr i ↦ let w = e.0 i in a.1 (b.1 (inr w.0), w.1) ],
      ))

  pub common_parted : (xs ys : List X) → filter p (common_of cmp xs ys) ≡ common_of cmp (filter p xs) (filter p ys)
  common_parted xs ys = filters_parted p (has cmp ys) (has cmp (filter p ys)) xs (λ x t. sym (has_passing cmp o same p ys x t))

  pub difference_parted : (xs ys : List X) → filter p (difference_of cmp xs ys) ≡ difference_of cmp (filter p xs) (filter p ys)
  difference_parted xs ys = filters_parted p (λ x. not (has cmp ys x)) (λ x. not (has cmp (filter p ys) x)) xs (λ x t. ap not (sym (has_passing cmp o same p ys x t)))

  -- what a function gives of the members of a list, where a test of their own tells which of it passes
  pub mapped_parted : {Y : Type 0} (f : Y → X) (q : Y → Bool) (ys : List Y) → ((y : Y) → In y ys → p (f y) ≡ q y) → filter p (in_order cmp (map f ys)) ≡ in_order cmp (map f (filter q ys))
  mapped_parted f q ys tells =
      sym (in_order-filter cmp o same p (map f ys))
      ∙ in_order_by_members cmp o same (filter p (map f ys)) (map f (filter q ys)) (λ x.
      let a = In-filter p x (map f ys) in
      let b = In-map f x ys in
      let c = In-map f x (filter q ys) in (
        λ h.
            let w = a.0 h in
            let v = b.0 w.0 in
            c.1 (v.0, (In-filter q v.0 ys).1 (v.1, sym (tells v.0 v.1) ∙ ap p (sym v.2) ∙ w.1), v.2),
        λ h.
            let v = c.0 h in
            let w = (In-filter q v.0 ys).0 v.1 in
            a.1 (b.1 (v.0, w.0, v.2), ap p v.2 ∙ tells v.0 w.0 ∙ w.1),
      ))

-- no rows are some of any
pub none_kept : {X : Type 0} (xs : List X) → [] ≡ filter (λ x. false) xs
none_kept [] = refl
none_kept (x ∷ xs) = none_kept xs
