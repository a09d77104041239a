-- Strictly sorted lists with the same members are one.
use Rattle.std.proofs.Common.{◌≡◌, List, [], ◌∷◌, ◌↔◌, ◌⊎◌, inl, inr, sym, subst, refl, ◌∙◌, Ordering}
use Rattle.std.specs.declared.cmp.Ordering.TheVariants.{Less}
use Rattle.std.specs.Cmp.{IsTotalOrder}
use Rattle.std.specs.List.{AllByRecursion}
use Rattle.std.specs.List.Sorted.{IsStrictlySortedBy}
use Rattle.base_core.proofs.OrderingLemmas.{not_before_itself}
use Rattle.cell_packing.specs.Covering.{Among}

module _ {K : Type 0} (R : K → K → Ordering) (o : IsTotalOrder R) where
  all_at : (P : K → Type 0) (xs : List K) (x : K) → AllByRecursion P xs → Among x xs → P x
  all_at P [] x h g = absurd g
  all_at P (y ∷ ys) x h g = elim g [ inl e ↦ subst P e h.0 | inr m ↦ all_at P ys x h.1 m ]

  first_least : (x : K) (xs : List K) (y : K) → IsStrictlySortedBy R (x ∷ xs) → Among y (x ∷ xs) → (x ≡ y) ⊎ (R x y ≡ Less)
  unfolding IsStrictlySortedBy
  first_least x xs y s m = elim m [ inl e ↦ inl e | inr w ↦ inr (all_at (λ z. R x z ≡ Less) xs y s.0 w) ]

  one_first : (x : K) (xs : List K) (y : K) (ys : List K) → IsStrictlySortedBy R (x ∷ xs) → IsStrictlySortedBy R (y ∷ ys) → Among y (x ∷ xs) → Among x (y ∷ ys) → x ≡ y
  one_first x xs y ys s t m n =
      elim (first_least x xs y s m) [
        | inl e ↦ e
        | inr l ↦ elim (first_least y ys x t n) [ inl e ↦ sym e | inr k ↦ absurd (not_before_itself R o x (o.trans x y x l k)) ]
      ]

  in_rest : (x : K) (xs : List K) (y : K) (ys : List K) → IsStrictlySortedBy R (x ∷ xs) → x ≡ y → (z : K) → Among z xs → Among z (y ∷ ys) → Among z ys
  unfolding IsStrictlySortedBy
  in_rest x xs y ys s e z m n =
      elim n [
        | inl q ↦ absurd (not_before_itself R o x (subst (λ w. R x w ≡ Less) (sym (e ∙ q)) (all_at (λ w. R x w ≡ Less) xs z s.0 m)))
        | inr w ↦ w
      ]

  rest_of : (x : K) (xs : List K) → IsStrictlySortedBy R (x ∷ xs) → IsStrictlySortedBy R xs
  unfolding IsStrictlySortedBy
  rest_of x xs s = s.1

  pub same_sorted : (xs ys : List K) → IsStrictlySortedBy R xs → IsStrictlySortedBy R ys → ((z : K) → Among z xs ↔ Among z ys) → xs ≡ ys
  same_sorted [] [] s t e = refl
  same_sorted [] (y ∷ ys) s t e = absurd ((e y).1 (inl refl))
  same_sorted (x ∷ xs) [] s t e = absurd ((e x).0 (inl refl))
  same_sorted (x ∷ xs) (y ∷ ys) s t e =
      let f = one_first x xs y ys s t ((e y).1 (inl refl)) ((e x).0 (inl refl)) in
      let r = same_sorted xs ys (rest_of x xs s) (rest_of y ys t) (λ z. (
        λ m. in_rest x xs y ys s f z m ((e z).0 (inr m)),
        λ m. in_rest y ys x xs t (sym f) z m ((e z).1 (inr m)),
      )) in
      λ i. f i ∷ r i
