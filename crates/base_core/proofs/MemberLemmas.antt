-- Membership in lists that are put together, mapped or filtered, and what tests of a list's members tell.
use Rattle.std.proofs.Common.{◌≡◌, ◌⊎◌, ◌↔◌, inl, inr, List, [], ◌∷◌, ◌++◌, map, refl, sym, ap, ◌∙◌, subst, Bool, true, false, cond, Ordering}
use Rattle.std.specs.Cmp.{IsTotalOrder}
use Rattle.std.specs.Bool.{IsTrue}
use Rattle.std.specs.List.{filter, flat_map, list_any, list_all}
use Rattle.std.specs.Ordering.{eq_by_cmp, is_eq}
use Rattle.std.proofs.lemmas.Bool.{and_parts, and_from, or_cases, or_left, or_right, true≢false}
use Rattle.std.proofs.lemmas.Cmp.{tied_itself}
use Rattle.base_core.specs.Sets.{has}
use Rattle.base_core.proofs.SetLemmas.{In, Separates}
use Rattle.base_core.proofs.OrderingLemmas.{is_eq-Equal}

pub In-append : {X : Type 0} (x : X) (xs ys : List X) → In x (xs ++ ys) ↔ (In x xs ⊎ In x ys)
In-append x [] ys = (λ h. inr h, λ h. elim h [ inl w ↦ absurd w | inr w ↦ w ])
In-append x (y ∷ xs) ys =
    let rest = In-append x xs ys in (
      λ h. elim h [ inl w ↦ inl (inl w) | inr w ↦ elim (rest.0 w) [ inl v ↦ inl (inr v) | inr v ↦ inr v ] ],
      λ h. elim h [ inl w ↦ elim w [ inl v ↦ inl v | inr v ↦ inr (rest.1 (inl v)) ] | inr w ↦ inr (rest.1 (inr w)) ],
    )

pub In-map : {X Y : Type 0} (f : X → Y) (y : Y) (xs : List X) → In y (map f xs) ↔ ((x : X) × In x xs × (y ≡ f x))
In-map f y [] = (λ h. absurd h, λ h. h.1)
In-map f y (x ∷ xs) =
    let rest = In-map f y xs in (
      λ h. elim h [ inl e ↦ (x, inl refl, e) | inr w ↦ let v = rest.0 w in (v.0, inr v.1, v.2) ],
      λ h. elim h.1 [ inl e ↦ inl (h.2 ∙ ap f e) | inr w ↦ inr (rest.1 (h.0, w, h.2)) ],
    )

pub In-flat_map : {X Y : Type 0} (f : X → List Y) (y : Y) (xs : List X) → In y (flat_map f xs) ↔ ((x : X) × In x xs × In y (f x))
In-flat_map f y [] = (λ h. absurd h, λ h. h.1)
In-flat_map f y (x ∷ xs) =
    let rest = In-flat_map f y xs in
    let a = In-append y (f x) (flat_map f xs) in (
      λ h. elim (a.0 h) [ inl w ↦ (x, inl refl, w) | inr w ↦ let v = rest.0 w in (v.0, inr v.1, v.2) ],
      λ h. elim h.1 [ inl e ↦ a.1 (inl (subst (λ z. In y (f z)) e h.2)) | inr w ↦ a.1 (inr (rest.1 (h.0, w, h.2))) ],
    )

pub In-filter : {X : Type 0} (p : X → Bool) (y : X) (xs : List X) → In y (filter p xs) ↔ (In y xs × IsTrue (p y))
In-filter p y [] = (λ h. absurd h, λ h. h.0)
In-filter p y (x ∷ xs) =
    let rest = In-filter p y xs in
    elim (p x) as (λ b. p x ≡ b → In y (cond b (x ∷ filter p xs) (filter p xs)) ↔ (In y (x ∷ xs) × IsTrue (p y))) [
      | true ↦ λ e. (
        λ h. elim h [ inl w ↦ (inl w, ap p w ∙ e) | inr w ↦ let v = rest.0 w in (inr v.0, v.1) ],
        λ h. elim h.0 [ inl w ↦ inl w | inr w ↦ inr (rest.1 (w, h.1)) ],
      )
      | false ↦ λ e. (
        λ h. let v = rest.0 h in (inr v.0, v.1),
        λ h. elim h.0 [ inl w ↦ absurd (true≢false (sym h.1 ∙ ap p w ∙ e)) | inr w ↦ rest.1 (w, h.1) ],
      )
    ] refl

-- each member passes, and some member passes
pub list_all-In : {X : Type 0} (p : X → Bool) (xs : List X) → IsTrue (list_all p xs) ↔ ((x : X) → In x xs → IsTrue (p x))
list_all-In p [] = (λ e x h. absurd h, λ h. refl)
list_all-In p (x ∷ xs) =
    let rest = list_all-In p xs in (
      λ e y h. let w = and_parts (p x) (list_all p xs) e in elim h [ inl v ↦ ap p v ∙ w.0 | inr v ↦ rest.0 w.1 y v ],
      λ h. and_from (p x) (list_all p xs) (h x (inl refl)) (rest.1 (λ y m. h y (inr m))),
    )

pub list_any-In : {X : Type 0} (p : X → Bool) (xs : List X) → IsTrue (list_any p xs) ↔ ((x : X) × In x xs × IsTrue (p x))
list_any-In p [] = (λ e. absurd (true≢false (sym e)), λ h. absurd h.1)
list_any-In p (x ∷ xs) =
    let rest = list_any-In p xs in (
      λ e. elim (or_cases (p x) (list_any p xs) e) [ inl w ↦ (x, inl refl, w) | inr w ↦ let v = rest.0 w in (v.0, inr v.1, v.2) ],
      λ h. elim h.1 [
        | inl w ↦ or_left (p x) _ (ap p (sym w) ∙ h.2)
        | inr w ↦ or_right (p x) _ (rest.1 (h.0, w, h.2))
      ],
    )

module _ {X : Type 0} (cmp : X → X → Ordering) (o : IsTotalOrder cmp) (same : Separates cmp) where
  pub eq_by_cmp-≡ : (x y : X) → IsTrue (eq_by_cmp cmp x y) ↔ (x ≡ y)
  eq_by_cmp-≡ x y = (λ e. same x y (is_eq-Equal (cmp x y) e), λ e. subst (λ z. is_eq (cmp x z) ≡ true) e (ap is_eq (tied_itself o x)))

  pub has-In : (xs : List X) (x : X) → IsTrue (has cmp xs x) ↔ In x xs
  has-In xs x =
      let w = list_any-In (eq_by_cmp cmp x) xs in (
        λ e. let v = w.0 e in subst (λ z. In z xs) (sym ((eq_by_cmp-≡ x v.0).0 v.2)) v.1,
        λ h. w.1 (x, h, (eq_by_cmp-≡ x x).1 refl),
      )
