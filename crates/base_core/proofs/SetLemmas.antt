-- `in_order` gives the members in order, each once, and such a list is given by its members.
use Rattle.std.proofs.Common.{◌≡◌, ◌⊎◌, ◌↔◌, inl, inr, List, [], ◌∷◌, refl, sym, ap, ap₂, ◌∙◌, subst, Ordering, Less, Equal, Greater, ℕ, zero, suc, ◌<◌, length, get_or, arith, Bool, true}
use Rattle.std.specs.Cmp.{IsTotalOrder, IsEquivalence, Equal-is, eq_by_cmp_equiv}
use Rattle.std.specs.Ordering.{ordering_reverse}
use Rattle.std.specs.Ordering.{eq_by_cmp}
use Rattle.std.specs.List.{AllByRecursion, Contains, dedup}
use Rattle.std.specs.List.Sorted.{IsStrictlySortedBy, IsPermutation, IsSorted}
use Rattle.std.proofs.lemmas.List.Kept.{IsStrictlySortedBy-dedup, Contains-dedup, Contains-from_dedup}
use Rattle.std.proofs.lemmas.List.Sorted.{Contains-permutation, IsPermutation-sym}
use Rattle.base_core.specs.Sets.{placed, put, in_order}
use Rattle.base_core.proofs.OrderingLemmas.{not_before_itself}

-- x is among the members of the list
abbrev pub In : {X : Type 0} → X → List X → Type 0
In x [] = ⊥
In x (y ∷ ys) = (x ≡ y) ⊎ In x ys

-- each member comes after x
abbrev pub AllAfter : {X : Type 0} → (X → X → Ordering) → X → List X → Type 0
AllAfter cmp x [] = Unit {0}
AllAfter cmp x (y ∷ ys) = (cmp x y ≡ Less) × AllAfter cmp x ys

-- in order, each once
abbrev pub Ascends : {X : Type 0} → (X → X → Ordering) → List X → Type 0
Ascends cmp [] = Unit {0}
Ascends cmp (x ∷ xs) = AllAfter cmp x xs × Ascends cmp xs

-- only a value itself stands at its place
abbrev pub Separates : {X : Type 0} → (X → X → Ordering) → Type 0
Separates {X} cmp = (x y : X) → cmp x y ≡ Equal → x ≡ y

module _ {X : Type 0} (cmp : X → X → Ordering) (o : IsTotalOrder cmp) (same : Separates cmp) where
  pub In-put : (x y : X) (ys : List X) → In x (put cmp y ys) ↔ ((x ≡ y) ⊎ In x ys)
  In-put x y [] = (λ h. h, λ h. h)
  In-put x y (z ∷ zs) =
      elim (cmp y z) as (λ r. cmp y z ≡ r → In x (placed r y z zs (put cmp y zs)) ↔ ((x ≡ y) ⊎ ((x ≡ z) ⊎ In x zs))) [
        | Less ↦ λ e. (λ h. h, λ h. h)
        | Equal ↦ λ e. (λ h. inr h, elim [ inl h ↦ inl (h ∙ same y z e) | inr h ↦ h ])
        | Greater ↦ λ e. (
          elim [ inl h ↦ inr (inl h) | inr h ↦ elim ((In-put x y zs).0 h) [ inl k ↦ inl k | inr k ↦ inr (inr k) ] ],
          elim [ inl h ↦ inr ((In-put x y zs).1 (inl h)) | inr h ↦ elim h [ inl k ↦ inl k | inr k ↦ inr ((In-put x y zs).1 (inr k)) ] ],
        )
      ] refl

  pub In-in_order : (x : X) (xs : List X) → In x (in_order cmp xs) ↔ In x xs
  In-in_order x [] = (λ h. h, λ h. h)
  In-in_order x (y ∷ ys) = (
    λ h. elim ((In-put x y (in_order cmp ys)).0 h) [ inl k ↦ inl k | inr k ↦ inr ((In-in_order x ys).0 k) ],
    elim [ inl k ↦ (In-put x y (in_order cmp ys)).1 (inl k) | inr k ↦ (In-put x y (in_order cmp ys)).1 (inr ((In-in_order x ys).1 k)) ],
  )

  pub after_trans : (x y : X) (ys : List X) → cmp x y ≡ Less → AllAfter cmp y ys → AllAfter cmp x ys
  after_trans x y [] l h = tt
  after_trans x y (z ∷ zs) l h = (o.trans x y z l h.0, after_trans x y zs l h.1)

  after-put : (x y : X) (ys : List X) → cmp x y ≡ Less → AllAfter cmp x ys → AllAfter cmp x (put cmp y ys)
  after-put x y [] l h = (l, tt)
  after-put x y (z ∷ zs) l h =
      elim (cmp y z) as (λ r. AllAfter cmp x (placed r y z zs (put cmp y zs))) [
        | Less ↦ (l, h)
        | Equal ↦ h
        | Greater ↦ (h.0, after-put x y zs l h.1)
      ]

  pub Ascends-put : (x : X) (xs : List X) → Ascends cmp xs → Ascends cmp (put cmp x xs)
  Ascends-put x [] h = (tt, tt)
  Ascends-put x (y ∷ ys) h =
      elim (cmp x y) as (λ r. cmp x y ≡ r → Ascends cmp (placed r x y ys (put cmp x ys))) [
        | Less ↦ λ e. ((e, after_trans x y ys e h.0), h)
        | Equal ↦ λ e. h
        | Greater ↦ λ e. (after-put y x ys (o.antisymm y x ∙ ap ordering_reverse e) h.0, Ascends-put x ys h.1)
      ] refl

  pub Ascends-in_order : (xs : List X) → Ascends cmp (in_order cmp xs)
  Ascends-in_order [] = tt
  Ascends-in_order (x ∷ xs) = Ascends-put x _ (Ascends-in_order xs)

  pub in_after : (x y : X) (ys : List X) → AllAfter cmp x ys → In y ys → cmp x y ≡ Less
  in_after x y [] h i = absurd i
  in_after x y (z ∷ zs) h i = elim i [ inl e ↦ ap (cmp x) e ∙ h.0 | inr k ↦ in_after x y zs h.1 k ]

  not_both : (x y : X) → cmp x y ≡ Less → cmp y x ≡ Less → ⊥
  not_both x y l m = not_before_itself cmp o x (o.trans x y x l m)

  -- two lists in order with the same members are one
  pub same_by_members : (xs ys : List X) → Ascends cmp xs → Ascends cmp ys → ((x : X) → In x xs ↔ In x ys) → xs ≡ ys
  same_by_members [] [] a b h = refl
  same_by_members [] (y ∷ ys) a b h = absurd ((h y).1 (inl refl))
  same_by_members (x ∷ xs) [] a b h = absurd ((h x).0 (inl refl))
  same_by_members (x ∷ xs) (y ∷ ys) a b h =
      let heads : x ≡ y = elim ((h x).0 (inl refl)) [
        | inl e ↦ e
        | inr i ↦ elim ((h y).1 (inl refl)) [ inl e ↦ sym e | inr j ↦ absurd (not_both x y (in_after x y xs a.0 j) (in_after y x ys b.0 i)) ]
      ] in
      let tails : (z : X) → In z xs ↔ In z ys = λ z. (
        λ i. elim ((h z).0 (inr i)) [ inl e ↦ absurd (not_before_itself cmp o x (subst (λ w. cmp x w ≡ Less) (e ∙ sym heads) (in_after x z xs a.0 i))) | inr j ↦ j ],
        λ i. elim ((h z).1 (inr i)) [ inl e ↦ absurd (not_before_itself cmp o y (subst (λ w. cmp y w ≡ Less) (e ∙ heads) (in_after y z ys b.0 i))) | inr j ↦ j ],
      ) in
      ap₂ (λ u us. u ∷ us) heads (same_by_members xs ys a.1 b.1 tails)

  pub in_order_by_members : (xs ys : List X) → ((x : X) → In x xs ↔ In x ys) → in_order cmp xs ≡ in_order cmp ys
  in_order_by_members xs ys h = same_by_members _ _ (Ascends-in_order xs) (Ascends-in_order ys)
      (λ x. (λ i. (In-in_order x ys).1 ((h x).0 ((In-in_order x xs).0 i)), λ i. (In-in_order x xs).1 ((h x).1 ((In-in_order x ys).0 i))))

  -- a list in order, each once, is its own normal form
  pub in_order_of_ascending : (xs : List X) → Ascends cmp xs → in_order cmp xs ≡ xs
  in_order_of_ascending xs a = same_by_members _ _ (Ascends-in_order xs) a (λ x. In-in_order x xs)

-- std's word for membership
pub In-from_Contains : {X : Type 0} (xs : List X) (x : X) → Contains xs x → In x xs
In-from_Contains xs x h = at xs h.0 h.1 h.2
  where
    at : (ys : List _) (k : ℕ) → k < length ys → get_or ys k x ≡ x → In x ys
    at [] k l e = absurd (omega arith)
    at (y ∷ ys) zero l e = inl (sym e)
    at (y ∷ ys) (suc k) l e = inr (at ys k (omega arith) e)

pub Contains-from_In : {X : Type 0} (xs : List X) (x : X) → In x xs → Contains xs x
Contains-from_In [] x i = absurd i
Contains-from_In (y ∷ ys) x i =
    elim i [
      | inl e ↦ (0, omega arith, sym e)
      | inr j ↦ let h = Contains-from_In ys x j in (suc h.0, omega (arith, h.1), h.2)
    ]

pub Ascends-from_sorted : {X : Type 0} (cmp : X → X → Ordering) (xs : List X) → IsStrictlySortedBy cmp xs → Ascends cmp xs
unfolding IsStrictlySortedBy
Ascends-from_sorted cmp [] h = tt
Ascends-from_sorted cmp (x ∷ xs) h = (each xs h.0, Ascends-from_sorted cmp xs h.1)
  where
    each : (ys : List _) → AllByRecursion (λ y. cmp x y ≡ Less) ys → AllAfter cmp x ys
    each [] h = tt
    each (y ∷ ys) h = (h.0, each ys h.1)

-- a sort and a `dedup` give the normal form
pub in_order_of_sorted : {X : Type 0} (cmp : X → X → Ordering) (o : IsTotalOrder cmp) (same : Separates cmp) (eq : X → X → Bool) → ((x y : X) → eq x y ≡ eq_by_cmp cmp x y)
    → (xs ys : List X) → IsPermutation xs ys → IsSorted cmp ys → dedup eq ys ≡ in_order cmp xs
in_order_of_sorted cmp o same eq ties xs ys moved sorted =
    let equiv : IsEquivalence eq = subst IsEquivalence (λ i x y. sym (ties x y) i) (eq_by_cmp_equiv o) in
    let same_eq : (x y : _) → eq x y ≡ true → x ≡ y = λ x y e. same x y ((Equal-is (cmp x y)).0 (sym (ties x y) ∙ e)) in
    same_by_members cmp o same (dedup eq ys) (in_order cmp xs)
    (Ascends-from_sorted cmp (dedup eq ys) (IsStrictlySortedBy-dedup o ties ys sorted)) (Ascends-in_order cmp o same xs)
    (λ x. (
      λ i. (In-in_order cmp o same x xs).1 (In-from_Contains xs x (Contains-permutation ys xs x (IsPermutation-sym xs ys moved) (Contains-from_dedup eq ys x (Contains-from_In (dedup eq ys) x i)))),
      λ i. In-from_Contains (dedup eq ys) x (Contains-dedup equiv same_eq ys x (Contains-permutation xs ys x moved (Contains-from_In xs x ((In-in_order cmp o same x xs).0 i)))),
    ))
