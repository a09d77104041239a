-- The members of the sets that the operators on sets give, and the tests of two sets.
use Rattle.std.proofs.Common.{◌≡◌, ◌⊎◌, ◌↔◌, inl, inr, ◌≤◌, List, [], ◌∷◌, ◌++◌, length, map, refl, sym, ap, ◌∙◌, subst, arith, Bool, true, false, cond, not, Ordering}
use Rattle.std.specs.declared.cmp.Ordering.TheVariants.{Less, Equal, Greater}
use Rattle.std.specs.Cmp.{IsTotalOrder}
use Rattle.std.specs.Bool.{IsTrue}
use Rattle.std.specs.List.{filter, flat_map, list_any, list_all}
use Rattle.std.specs.Ordering.{is_lt, is_eq}
use Rattle.std.specs.List.Sorted.{IsPermutation}
use Rattle.std.proofs.lemmas.List.Sorted.{Contains-permutation, IsPermutation-sym}
use Rattle.std.proofs.lemmas.Bool.{and_parts, and_from, not-true, not_from_false, false_from_ne_true, both_ways, true≢false}
use Rattle.base_core.specs.Sets.{placed, put, in_order, is_set, is_set_after, has, union_of, common_of, difference_of, is_within, are_same}
use Rattle.base_core.proofs.SetLemmas.{In, AllAfter, Ascends, Separates, In-in_order, Ascends-in_order, in_order_by_members, in_order_of_ascending, same_by_members, In-from_Contains, Contains-from_In}
use Rattle.base_core.proofs.MemberLemmas.{In-append, In-flat_map, In-filter, list_all-In, list_any-In, has-In}

-- tests that pass together are one
pub same_tests : (a b : Bool) → IsTrue a ↔ IsTrue b → a ≡ b
same_tests true b h = sym (h.0 refl)
same_tests false true h = h.1 refl
same_tests false false h = refl

pub In-permutation : {X : Type 0} (xs ys : List X) (x : X) → IsPermutation xs ys → In x xs → In x ys
In-permutation xs ys x moved i = In-from_Contains ys x (Contains-permutation xs ys x moved (Contains-from_In xs x i))

-- ---- lists in order

AllAfter-filter : {X : Type 0} (cmp : X → X → Ordering) (p : X → Bool) (x : X) (xs : List X) → AllAfter cmp x xs → AllAfter cmp x (filter p xs)
AllAfter-filter cmp p x [] h = tt
AllAfter-filter cmp p x (y ∷ ys) h =
    elim (p y) as (λ b. AllAfter cmp x (cond b (y ∷ filter p ys) (filter p ys))) [
      | true ↦ (h.0, AllAfter-filter cmp p x ys h.1)
      | false ↦ AllAfter-filter cmp p x ys h.1
    ]

pub Ascends-filter : {X : Type 0} (cmp : X → X → Ordering) (p : X → Bool) (xs : List X) → Ascends cmp xs → Ascends cmp (filter p xs)
Ascends-filter cmp p [] h = tt
Ascends-filter cmp p (x ∷ xs) h =
    elim (p x) as (λ b. Ascends cmp (cond b (x ∷ filter p xs) (filter p xs))) [
      | true ↦ (AllAfter-filter cmp p x xs h.0, Ascends-filter cmp p xs h.1)
      | false ↦ Ascends-filter cmp p xs h.1
    ]

AllAfter-map : {X Y : Type 0} (cmp : X → X → Ordering) (cmp' : Y → Y → Ordering) (f : X → Y) → ((x y : X) → cmp x y ≡ Less → cmp' (f x) (f y) ≡ Less)
    → (x : X) (xs : List X) → AllAfter cmp x xs → AllAfter cmp' (f x) (map f xs)
AllAfter-map cmp cmp' f keeps x [] h = tt
AllAfter-map cmp cmp' f keeps x (y ∷ ys) h = (keeps x y h.0, AllAfter-map cmp cmp' f keeps x ys h.1)

-- a function that keeps the order
pub Ascends-map : {X Y : Type 0} (cmp : X → X → Ordering) (cmp' : Y → Y → Ordering) (f : X → Y) → ((x y : X) → cmp x y ≡ Less → cmp' (f x) (f y) ≡ Less)
    → (xs : List X) → Ascends cmp xs → Ascends cmp' (map f xs)
Ascends-map cmp cmp' f keeps [] h = tt
Ascends-map cmp cmp' f keeps (x ∷ xs) h = (AllAfter-map cmp cmp' f keeps x xs h.0, Ascends-map cmp cmp' f keeps xs h.1)

-- all members come after x
pub AllAfter-In : {X : Type 0} (cmp : X → X → Ordering) (x : X) (xs : List X) → AllAfter cmp x xs ↔ ((y : X) → In y xs → cmp x y ≡ Less)
AllAfter-In cmp x [] = (λ h y i. absurd i, λ h. tt)
AllAfter-In cmp x (z ∷ zs) =
    let rest = AllAfter-In cmp x zs in (
      λ h y i. elim i [ inl e ↦ ap (cmp x) e ∙ h.0 | inr j ↦ rest.0 h.1 y j ],
      λ h. (h z (inl refl), rest.1 (λ y i. h y (inr i))),
    )

pub Ascends-append : {X : Type 0} (cmp : X → X → Ordering) (xs ys : List X) → Ascends cmp xs → Ascends cmp ys → ((x y : X) → In x xs → In y ys → cmp x y ≡ Less) → Ascends cmp (xs ++ ys)
Ascends-append cmp [] ys a b h = b
Ascends-append cmp (x ∷ xs) ys a b h = (
  (AllAfter-In cmp x (xs ++ ys)).1 (λ y i. elim ((In-append y xs ys).0 i) [ inl j ↦ (AllAfter-In cmp x xs).0 a.0 y j | inr j ↦ h x y (inl refl) j ]),
  Ascends-append cmp xs ys a.1 b (λ u v i j. h u v (inr i) j),
)

pub is_lt-Less : (r : Ordering) → IsTrue (is_lt r) ↔ (r ≡ Less)
is_lt-Less Less = (λ e. refl, λ e. refl)
is_lt-Less Equal = (λ e. absurd (true≢false (sym e)), λ e. cc)
is_lt-Less Greater = (λ e. absurd (true≢false (sym e)), λ e. cc)

module _ {X : Type 0} (cmp : X → X → Ordering) (o : IsTotalOrder cmp) where
  is_set_after-Ascends : (x : X) (xs : List X) → IsTrue (is_set_after cmp x xs) ↔ (AllAfter cmp x xs × Ascends cmp xs)
  is_set_after-Ascends x [] = (λ e. (tt, tt), λ h. refl)
  is_set_after-Ascends x (y ∷ ys) =
      let rest = is_set_after-Ascends y ys in
      let first = is_lt-Less (cmp x y) in (
        λ e. let w = and_parts (is_lt (cmp x y)) (is_set_after cmp y ys) e in
            let l = first.0 w.0 in
            let h = rest.0 w.1 in
            ((l, (AllAfter-In cmp x ys).1 (λ z i. o.trans x y z l ((AllAfter-In cmp y ys).0 h.0 z i))), h),
        λ h. and_from (is_lt (cmp x y)) (is_set_after cmp y ys) (first.1 h.0.0) (rest.1 h.1),
      )

  pub is_set-Ascends : (xs : List X) → IsTrue (is_set cmp xs) ↔ Ascends cmp xs
  is_set-Ascends [] = (λ e. tt, λ h. refl)
  is_set-Ascends (x ∷ xs) = is_set_after-Ascends x xs

-- ---- operators and tests

module _ {X : Type 0} (cmp : X → X → Ordering) (o : IsTotalOrder cmp) (same : Separates cmp) where
  pub In-union_of : (x : X) (xs ys : List X) → In x (union_of cmp xs ys) ↔ (In x xs ⊎ In x ys)
  In-union_of x xs ys =
      let w = In-in_order cmp o same x (xs ++ ys) in
      let v = In-append x xs ys in
      (λ h. v.0 (w.0 h), λ h. w.1 (v.1 h))

  pub In-common_of : (x : X) (xs ys : List X) → In x (common_of cmp xs ys) ↔ (In x xs × In x ys)
  In-common_of x xs ys =
      let w = In-filter (has cmp ys) x xs in
      let v = has-In cmp o same ys x in
      (λ h. let k = w.0 h in (k.0, v.0 k.1), λ h. w.1 (h.0, v.1 h.1))

  pub In-difference_of : (x : X) (xs ys : List X) → In x (difference_of cmp xs ys) ↔ (In x xs × (In x ys → ⊥))
  In-difference_of x xs ys =
      let w = In-filter (λ y. not (has cmp ys y)) x xs in
      let v = has-In cmp o same ys x in (
        λ h. let k = w.0 h in (k.0, λ i. both_ways (has cmp ys x) (not-true (has cmp ys x) k.1) (v.1 i)),
        λ h. w.1 (h.0, not_from_false (has cmp ys x) (false_from_ne_true (has cmp ys x) (λ e. h.1 (v.0 e)))),
      )

  pub Ascends-union_of : (xs ys : List X) → Ascends cmp (union_of cmp xs ys)
  Ascends-union_of xs ys = Ascends-in_order cmp o same (xs ++ ys)

  pub Ascends-common_of : (xs ys : List X) → Ascends cmp xs → Ascends cmp (common_of cmp xs ys)
  Ascends-common_of xs ys = Ascends-filter cmp (has cmp ys) xs

  pub Ascends-difference_of : (xs ys : List X) → Ascends cmp xs → Ascends cmp (difference_of cmp xs ys)
  Ascends-difference_of xs ys = Ascends-filter cmp (λ x. not (has cmp ys x)) xs

  pub is_within-In : (xs ys : List X) → IsTrue (is_within cmp xs ys) ↔ ((x : X) → In x xs → In x ys)
  is_within-In xs ys =
      let w = list_all-In (has cmp ys) xs in
      (λ e x i. (has-In cmp o same ys x).0 (w.0 e x i), λ h. w.1 (λ x i. (has-In cmp o same ys x).1 (h x i)))

  pub are_same-In : (xs ys : List X) → IsTrue (are_same cmp xs ys) ↔ ((x : X) → In x xs ↔ In x ys)
  are_same-In xs ys =
      let a = is_within-In xs ys in
      let b = is_within-In ys xs in (
        λ e x. let w = and_parts (is_within cmp xs ys) (is_within cmp ys xs) e in (a.0 w.0 x, b.0 w.1 x),
        λ h. and_from (is_within cmp xs ys) (is_within cmp ys xs) (a.1 (λ x i. (h x).0 i)) (b.1 (λ x i. (h x).1 i)),
      )

  -- sets with the same members are one
  pub are_same-≡ : (xs ys : List X) → Ascends cmp xs → Ascends cmp ys → IsTrue (are_same cmp xs ys) ↔ (xs ≡ ys)
  are_same-≡ xs ys a b =
      let w = are_same-In xs ys in (
        λ e. same_by_members cmp o same xs ys a b (w.0 e),
        λ e. w.1 (λ x. (λ i. subst (λ zs. In x zs) e i, λ i. subst (λ zs. In x zs) (sym e) i)),
      )

  -- ---- `in_order` of lists that are put together, mapped or filtered

  pub in_order-in_order : (xs : List X) → in_order cmp (in_order cmp xs) ≡ in_order cmp xs
  in_order-in_order xs = in_order_of_ascending cmp o same (in_order cmp xs) (Ascends-in_order cmp o same xs)

  pub in_order-append : (xs ys : List X) → in_order cmp (in_order cmp xs ++ in_order cmp ys) ≡ in_order cmp (xs ++ ys)
  in_order-append xs ys = in_order_by_members cmp o same _ _ (λ x.
      let a = In-append x (in_order cmp xs) (in_order cmp ys) in
      let b = In-append x xs ys in
      let u = In-in_order cmp o same x xs in
      let v = In-in_order cmp o same x ys in (
        λ h. b.1 (elim (a.0 h) [ inl i ↦ inl (u.0 i) | inr i ↦ inr (v.0 i) ]),
        λ h. a.1 (elim (b.0 h) [ inl i ↦ inl (u.1 i) | inr i ↦ inr (v.1 i) ]),
      ))

  pub in_order-filter : (p : X → Bool) (xs : List X) → in_order cmp (filter p xs) ≡ filter p (in_order cmp xs)
  in_order-filter p xs = same_by_members cmp o same _ _ (Ascends-in_order cmp o same (filter p xs)) (Ascends-filter cmp p (in_order cmp xs) (Ascends-in_order cmp o same xs)) (λ x.
      let a = In-in_order cmp o same x (filter p xs) in
      let b = In-filter p x xs in
      let c = In-filter p x (in_order cmp xs) in
      let d = In-in_order cmp o same x xs in (
        λ h. let w = b.0 (a.0 h) in c.1 (d.1 w.0, w.1),
        λ h. let w = c.0 h in a.1 (b.1 (d.0 w.0, w.1)),
      ))

  -- two functions that give the same members at each member of lists with the same members
  pub in_order-flat_map : {Y : Type 0} (f g : Y → List X) (ys zs : List Y) → ((y : Y) → In y ys ↔ In y zs) → ((y : Y) → In y ys → (x : X) → In x (f y) ↔ In x (g y))
      → in_order cmp (flat_map f ys) ≡ in_order cmp (flat_map g zs)
  in_order-flat_map f g ys zs members each = in_order_by_members cmp o same _ _ (λ x.
      let a = In-flat_map f x ys in
      let b = In-flat_map g x zs in (
        λ h. let w = a.0 h in b.1 (w.0, (members w.0).0 w.1, (each w.0 w.1 x).0 w.2),
        λ h. let w = b.0 h in let i = (members w.0).1 w.1 in a.1 (w.0, i, (each w.0 i x).1 w.2),
      ))

  -- a test of the members of a list is one of the set that it makes
  pub list_all-in_order : (p : X → Bool) (xs : List X) → list_all p (in_order cmp xs) ≡ list_all p xs
  list_all-in_order p xs =
      let a = list_all-In p (in_order cmp xs) in
      let b = list_all-In p xs in
      same_tests _ _ (
        λ e. b.1 (λ x i. a.0 e x ((In-in_order cmp o same x xs).1 i)),
        λ e. a.1 (λ x i. b.0 e x ((In-in_order cmp o same x xs).0 i)),
      )

  pub list_any-in_order : (p : X → Bool) (xs : List X) → list_any p (in_order cmp xs) ≡ list_any p xs
  list_any-in_order p xs =
      let a = list_any-In p (in_order cmp xs) in
      let b = list_any-In p xs in
      same_tests _ _ (
        λ e. let w = a.0 e in b.1 (w.0, (In-in_order cmp o same w.0 xs).0 w.1, w.2),
        λ e. let w = b.0 e in a.1 (w.0, (In-in_order cmp o same w.0 xs).1 w.1, w.2),
      )

  pub has-in_order : (xs : List X) (x : X) → has cmp (in_order cmp xs) x ≡ has cmp xs x
  has-in_order xs x = list_any-in_order (λ y. is_eq (cmp x y)) xs

  pub in_order-permutation : (xs ys : List X) → IsPermutation xs ys → in_order cmp xs ≡ in_order cmp ys
  in_order-permutation xs ys moved = in_order_by_members cmp o same xs ys (λ x. (In-permutation xs ys x moved, In-permutation ys xs x (IsPermutation-sym xs ys moved)))

  -- what each member gives, put in order before or not
  pub in_order-flat_map_in_order : {Y : Type 0} (f : Y → List X) (ys : List Y) → in_order cmp (flat_map (λ y. in_order cmp (f y)) ys) ≡ in_order cmp (flat_map f ys)
  in_order-flat_map_in_order f ys = in_order-flat_map (λ y. in_order cmp (f y)) f ys ys (λ y. (λ i. i, λ i. i)) (λ y i x. In-in_order cmp o same x (f y))

length-put : {X : Type 0} (cmp : X → X → Ordering) (x : X) (xs : List X) → length (put cmp x xs) ≤ length (x ∷ xs)
length-put cmp x [] = omega arith
length-put cmp x (y ∷ ys) =
    elim (cmp x y) as (λ r. length (placed r x y ys (put cmp x ys)) ≤ length (x ∷ y ∷ ys)) [
      | Less ↦ omega arith
      | Equal ↦ omega arith
      | Greater ↦ let h = length-put cmp x ys in omega (arith, h)
    ]

-- a set has at most as many members as the list that it comes from
pub length-in_order : {X : Type 0} (cmp : X → X → Ordering) (xs : List X) → length (in_order cmp xs) ≤ length xs
length-in_order cmp [] = omega arith
length-in_order cmp (x ∷ xs) =
    let h = length-in_order cmp xs in
    let k = length-put cmp x (in_order cmp xs) in
    omega (arith, h, k)
