-- Lists whose members an order tells apart, and lists in which only equal members tie.
use Rattle.std.proofs.Common.{◌≡◌, ◌⊎◌, inl, inr, suc, List, [], ◌∷◌, ◌++◌, length, map, refl, sym, ap, ◌∙◌, Bool, true, false, cond, Ordering}
use Rattle.std.specs.declared.cmp.Ordering.TheVariants.{Less, Equal, Greater}
use Rattle.std.specs.Cmp.{IsTotalOrder}
use Rattle.std.specs.List.{filter, flat_map}
use Rattle.std.specs.Ordering.{ordering_reverse}
use Rattle.std.proofs.lemmas.Cmp.{tied_back}
use Rattle.base_core.specs.Sets.{placed, put, in_order}
use Rattle.base_core.proofs.SetLemmas.{In, AllAfter, Ascends}
use Rattle.base_core.proofs.MemberLemmas.{In-append, In-map, In-flat_map, In-filter}
use Rattle.base_core.proofs.SetOperatorLemmas.{AllAfter-In}

-- no two members tie
abbrev pub Apart : {X : Type 0} → (X → X → Ordering) → List X → Type 0
Apart cmp [] = Unit {0}
Apart cmp (x ∷ xs) = ((y : _) → In y xs → cmp x y ≡ Equal → ⊥) × Apart cmp xs

-- members that tie are equal
abbrev pub Tells : {X : Type 0} → (X → X → Ordering) → List X → Type 0
Tells {X} cmp xs = (x y : X) → In x xs → In y xs → cmp x y ≡ Equal → x ≡ y

module _ {X : Type 0} (cmp : X → X → Ordering) where
  -- ---- the members of a set

  from_put : (x y : X) (ys : List X) → In x (put cmp y ys) → (x ≡ y) ⊎ In x ys
  from_put x y [] h = h
  from_put x y (z ∷ zs) h =
      (elim (cmp y z) as (λ r. In x (placed r y z zs (put cmp y zs)) → (x ≡ y) ⊎ ((x ≡ z) ⊎ In x zs)) [
        | Less ↦ λ k. k
        | Equal ↦ λ k. inr k
        | Greater ↦ λ k. elim k [ inl m ↦ inr (inl m) | inr m ↦ elim (from_put x y zs m) [ inl n ↦ inl n | inr n ↦ inr (inr n) ] ]
      ]) h

  pub from_in_order : (x : X) (xs : List X) → In x (in_order cmp xs) → In x xs
  from_in_order x [] h = h
  from_in_order x (y ∷ ys) h = elim (from_put x y (in_order cmp ys) h) [ inl k ↦ inl k | inr k ↦ inr (from_in_order x ys k) ]

  into_put : (x y : X) (ys : List X) → ((z : X) → In z ys → cmp y z ≡ Equal → y ≡ z) → ((x ≡ y) ⊎ In x ys) → In x (put cmp y ys)
  into_put x y [] t h = h
  into_put x y (z ∷ zs) t h =
      (elim (cmp y z) as (λ r. cmp y z ≡ r → ((x ≡ y) ⊎ ((x ≡ z) ⊎ In x zs)) → In x (placed r y z zs (put cmp y zs))) [
        | Less ↦ λ e k. k
        | Equal ↦ λ e k. elim k [ inl m ↦ inl (m ∙ t z (inl refl) e) | inr m ↦ m ]
        | Greater ↦ λ e k. elim k [
          | inl m ↦ inr (into_put x y zs (λ w i. t w (inr i)) (inl m))
          | inr m ↦ elim m [ inl n ↦ inl n | inr n ↦ inr (into_put x y zs (λ w i. t w (inr i)) (inr n)) ]
        ]
      ]) refl h

  pub into_in_order : (x : X) (xs : List X) → Tells cmp xs → In x xs → In x (in_order cmp xs)
  into_in_order x [] t h = h
  into_in_order x (y ∷ ys) t h =
      into_put x y (in_order cmp ys) (λ z i e. t y z (inl refl) (inr (from_in_order z ys i)) e) (elim h [
        | inl k ↦ inl k
        | inr k ↦ inr (into_in_order x ys (λ u v i j. t u v (inr i) (inr j)) k)
      ])

  -- ---- how many there are

  length_put : (y : X) (ys : List X) → ((z : X) → In z ys → cmp y z ≡ Equal → ⊥) → length (put cmp y ys) ≡ suc (length ys)
  length_put y [] n = refl
  length_put y (z ∷ zs) n =
      elim (cmp y z) as (λ r. cmp y z ≡ r → length (placed r y z zs (put cmp y zs)) ≡ suc (length (z ∷ zs))) [
        | Less ↦ λ e. refl
        | Equal ↦ λ e. absurd (n z (inl refl) e)
        | Greater ↦ λ e. ap suc (length_put y zs (λ w i. n w (inr i)))
      ] refl

  pub length_apart : (xs : List X) → Apart cmp xs → length (in_order cmp xs) ≡ length xs
  length_apart [] h = refl
  length_apart (x ∷ xs) h = length_put x (in_order cmp xs) (λ z i. h.0 z (from_in_order z xs i)) ∙ ap suc (length_apart xs h.1)

  -- ---- lists that are put together or filtered

  pub Apart-append : (xs ys : List X) → Apart cmp xs → Apart cmp ys → ((x y : X) → In x xs → In y ys → cmp x y ≡ Equal → ⊥) → Apart cmp (xs ++ ys)
  Apart-append [] ys a b h = b
  Apart-append (x ∷ xs) ys a b h = (
    λ y i. elim ((In-append y xs ys).0 i) [ inl j ↦ a.0 y j | inr j ↦ h x y (inl refl) j ],
    Apart-append xs ys a.1 b (λ u v i j. h u v (inr i) j),
  )

  pub Apart-filter : (p : X → Bool) (xs : List X) → Apart cmp xs → Apart cmp (filter p xs)
  Apart-filter p [] h = tt
  Apart-filter p (x ∷ xs) h =
      elim (p x) as (λ b. Apart cmp (cond b (x ∷ filter p xs) (filter p xs))) [
        | true ↦ (λ y i. h.0 y ((In-filter p y xs).0 i).0, Apart-filter p xs h.1)
        | false ↦ Apart-filter p xs h.1
      ]

  pub apart_ascending : (xs : List X) → Ascends cmp xs → Apart cmp xs
  apart_ascending [] h = tt
  apart_ascending (x ∷ xs) h = (λ y i e. let k : Less ≡ Equal = sym ((AllAfter-In cmp x xs).0 h.0 y i) ∙ e in cc, apart_ascending xs h.1)

-- ---- lists that are mapped

pub Apart-map : {X Y : Type 0} (cmp : X → X → Ordering) (cmp' : Y → Y → Ordering) (f : X → Y) (xs : List X) → Apart cmp xs
    → ((x y : X) → In x xs → In y xs → cmp' (f x) (f y) ≡ Equal → cmp x y ≡ Equal) → Apart cmp' (map f xs)
Apart-map cmp cmp' f [] a h = tt
Apart-map cmp cmp' f (x ∷ xs) a h = (
  λ y i e. let w = (In-map f y xs).0 i in a.0 w.0 w.1 (h x w.0 (inl refl) (inr w.1) (ap (cmp' (f x)) (sym w.2) ∙ e)),
  Apart-map cmp cmp' f xs a.1 (λ u v i j. h u v (inr i) (inr j)),
)

pub Apart-flat_map : {X Y : Type 0} (cmp : X → X → Ordering) (cmp' : Y → Y → Ordering) (f : X → List Y) (xs : List X) → Apart cmp xs → ((x : X) → In x xs → Apart cmp' (f x))
    → ((x y : X) (u v : Y) → In x xs → In y xs → In u (f x) → In v (f y) → cmp' u v ≡ Equal → cmp x y ≡ Equal) → Apart cmp' (flat_map f xs)
Apart-flat_map cmp cmp' f [] a each h = tt
Apart-flat_map cmp cmp' f (x ∷ xs) a each h =
    Apart-append cmp' (f x) (flat_map f xs) (each x (inl refl)) (Apart-flat_map cmp cmp' f xs a.1 (λ y i. each y (inr i)) (λ y z u v i j. h y z u v (inr i) (inr j)))
    (λ u v i j e. let w = (In-flat_map f v xs).0 j in a.0 w.0 w.1 (h x w.0 u v (inl refl) (inr w.1) i w.2 e))

-- ---- the order of a set

module _ {X : Type 0} (cmp : X → X → Ordering) (o : IsTotalOrder cmp) where
  pub tells_ascending : (xs : List X) → Ascends cmp xs → Tells cmp xs
  tells_ascending [] a x y i j e = absurd i
  tells_ascending (z ∷ zs) a x y i j e =
      elim i [
        | inl p ↦ elim j [
          | inl q ↦ p ∙ sym q
          | inr k ↦ let w : Less ≡ Equal = sym ((AllAfter-In cmp z zs).0 a.0 y k) ∙ (ap (λ u. cmp u y) (sym p) ∙ e) in absurd (cc)
        ]
        | inr k ↦ elim j [
          | inl q ↦ let w : Less ≡ Equal = sym ((AllAfter-In cmp z zs).0 a.0 x k) ∙ (ap (λ u. cmp u x) (sym q) ∙ tied_back o x y e) in absurd (cc)
          | inr m ↦ tells_ascending zs a.1 x y k m e
        ]
      ]

  all_behind : (x y : X) (ys : List X) → cmp x y ≡ Less → AllAfter cmp y ys → AllAfter cmp x ys
  all_behind x y [] l h = tt
  all_behind x y (z ∷ zs) l h = (o.trans x y z l h.0, all_behind x y zs l h.1)

  behind_put : (x y : X) (ys : List X) → cmp x y ≡ Less → AllAfter cmp x ys → AllAfter cmp x (put cmp y ys)
  behind_put x y [] l h = (l, tt)
  behind_put x y (z ∷ zs) l h =
      elim (cmp y z) as (λ r. AllAfter cmp x (placed r y z zs (put cmp y zs))) [
        | Less ↦ (l, h)
        | Equal ↦ h
        | Greater ↦ (h.0, behind_put x y zs l h.1)
      ]

  ascends_put : (x : X) (xs : List X) → Ascends cmp xs → Ascends cmp (put cmp x xs)
  ascends_put x [] h = (tt, tt)
  ascends_put x (y ∷ ys) h =
      elim (cmp x y) as (λ r. cmp x y ≡ r → Ascends cmp (placed r x y ys (put cmp x ys))) [
        | Less ↦ λ e. ((e, all_behind x y ys e h.0), h)
        | Equal ↦ λ e. h
        | Greater ↦ λ e. (behind_put y x ys (o.antisymm y x ∙ ap ordering_reverse e) h.0, ascends_put x ys h.1)
      ] refl

  pub ascends_in_order : (xs : List X) → Ascends cmp (in_order cmp xs)
  ascends_in_order [] = tt
  ascends_in_order (x ∷ xs) = ascends_put x _ (ascends_in_order xs)
