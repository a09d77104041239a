-- Lists of which one member's part is left out.
--     split-at      a member parts its list
--     gathered      what some members give, as what all give
--     cut-from, kept-whole      a filter that leaves out just what one member gives
--     none-given      a member that gives nothing may be left out
--     distinct-apart, distinct-without, distinct-join      lists without repeats that are put together
use Rattle.std.proofs.Common.{◌≡◌, inl, inr, Bool, true, false, cond, List, [], ◌∷◌, ◌++◌, map, refl, sym, ap, ap₂, ◌∙◌, subst, append_assoc, append-nil}
use Rattle.std.specs.List.{filter, flat_map, AllByRecursion, IsDistinct}
pub use Rattle.std.proofs.lemmas.List.Concat.{flat_map-append as given-both}
use Rattle.std.proofs.lemmas.List.Elements.{filter-append}
use Rattle.base_core.proofs.MemberLemmas.{In-append}
use Rattle.base_core.proofs.SetLemmas.{In}
use Rattle.relation_core.proofs.FilterLemmas.{filter_all}
use Rattle.since_during.proofs.PlaceLemmas.{each-from}

-- ---- members

-- a member parts the list
pub split-at : {X : Type 0} (x : X) (xs : List X) → In x xs → (front : List X) × (back : List X) × (xs ≡ front ++ x ∷ back)
split-at x [] i = absurd i
split-at {X} x (y ∷ ys) i = elim i [
  | inl e ↦ ([], ys, λ j. sym e j ∷ ys)
  | inr k ↦ let s = split-at x ys k in (y ∷ s.0, s.1, ap (λ (l : List X). y ∷ l) s.2)
]

pub in-front : {X : Type 0} (x y : X) (front back : List X) → In x front → In x (front ++ y ∷ back)
in-front x y front back i = (In-append x front (y ∷ back)).1 (inl i)

pub in-back : {X : Type 0} (x y : X) (front back : List X) → In x back → In x (front ++ y ∷ back)
in-back x y front back i = (In-append x front (y ∷ back)).1 (inr (inr i))

pub in-middle : {X : Type 0} (y : X) (front back : List X) → In y (front ++ y ∷ back)
in-middle y front back = (In-append y front (y ∷ back)).1 (inr (inl refl))

-- a member of what is left of both sides is one of all
pub in-both : {X : Type 0} (x y : X) (front back : List X) → In x (front ++ back) → In x (front ++ y ∷ back)
in-both x y front back i = elim ((In-append x front back).0 i) [
  | inl j ↦ in-front x y front back j
  | inr j ↦ in-back x y front back j
]

-- ---- filters

pub filter-map : {X Y : Type 0} (p : Y → Bool) (q : X → Bool) (f : X → Y) (xs : List X) → ((x : X) → p (f x) ≡ q x) → filter p (map f xs) ≡ map f (filter q xs)
filter-map p q f [] same = refl
filter-map {X} {Y} p q f (x ∷ xs) same =
    ap (λ (b : Bool). cond b (f x ∷ filter p (map f xs)) (filter p (map f xs))) (same x)
    ∙ by (q x) (filter-map p q f xs same)
  where
    by : (b : Bool) → filter p (map f xs) ≡ map f (filter q xs) → cond b (f x ∷ filter p (map f xs)) (filter p (map f xs)) ≡ map f (cond b (x ∷ filter q xs) (filter q xs))
    by true e = ap (λ (l : List Y). f x ∷ l) e
    by false e = e

pub filter-swap : {X : Type 0} (p q : X → Bool) (xs : List X) → filter p (filter q xs) ≡ filter q (filter p xs)
filter-swap p q [] = refl
filter-swap {X} p q (x ∷ xs) = by (p x) (q x) refl refl (filter-swap p q xs)
  where
    by : (a b : Bool) → p x ≡ a → q x ≡ b → filter p (filter q xs) ≡ filter q (filter p xs)
        → filter p (cond (q x) (x ∷ filter q xs) (filter q xs)) ≡ filter q (cond (p x) (x ∷ filter p xs) (filter p xs))
    by true true e d more =
        ap (λ (b : Bool). filter p (cond b (x ∷ filter q xs) (filter q xs))) d
        ∙ (ap (λ (b : Bool). cond b (x ∷ filter p (filter q xs)) (filter p (filter q xs))) e
        ∙ (ap (λ (l : List X). x ∷ l) more
        ∙ (sym (ap (λ (b : Bool). cond b (x ∷ filter q (filter p xs)) (filter q (filter p xs))) d)
        ∙ sym (ap (λ (b : Bool). filter q (cond b (x ∷ filter p xs) (filter p xs))) e))))
    by true false e d more =
        ap (λ (b : Bool). filter p (cond b (x ∷ filter q xs) (filter q xs))) d
        ∙ (more
        ∙ (sym (ap (λ (b : Bool). cond b (x ∷ filter q (filter p xs)) (filter q (filter p xs))) d)
        ∙ sym (ap (λ (b : Bool). filter q (cond b (x ∷ filter p xs) (filter p xs))) e)))
    by false true e d more =
        ap (λ (b : Bool). filter p (cond b (x ∷ filter q xs) (filter q xs))) d
        ∙ (ap (λ (b : Bool). cond b (x ∷ filter p (filter q xs)) (filter p (filter q xs))) e
        ∙ (more ∙ sym (ap (λ (b : Bool). filter q (cond b (x ∷ filter p xs) (filter p xs))) e)))
    by false false e d more =
        ap (λ (b : Bool). filter p (cond b (x ∷ filter q xs) (filter q xs))) d
        ∙ (more ∙ sym (ap (λ (b : Bool). filter q (cond b (x ∷ filter p xs) (filter p xs))) e))

-- where no member passes
pub filter-none : {X : Type 0} (p : X → Bool) (xs : List X) → ((x : X) → In x xs → p x ≡ false) → filter p xs ≡ []
filter-none p [] h = refl
filter-none p (x ∷ xs) h =
    ap (λ (b : Bool). cond b (x ∷ filter p xs) (filter p xs)) (h x (inl refl)) ∙ filter-none p xs (λ y i. h y (inr i))

-- ---- what members give

module _ {X Y : Type 0} (f : X → List Y) where
  -- what some give, as what all give where the others give nothing
  pub gathered : (q : X → Bool) (xs : List X) → flat_map f (filter q xs) ≡ flat_map (λ x. cond (q x) (f x) []) xs
  gathered q [] = refl
  gathered q (x ∷ xs) = by (q x) (gathered q xs)
    where
      by : (b : Bool) → flat_map f (filter q xs) ≡ flat_map (λ z. cond (q z) (f z) []) xs
          → flat_map f (cond b (x ∷ filter q xs) (filter q xs)) ≡ cond b (f x) [] ++ flat_map (λ z. cond (q z) (f z) []) xs
      by true e = ap (λ (l : List Y). f x ++ l) e
      by false e = e

  -- all that is given passes
  pub kept-whole : (p : Y → Bool) (xs : List X) → ((x : X) (y : Y) → In x xs → In y (f x) → p y ≡ true) → filter p (flat_map f xs) ≡ flat_map f xs
  kept-whole p [] h = refl
  kept-whole p (x ∷ xs) h =
      filter-append p (f x) (flat_map f xs)
      ∙ ap₂ (λ (a b : List Y). a ++ b) (filter_all p (f x) (λ y i. h x y (inl refl) i)) (kept-whole p xs (λ z y i j. h z y (inr i) j))

  -- just what one member gives does not pass
  pub cut-from : (p : Y → Bool) (front back : List X) (x : X) → ((z : X) (y : Y) → In z (front ++ back) → In y (f z) → p y ≡ true) → ((y : Y) → In y (f x) → p y ≡ false)
      → filter p (flat_map f (front ++ x ∷ back)) ≡ flat_map f (front ++ back)
  cut-from p [] back x others own =
      filter-append p (f x) (flat_map f back) ∙ ap₂ (λ (a b : List Y). a ++ b) (filter-none p (f x) own) (kept-whole p back others)
  cut-from p (z ∷ front) back x others own =
      filter-append p (f z) (flat_map f (front ++ x ∷ back))
      ∙ ap₂ (λ (a b : List Y). a ++ b) (filter_all p (f z) (λ y i. others z y (inl refl) i)) (cut-from p front back x (λ w y i j. others w y (inr i) j) own)

  -- one that gives nothing
  pub none-given : (front back : List X) (x : X) → f x ≡ [] → flat_map f (front ++ x ∷ back) ≡ flat_map f (front ++ back)
  none-given [] back x e = ap (λ (l : List Y). l ++ flat_map f back) e
  none-given (z ∷ front) back x e = ap (λ (l : List Y). f z ++ l) (none-given front back x e)

  pub given-middle : (front back : List X) (x : X) → flat_map f (front ++ x ∷ back) ≡ flat_map f front ++ (f x ++ flat_map f back)
  given-middle [] back x = refl
  given-middle (z ∷ front) back x = ap (λ (l : List Y). f z ++ l) (given-middle front back x) ∙ sym (append_assoc (f z) (flat_map f front) (f x ++ flat_map f back))

  -- one more
  pub given-last : (xs : List X) (x : X) → flat_map f (xs ++ x ∷ []) ≡ flat_map f xs ++ f x
  given-last xs x = given-both f xs (x ∷ []) ∙ ap (λ (l : List Y). flat_map f xs ++ l) (append-nil (f x))

pub given-alike : {X Y : Type 0} (f g : X → List Y) (xs : List X) → ((x : X) → f x ≡ g x) → flat_map f xs ≡ flat_map g xs
given-alike f g [] same = refl
given-alike {X} {Y} f g (x ∷ xs) same = ap₂ (λ (a b : List Y). a ++ b) (same x) (given-alike f g xs same)

-- ---- without repeats

pub each-in : {X : Type 0} (P : X → Type 0) (xs : List X) → AllByRecursion P xs → (x : X) → In x xs → P x
each-in P [] h x i = absurd i
each-in P (y ∷ ys) h x i = elim i [
  | inl e ↦ subst P (sym e) h.0
  | inr j ↦ each-in P ys h.1 x j
]

module _ {X : Type 0} (e : X → X → Bool) where
  -- the members of the first list differ from those of the second
  pub distinct-apart : (xs ys : List X) → IsDistinct e (xs ++ ys) → (x y : X) → In x xs → In y ys → e x y ≡ false
  unfolding IsDistinct
  distinct-apart [] ys d x y i j = absurd i
  distinct-apart (z ∷ xs) ys d x y i j = elim i [
    | inl k ↦ subst (λ (w : X). e w y ≡ false) (sym k) (each-in (λ (w : X). e z w ≡ false) (xs ++ ys) d.0 y ((In-append y xs ys).1 (inr j)))
    | inr k ↦ distinct-apart xs ys d.1 x y k j
  ]

  pub distinct-later : (xs ys : List X) → IsDistinct e (xs ++ ys) → IsDistinct e ys
  unfolding IsDistinct
  distinct-later [] ys d = d
  distinct-later (x ∷ xs) ys d = distinct-later xs ys d.1

  -- without those in the middle
  pub distinct-without : (xs ys zs : List X) → IsDistinct e (xs ++ (ys ++ zs)) → IsDistinct e (xs ++ zs)
  unfolding IsDistinct
  distinct-without [] ys zs d = distinct-later ys zs d
  distinct-without (x ∷ xs) ys zs d = (
    each-from (λ (w : X). e x w ≡ false) (xs ++ zs) (λ w i. each-in (λ (v : X). e x v ≡ false) (xs ++ (ys ++ zs)) d.0 w (elim ((In-append w xs zs).0 i) [
      | inl j ↦ (In-append w xs (ys ++ zs)).1 (inl j)
      | inr j ↦ (In-append w xs (ys ++ zs)).1 (inr ((In-append w ys zs).1 (inr j)))
    ])),
    distinct-without xs ys zs d.1,
  )

  -- the second list behind the first, whose members differ from its
  pub distinct-join : (xs ys : List X) → IsDistinct e xs → IsDistinct e ys → ((x y : X) → In x xs → In y ys → e x y ≡ false) → IsDistinct e (xs ++ ys)
  unfolding IsDistinct
  distinct-join [] ys d c h = c
  distinct-join (x ∷ xs) ys d c h = (
    each-from (λ (w : X). e x w ≡ false) (xs ++ ys) (λ w i. elim ((In-append w xs ys).0 i) [
      | inl j ↦ each-in (λ (v : X). e x v ≡ false) xs d.0 w j
      | inr j ↦ h x w (inl refl) j
    ]),
    distinct-join xs ys d.1 c (λ v w i j. h v w (inr i) j),
  )
