-- Lists: their lengths, what holds of each member, and members at places.
use Rattle.std.proofs.Common.{◌≡◌, ℕ, suc, ◌<◌, inl, inr, List, [], ◌∷◌, ◌++◌, length, map, get_or, Bool, true, false, refl, sym, ap, ap₂, ◌∙◌}
use Rattle.std.specs.List.{All, AllByRecursion, IsDistinct}
use Rattle.std.specs.Bool.{nat_eq}
use Rattle.std.specs.Str.{bytes_eq}
use Rattle.std.proofs.lemmas.Bool.{eqb-true, eqb-false}
use Rattle.std.proofs.lemmas.List.Elements.{Contains-get_or}
use Rattle.std.proofs.lemmas.Slice.Eq.{bytes_eq-Decides}
use Rattle.base_core.proofs.SetLemmas.{In, In-from_Contains}

pub length_more : {X : Type 0} (xs : List X) (x : X) → length (xs ++ x ∷ []) ≡ suc (length xs)
length_more [] x = refl
length_more (y ∷ xs) x = ap suc (length_more xs x)

-- ---- members

pub In-get_or : {X : Type 0} (xs : List X) (i : ℕ) (d : X) → i < length xs → In (get_or xs i d) xs
In-get_or xs i d l = In-from_Contains xs (get_or xs i d) (Contains-get_or xs i d l)

pub All-In : {X : Type 0} (P : X → Type 0) (xs : List X) → ((x : X) → In x xs → P x) → All P xs
All-In P xs h = λ j d l. h (get_or xs j d) (In-get_or xs j d l)

pub map-In : {X Y : Type 0} (f g : X → Y) (xs : List X) → ((x : X) → In x xs → f x ≡ g x) → map f xs ≡ map g xs
map-In f g [] h = refl
map-In f g (x ∷ xs) h = ap₂ (λ y ys. y ∷ ys) (h x (inl refl)) (map-In f g xs (λ y i. h y (inr i)))

pub AllByRecursion-push : {X : Type 0} (P : X → Type 0) (xs : List X) (x : X) → AllByRecursion P xs → P x → AllByRecursion P (xs ++ x ∷ [])
AllByRecursion-push P [] x h p = (p, tt)
AllByRecursion-push P (y ∷ ys) x h p = (h.0, AllByRecursion-push P ys x h.1 p)

-- ---- members that differ

pub IsDistinct-push : {X : Type 0} (e : X → X → Bool) (xs : List X) (x : X) → IsDistinct e xs → AllByRecursion (λ y. e y x ≡ false) xs → IsDistinct e (xs ++ x ∷ [])
unfolding IsDistinct
IsDistinct-push e [] x d before = (tt, tt)
IsDistinct-push e (y ∷ ys) x d before = (AllByRecursion-push (λ z. e y z ≡ false) ys x d.0 before.0, IsDistinct-push e ys x d.1 before.1)

-- under a function that tells them apart
differ-map : (f : ℕ → ℕ) (j : ℕ) (js : List ℕ) → ((i : ℕ) → In i js → f j ≡ f i → j ≡ i) → AllByRecursion (λ k. nat_eq j k ≡ false) js → AllByRecursion (λ k. nat_eq (f j) k ≡ false) (map f js)
differ-map f j [] one d = tt
differ-map f j (i ∷ js) one d = (
  elim (nat_eq (f j) (f i)) as (λ b. nat_eq (f j) (f i) ≡ b → b ≡ false) [
    | true ↦ λ e. absurd (eqb-false j i d.0 (one i (inl refl) (eqb-true (f j) (f i) e)))
    | false ↦ λ e. refl
  ] refl,
  differ-map f j js (λ k m. one k (inr m)) d.1,
)

pub IsDistinct-map : (f : ℕ → ℕ) (js : List ℕ) → ((j i : ℕ) → In j js → In i js → f j ≡ f i → j ≡ i) → IsDistinct nat_eq js → IsDistinct nat_eq (map f js)
unfolding IsDistinct
IsDistinct-map f [] one d = tt
IsDistinct-map f (j ∷ js) one d = (differ-map f j js (λ i m. one j i (inl refl) (inr m)) d.0, IsDistinct-map f js (λ k i m n. one k i (inr m) (inr n)) d.1)

-- ---- texts

pub bytes_eq-sym : (a b : List ℕ) → bytes_eq a b ≡ bytes_eq b a
bytes_eq-sym a b = by (bytes_eq a b) (bytes_eq b a) refl refl
  where
    by : (r s : Bool) → bytes_eq a b ≡ r → bytes_eq b a ≡ s → r ≡ s
    by true true p q = refl
    by false false p q = refl
    by true false p q = sym ((bytes_eq-Decides b a).1 (sym ((bytes_eq-Decides a b).0 p))) ∙ q
    by false true p q = sym p ∙ (bytes_eq-Decides a b).1 (sym ((bytes_eq-Decides b a).0 q))
