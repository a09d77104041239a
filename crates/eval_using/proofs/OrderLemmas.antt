-- What does not depend on the order of a list: sums of its members, how many they are, and which value is extreme.
--     AreApart      no member stands twice
--     HaveSame      two lists have the same members
use Rattle.std.proofs.Common.{◌≡◌, ◌↔◌, inl, inr, ℕ, suc, ℤ, pos, ◌+ℤ◌, Bool, true, false, List, [], ◌∷◌, map, length, get_or, Ordering, refl, sym, ap, ◌∙◌, subst, arith}
use Rattle.std.specs.Prelude.{fold}
use Rattle.std.specs.declared.cmp.Ordering.TheVariants.{Less, Equal, Greater}
use Rattle.std.specs.Cmp.{IsTotalOrder, IsStrictWeakOrder}
use Rattle.std.specs.List.{best_of, IsFirstBest}
use Rattle.std.specs.Ordering.{is_lt, ordering_reverse}
use Rattle.std.proofs.lemmas.Int.{ints}
use Rattle.std.proofs.lemmas.List.{get_or_default}
use Rattle.std.proofs.lemmas.List.MinMax.{IsFirstBest-from_best_of}
use Rattle.base_core.specs.Sets.{placed, put, in_order}
use Rattle.base_core.proofs.SetLemmas.{In, Separates, In-in_order, in_order_by_members, Contains-from_In}
use Rattle.base_core.proofs.MemberLemmas.{In-map}
use Rattle.base_core.proofs.ListLemmas.{In-get_or}
use Rattle.value_core.specs.Order.{value_total, value_separates}
use Rattle.value_core.specs.Values.{Value, value_cmp}
use Rattle.u_summary.specs.Summaries.{total, is_before}
use Rattle.meaning_core.specs.Rows.{extreme}

-- no member stands twice
abbrev pub AreApart : {X : Type 0} → List X → Type 0
AreApart [] = Unit {0}
AreApart (x ∷ xs) = (In x xs → ⊥) × AreApart xs

-- the same members
abbrev pub HaveSame : {X : Type 0} → List X → List X → Type 0
HaveSame {X} xs ys = (x : X) → In x xs ↔ In x ys

-- ---- sums

abbrev pub weights : {X : Type 0} → (X → ℤ) → List X → ℤ
weights w [] = pos 0
weights w (x ∷ xs) = w x +ℤ weights w xs

one_more : (a b c : ℤ) → (a +ℤ b) +ℤ c ≡ a +ℤ (b +ℤ c)
one_more a b c = omega (arith, ints)

no_more : (a : ℤ) → a ≡ a +ℤ pos 0
no_more a = omega (arith, ints)

no_less : (a : ℤ) → pos 0 +ℤ a ≡ a
no_less a = omega (arith, ints)

fold_weights : {X : Type 0} (w : X → ℤ) (a : ℤ) (xs : List X) → fold ◌+ℤ◌ a (map w xs) ≡ a +ℤ weights w xs
fold_weights w a [] = no_more a
fold_weights w a (x ∷ xs) = fold_weights w (a +ℤ w x) xs ∙ one_more a (w x) (weights w xs)

pub total_is : {X : Type 0} (w : X → ℤ) (xs : List X) → total (map w xs) ≡ weights w xs
total_is w xs = fold_weights w (pos 0) xs ∙ no_less (weights w xs)

pub counted : {X : Type 0} (xs : List X) → weights (λ x. pos 1) xs ≡ pos (length xs)
counted [] = refl
counted (x ∷ xs) = ap (λ z. pos 1 +ℤ z) (counted xs) ∙ one_up (length xs)
  where
    one_up : (n : ℕ) → pos 1 +ℤ pos n ≡ pos (suc n)
    one_up n = omega (arith, ints)

swapped : (a b c d : ℤ) → c ≡ a +ℤ d → b +ℤ c ≡ a +ℤ (b +ℤ d)
swapped a b c d e = omega (arith, ints)

module _ {X : Type 0} (cmp : X → X → Ordering) (o : IsTotalOrder cmp) (same : Separates cmp) (w : X → ℤ) where
  weights_put : (x : X) (ys : List X) → (In x ys → ⊥) → weights w (put cmp x ys) ≡ w x +ℤ weights w ys
  weights_put x [] n = refl
  weights_put x (y ∷ ys) n =
      elim (cmp x y) as (λ r. cmp x y ≡ r → weights w (placed r x y ys (put cmp x ys)) ≡ w x +ℤ (w y +ℤ weights w ys)) [
        | Less ↦ λ e. refl
        | Equal ↦ λ e. absurd (n (inl (same x y e)))
        | Greater ↦ λ e. swapped (w x) (w y) (weights w (put cmp x ys)) (weights w ys) (weights_put x ys (λ m. n (inr m)))
      ] refl

  weights_in_order : (xs : List X) → AreApart xs → weights w (in_order cmp xs) ≡ weights w xs
  weights_in_order [] d = refl
  weights_in_order (x ∷ xs) d =
      weights_put x (in_order cmp xs) (λ m. d.0 ((In-in_order cmp o same x xs).0 m)) ∙ ap (λ z. w x +ℤ z) (weights_in_order xs d.1)

  pub weights_same : (xs ys : List X) → AreApart xs → AreApart ys → HaveSame xs ys → weights w xs ≡ weights w ys
  weights_same xs ys d e h = sym (weights_in_order xs d) ∙ ap (weights w) (in_order_by_members cmp o same xs ys h) ∙ weights_in_order ys e

-- ---- extreme values

-- the extreme value is one of them, and no other one beats it
pub extreme_is : (beats : Value → Value → Bool) → IsStrictWeakOrder beats → (vs : List Value) (x : Value) → In x vs
    → In (extreme beats vs) vs × ((y : Value) → In y vs → beats y (extreme beats vs) ≡ false)
extreme_is beats o [] x m = absurd m
extreme_is beats o (v ∷ vs) x m =
    let w = IsFirstBest-from_best_of o v vs in
    let b : ℕ = w.0 in
    let best : IsFirstBest beats (v ∷ vs) (length (v ∷ vs)) b = w.1 in (
      subst (λ z. In z (v ∷ vs)) w.2 (In-get_or (v ∷ vs) b v best.0),
      λ y n.
          let at = Contains-from_In (v ∷ vs) y n in
          let here : beats (get_or (v ∷ vs) at.0 y) (get_or (v ∷ vs) b y) ≡ false = best.1 at.0 y at.1 in
          let top : get_or (v ∷ vs) b y ≡ best_of beats v vs = get_or_default (v ∷ vs) b y v best.0 ∙ w.2 in
          subst (λ z. beats z (best_of beats v vs) ≡ false) at.2 (subst (λ z. beats (get_or (v ∷ vs) at.0 y) z ≡ false) top here),
    )

pub extreme_same : (beats : Value → Value → Bool) → IsStrictWeakOrder beats → ((a b : Value) → beats a b ≡ false → beats b a ≡ false → a ≡ b)
    → (xs ys : List Value) → HaveSame xs ys → extreme beats xs ≡ extreme beats ys
extreme_same beats o tie [] [] h = refl
extreme_same beats o tie [] (y ∷ ys) h = absurd ((h y).1 (inl refl))
extreme_same beats o tie (x ∷ xs) [] h = absurd ((h x).0 (inl refl))
extreme_same beats o tie (x ∷ xs) (y ∷ ys) h =
    let u = extreme_is beats o (x ∷ xs) x (inl refl) in
    let v = extreme_is beats o (y ∷ ys) y (inl refl) in
    let a : Value = extreme beats (x ∷ xs) in
    let b : Value = extreme beats (y ∷ ys) in
    tie a b (v.1 a ((h a).0 u.0)) (u.1 b ((h b).1 v.0))

pub before_ties : (a b : Value) → is_before a b ≡ false → is_before b a ≡ false → a ≡ b
before_ties a b e f =
    by (value_cmp a b) refl
  where
    by : (r : Ordering) → value_cmp a b ≡ r → a ≡ b
    by Less q = absurd (let z : true ≡ false = ap is_lt (sym q) ∙ e in cc)
    by Equal q = value_separates a b q
    by Greater q = absurd (let z : true ≡ false = ap is_lt (sym (value_total.antisymm b a ∙ ap ordering_reverse q)) ∙ f in cc)

pub map_same : {X Y : Type 0} (f : X → Y) (xs ys : List X) → HaveSame xs ys → HaveSame (map f xs) (map f ys)
map_same f xs ys h y = (
  λ m. let w = (In-map f y xs).0 m in (In-map f y ys).1 (w.0, (h w.0).0 w.1, w.2),
  λ m. let w = (In-map f y ys).0 m in (In-map f y xs).1 (w.0, (h w.0).1 w.1, w.2),
)
