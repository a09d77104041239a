-- Rows of one label that have no place in common, in another order of the rows.
use Rattle.std.proofs.Common.{◌≡◌, ◌≢◌, ℕ, ◌<◌, ◌⊎◌, ◌↔◌, List, length, swap, IsPermutation, Ordering, inl, inr, refl, sym, ap, ◌∙◌, arith}
use Rattle.std.specs.declared.cmp.Ordering.TheVariants.{Equal}
use Rattle.std.specs.Cmp.{IsTotalOrder}
use Rattle.std.proofs.lemmas.Bool.{cases_eq, cases_lt}
use Rattle.std.proofs.lemmas.Cmp.{tied_back}
use Rattle.std.proofs.lemmas.List.Edits.{Swapped, swapped_from_swap, length-swap}
use Rattle.std.proofs.lemmas.List.Sorted.{IsPermutation-keeps, IsPermutation-sym}
use Rattle.cell_boxes.specs.Apartness.{AreApart}
use Rattle.cell_boxes.specs.Common.{At}
use Rattle.cell_boxes.specs.Rows.{IsRow, PlainCellBox}

-- where a swap of a and b took the element at m from
abbrev From : ℕ → ℕ → ℕ → ℕ → Type 0
From a b m k = ((m ≡ a) × (k ≡ b)) ⊎ (((m ≡ b) × (k ≡ a)) ⊎ ((m ≢ a) × (m ≢ b) × (k ≡ m)))

origin : {X : Type 0} (f g : ℕ → X) (a b m : ℕ) → Swapped f g a b → (m ≡ a) ⊎ (m ≢ a) → (m ≡ b) ⊎ (m ≢ b) → (k : ℕ) × From a b m k × (g m ≡ f k)
origin f g a b m s (inl e) y = (b, inl (e, refl), ap g e ∙ s.0)
origin f g a b m s (inr n) (inl e) = (a, inr (inl (e, refl)), ap g e ∙ s.1)
origin f g a b m s (inr n) (inr o) = (m, inr (inr (n, o, refl)), s.2 m n o)

module _ {X : Type 0} (R : X → X → Type 0) where
  -- any two at different places
  abbrev Each : List X → Type 0
  Each xs = (i j : ℕ) (x y : X) → (i ≡ j → ⊥) → IsRow xs i x → IsRow xs j y → R x y

  each_swap : (xs : List X) (a b : ℕ) → a < length xs → b < length xs → Each xs → Each (swap xs a b)
  each_swap xs a b p q h i j x y n u v =
      let len = length-swap xs a b in
      let o = origin _ _ a b i (swapped_from_swap xs (swap xs a b) a b x p q refl) (cases_eq i a) (cases_eq i b) in
      let w = origin _ _ a b j (swapped_from_swap xs (swap xs a b) a b y p q refl) (cases_eq j a) (cases_eq j b) in
      let lu = u.0 in
      let lv = v.0 in
      h o.0 w.0 x y (λ e. n (omega (arith, o.1, w.1, e))) (omega (arith, o.1, len, lu), sym o.2 ∙ u.1) (omega (arith, w.1, len, lv), sym w.2 ∙ v.1)

module _ {P : Type 0} (order : P → P → Ordering) (total : IsTotalOrder order) (k : ℕ) where
  abbrev Clear : PlainCellBox P → PlainCellBox P → Type 0
  Clear x y = order x.0 y.0 ≡ Equal → (place : List ℕ) → length place ≡ k → At x.1 place → At y.1 place → ⊥

  each_apart : (rows : List (PlainCellBox P)) → AreApart order k rows ↔ Each Clear rows
  each_apart rows = (
    λ h i j x y n u v e place l f g. elim (cases_lt i j) [
      | inl w ↦ h i j x y w u v e place l f g
      | inr w ↦ elim (cases_lt j i) [
        | inl m ↦ h j i y x m v u (tied_back total x.0 y.0 e) place l g f
        | inr m ↦ absurd (n (omega arith))
      ]
    ],
    λ h i j x y l u v. h i j x y (λ e. omega (arith, l, e)) u v,
  )

  moved : (xs ys : List (PlainCellBox P)) → IsPermutation xs ys → AreApart order k xs → AreApart order k ys
  moved xs ys p h = (each_apart ys).1 (IsPermutation-keeps xs (Each Clear) ((each_apart xs).0 h) (each_swap Clear) ys p)

  -- it is the same of both
  pub apart_moved : (xs ys : List (PlainCellBox P)) → IsPermutation xs ys → AreApart order k xs ↔ AreApart order k ys
  apart_moved xs ys p = (moved xs ys p, moved ys xs (IsPermutation-sym xs ys p))
