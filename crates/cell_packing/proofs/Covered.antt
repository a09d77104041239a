-- Points between two neighbouring cuts have the same covering rows, so the cells of a function are on the grid of the cuts.
use Rattle.std.proofs.Common.{◌≡◌, ℕ, suc, ◌<◌, ◌≤◌, Bool, true, false, cond, ◌&&◌, ◌≢◌, ℤ, pos, ◌-ℤ◌, ◌≤ℤ◌, ◌<ℤ◌, List, [], ◌∷◌, ◌⊎◌, inl, inr, arith, sym, subst, refl, ◌∙◌, leb, ltb}
use Rattle.std.specs.Int.RustNames.{int_le}
use Rattle.std.specs.List.{AllByRecursion}
use Rattle.std.proofs.lemmas.Int.{ints}
use Rattle.std.proofs.lemmas.Bool.{and_parts, cases_Bool}
use Rattle.std.proofs.lemmas.Bool.Decides.{nat_tests}
use Rattle.base_core.proofs.BoolLemmas.{same_bool}
use Rattle.base_core.proofs.IntLemmas.{int_le-le, le-int_le}
use Rattle.cell_packing.specs.Covering.{has, passing}
use Rattle.cell_packing.proofs.Cells.{Cuts, OnGrid, box_of, rises_far, order_of_cells}

-- each side is of cells below the count
abbrev pub IsInGrid : List Cuts → List (ℕ × ℕ) → Type 0
IsInGrid [] xs = Unit {0}
IsInGrid (g ∷ gs) [] = Unit {0}
IsInGrid (g ∷ gs) (x ∷ xs) = (x.1 ≤ g.count) × IsInGrid gs xs

-- the span of cells has a number of the cell i exactly where it has i
pub first_test : (g : Cuts) (x : ℕ × ℕ) (i : ℕ) (p : ℤ) → g.at i ≤ℤ p → p <ℤ g.at (suc i) → int_le (g.at x.0) p ≡ leb x.0 i
first_test g x i p a b = same_bool _ _
    (λ h. let k : g.at x.0 ≤ℤ p = int_le-le (g.at x.0) p h in let l : x.0 < suc i = order_of_cells g x.0 (suc i) (omega (arith, ints)) in grind (arith, nat_tests))
    (λ h. let l : x.0 ≤ i = grind (arith, nat_tests) in let f = rises_far g x.0 i l in le-int_le (g.at x.0) p (omega (arith, ints)))

pub last_test : (g : Cuts) (x : ℕ × ℕ) (i : ℕ) (p : ℤ) → g.at i ≤ℤ p → p <ℤ g.at (suc i) → int_le p (g.at x.1 -ℤ pos 1) ≡ ltb i x.1
last_test g x i p a b = same_bool _ _
    (λ h. let k : p ≤ℤ (g.at x.1 -ℤ pos 1) = int_le-le p (g.at x.1 -ℤ pos 1) h in let l : i < x.1 = order_of_cells g i x.1 (omega (arith, ints)) in grind (arith, nat_tests))
    (λ h. let l : i < x.1 = grind (arith, nat_tests) in let f = rises_far g (suc i) x.1 l in le-int_le p (g.at x.1 -ℤ pos 1) (omega (arith, ints)))

-- whether the first side has the number
abbrev head_has : Cuts → List (ℕ × ℕ) → ℤ → Bool
head_has g [] p = false
head_has g (x ∷ xs) p = int_le (g.at x.0) p && int_le p (g.at x.1 -ℤ pos 1)

abbrev rest_of : List (ℕ × ℕ) → List (ℕ × ℕ)
rest_of [] = []
rest_of (x ∷ xs) = xs

regroup : (w a b c : Bool) → (w && (a && (b && c))) ≡ ((w && (a && b)) && c)
regroup true true b c = refl
regroup true false b c = refl
regroup false a b c = refl

nothing : (w c : Bool) → (w && false) ≡ ((w && false) && c)
nothing true c = refl
nothing false c = refl

has_first : (w : Bool) (g : Cuts) (gs : List Cuts) (r : List (ℕ × ℕ)) (p : ℤ) (ps : List ℤ) → (w && has (box_of (g ∷ gs) r) (p ∷ ps)) ≡ ((w && head_has g r p) && has (box_of gs (rest_of r)) ps)
has_first w g gs [] p ps = nothing w _
has_first w g gs (x ∷ xs) p ps = regroup w (int_le (g.at x.0) p) (int_le p (g.at x.1 -ℤ pos 1)) (has (box_of gs xs) ps)

head_alike : (g : Cuts) (r : List (ℕ × ℕ)) (i : ℕ) (p q : ℤ) → g.at i ≤ℤ p → p <ℤ g.at (suc i) → g.at i ≤ℤ q → q <ℤ g.at (suc i) → head_has g r p ≡ head_has g r q
head_alike g [] i p q a b c d = refl
head_alike g (x ∷ xs) i p q a b c d = λ t. (first_test g x i p a b ∙ sym (first_test g x i q c d)) t && (last_test g x i p a b ∙ sym (last_test g x i q c d)) t

head_inside : (g : Cuts) (gs : List Cuts) (r : List (ℕ × ℕ)) (p : ℤ) → IsInGrid (g ∷ gs) r → head_has g r p ≡ true → (g.at 0 ≤ℤ p) × (p <ℤ g.at g.count)
head_inside g gs [] p h e = cc
head_inside g gs (x ∷ xs) p h e =
    let w = and_parts (int_le (g.at x.0) p) (int_le p (g.at x.1 -ℤ pos 1)) e in
    let a : g.at x.0 ≤ℤ p = int_le-le (g.at x.0) p w.0 in
    let b : p ≤ℤ (g.at x.1 -ℤ pos 1) = int_le-le p (g.at x.1 -ℤ pos 1) w.1 in
    let f = rises_far g 0 x.0 (omega arith) in
    let k = rises_far g x.1 g.count h.0 in
    (omega (arith, ints), omega (arith, ints))

module _ {X : Type 0} where
  pub passing_alike : (t u : X → Bool) (n : ℕ) (xs : List X) → ((x : X) → t x ≡ u x) → passing t n xs ≡ passing u n xs
  passing_alike t u n [] e = refl
  passing_alike t u n (x ∷ xs) e = λ i. cond (e x i) (n ∷ passing_alike t u (suc n) xs e i) (passing_alike t u (suc n) xs e i)

  -- where some pass, one of them passes
  one_passes : (t : X → Bool) (P : X → Type 0) (n : ℕ) (xs : List X) → AllByRecursion P xs → passing t n xs ≢ [] → (x : X) × (t x ≡ true) × P x
  one_passes t P n [] a h = absurd (h refl)
  one_passes t P n (x ∷ xs) a h =
      elim (cases_Bool (t x)) [
        | inl e ↦ (x, e, a.0)
        | inr e ↦ one_passes t P (suc n) xs a.1 (subst (λ b. cond b (n ∷ passing t (suc n) xs) (passing t (suc n) xs) ≢ []) e h)
      ]

  all_rest : (g : Cuts) (gs : List Cuts) (b : X → List (ℕ × ℕ)) (xs : List X) → AllByRecursion (λ x. IsInGrid (g ∷ gs) (b x)) xs → AllByRecursion (λ x. IsInGrid gs (rest_of (b x))) xs
  all_rest g gs b [] h = tt
  all_rest g gs b (x ∷ xs) h = (at_rest (b x) h.0, all_rest g gs b xs h.1)
    where
      at_rest : (r : List (ℕ × ℕ)) → IsInGrid (g ∷ gs) r → IsInGrid gs (rest_of r)
      at_rest [] k = none gs
        where
          none : (gs : List Cuts) → IsInGrid gs []
          none [] = tt
          none (g ∷ gs) = tt
      at_rest (y ∷ ys) k = k.1

  -- the rows that pass w and have the place
  abbrev pub at_grid_point : (X → Bool) → List Cuts → (X → List (ℕ × ℕ)) → List X → List ℤ → List ℕ
  at_grid_point w gs b rows ps = passing (λ x. w x && has (box_of gs (b x)) ps) 0 rows

  next_grid_point : (w : X → Bool) (g : Cuts) (gs : List Cuts) (b : X → List (ℕ × ℕ)) (rows : List X) (p : ℤ) (ps : List ℤ) → at_grid_point w (g ∷ gs) b rows (p ∷ ps) ≡ at_grid_point (λ x. w x && head_has g (b x) p) gs (λ x. rest_of (b x)) rows ps
  next_grid_point w g gs b rows p ps = passing_alike _ _ 0 rows (λ x. has_first (w x) g gs (b x) p ps)

  grid_point_alike : (w : X → Bool) (g : Cuts) (gs : List Cuts) (b : X → List (ℕ × ℕ)) (rows : List X) (i : ℕ) (p q : ℤ) (ps : List ℤ) → g.at i ≤ℤ p → p <ℤ g.at (suc i) → g.at i ≤ℤ q → q <ℤ g.at (suc i) → at_grid_point w (g ∷ gs) b rows (p ∷ ps) ≡ at_grid_point w (g ∷ gs) b rows (q ∷ ps)
  grid_point_alike w g gs b rows i p q ps h k l m =
      next_grid_point w g gs b rows p ps
      ∙ passing_alike _ _ 0 rows (λ x t. (w x && head_alike g (b x) i p q h k l m t) && has (box_of gs (rest_of (b x))) ps)
      ∙ sym (next_grid_point w g gs b rows q ps)

  inside_from : (w : X → Bool) (g : Cuts) (gs : List Cuts) (b : X → List (ℕ × ℕ)) (rows : List X) (p : ℤ) (ps : List ℤ) → AllByRecursion (λ x. IsInGrid (g ∷ gs) (b x)) rows → at_grid_point w (g ∷ gs) b rows (p ∷ ps) ≢ [] → (g.at 0 ≤ℤ p) × (p <ℤ g.at g.count)
  inside_from w g gs b rows p ps h ne =
      let ne' = subst (λ ns. ns ≢ []) (next_grid_point w g gs b rows p ps) ne in
      let v = one_passes _ (λ x. IsInGrid (g ∷ gs) (b x)) 0 rows h ne' in
      head_inside g gs (b v.0) p v.2 (and_parts (w v.0) _ (and_parts _ _ v.1).0).1

  -- a set that asks for the covering rows alone is on the grid
  pub on_grid : (Q : List ℕ → List ℕ → Type 0) → ((m n : List ℕ) → Q m n → (m ≢ []) ⊎ (n ≢ [])) → (gs : List Cuts) (w : X → Bool) (b : X → List (ℕ × ℕ)) (left right : List X) → AllByRecursion (λ x. IsInGrid gs (b x)) left → AllByRecursion (λ x. IsInGrid gs (b x)) right → OnGrid gs (λ ps. Q (at_grid_point w gs b left ps) (at_grid_point w gs b right ps))
  on_grid Q some [] w b left right l r = tt
  on_grid Q some (g ∷ gs) w b left right l r = (
    λ ps. record {
      inside = λ p h. elim (some _ _ h) [ inl ne ↦ inside_from w g gs b left p ps l ne | inr ne ↦ inside_from w g gs b right p ps r ne ];
      alike = λ i p q h k m n s. subst (λ T. T) (λ t. Q (grid_point_alike w g gs b left i p q ps h k m n t) (grid_point_alike w g gs b right i p q ps h k m n t)) s;
    },
    λ p. subst (OnGrid gs) (λ t ps. Q (sym (next_grid_point w g gs b left p ps) t) (sym (next_grid_point w g gs b right p ps) t))
        (on_grid Q some gs (λ x. w x && head_has g (b x) p) (λ x. rest_of (b x)) left right (all_rest g gs b left l) (all_rest g gs b right r)),
  )
