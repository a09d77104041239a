-- To join the slices of a side gives the packed form on it.
use Rattle.std.proofs.Common.{◌≡◌, ℕ, zero, suc, ◌<◌, ◌≤◌, Bool, true, cond, ◌&&◌, ◌≢◌, ℤ, ◌≤ℤ◌, List, [], ◌∷◌, ◌++◌, length, get_or, ◌↔◌, ◌⊎◌, arith, sym, ap, subst, refl, ◌∙◌, Ordering}
use Rattle.std.proofs.lemmas.Int.{ints}
use Rattle.std.specs.Cmp.{IsTotalOrder}
use Rattle.std.specs.List.{AllByRecursion}
use Rattle.interval_core.specs.Members.{Span}
use Rattle.cell_packing.specs.Packed.{IsPacked, IsIndexRun, IsIndexPacked, IsIndexPackedTo, no_cells}
use Rattle.cell_packing.specs.Covering.{has, passing, CellFunction, has_cell, InIndexCells, Gives}
use Rattle.cell_packing.specs.Pieces.{Covers, AreApart, HasPiece}
use Rattle.cell_packing.specs.declared.Piece.{Piece}
use Rattle.cell_packing.proofs.Joined.{IsIndexRun-iff, run_from_apart, apart_from_run}
use Rattle.cell_packing.proofs.Cells.{Cuts, OnGrid, grid_point_of, box_of, cells_iff, cells_some}
use Rattle.cell_packing.proofs.Covered.{on_grid, first_test, last_test, IsInGrid}

-- only the sides before j count
prefix : (j : ℕ) (S : List ℕ → Type 0) (y z : List (ℕ × ℕ)) (rest : List ℕ) → j ≤ length y → IsIndexPackedTo j S (y ++ z) rest ≡ IsIndexPackedTo j S y rest
prefix zero S y z rest h = refl
prefix (suc j) S y z rest h = λ t. IsIndexRun (λ i. prefix j S y z (i ∷ rest) (omega arith) t) (at_prefix y z j h t).0 (at_prefix y z j h t).1
  where
    at_prefix : (y z : List (ℕ × ℕ)) (j : ℕ) → j < length y → get_or (y ++ z) j no_cells ≡ get_or y j no_cells
    at_prefix [] z j h = absurd (omega arith)
    at_prefix (x ∷ xs) z zero h = refl
    at_prefix (x ∷ xs) z (suc j) h = at_prefix xs z j (omega arith)

at_end : (y : List (ℕ × ℕ)) (v : ℕ × ℕ) → get_or (y ++ v ∷ []) (length y) no_cells ≡ v
at_end [] v = refl
at_end (x ∷ xs) v = at_end xs v

-- a box of one more side
pub one_more_side : (j : ℕ) (S : List ℕ → Type 0) (y : List (ℕ × ℕ)) (v : ℕ × ℕ) (rest : List ℕ) → length y ≡ j → IsIndexPackedTo (suc j) S (y ++ v ∷ []) rest ≡ IsIndexRun (λ i. IsIndexPackedTo j S y (i ∷ rest)) v.0 v.1
one_more_side j S y v rest e =
    let at : get_or (y ++ v ∷ []) j no_cells ≡ v = subst (λ n. get_or (y ++ v ∷ []) n no_cells ≡ v) e (at_end y v) in
    λ t. IsIndexRun (λ i. prefix j S y (v ∷ []) (i ∷ rest) (omega arith) t) (at t).0 (at t).1

-- the joined slices are the packed form on one more side. `row l y` is a key for a label and a box
pub slices_join : {P K : Type 0} (R : K → K → Ordering) → IsTotalOrder R → (row : P → List (ℕ × ℕ) → K → Type 0) (S : P → List ℕ → Type 0) (j : ℕ) (rest : List ℕ) (out : List (Piece K))
    → ((i : ℕ) (l : P) (y : List (ℕ × ℕ)) (k : K) → row l y k → length y ≡ j → Covers R out k i ↔ IsIndexPackedTo j (S l) y (i ∷ rest))
    → AreApart R out
    → (l : P) (y : List (ℕ × ℕ)) (k : K) (v : ℕ × ℕ) → row l y k → length y ≡ j → HasPiece R out k v.0 v.1 ↔ IsIndexPackedTo (suc j) (S l) (y ++ v ∷ []) rest
slices_join R o row S j rest out slice apart l y k v is e =
    let each : (i : ℕ) → Covers R out k i ↔ IsIndexPackedTo j (S l) y (i ∷ rest) = λ i. slice i l y k is e in
    let to = one_more_side j (S l) y v rest e in (
      λ h. subst (λ T. T) (sym to) (IsIndexRun-iff _ _ each v.0 v.1 (run_from_apart R o out k v.0 v.1 apart h)),
      λ h. apart_from_run R o out k v.0 v.1 apart (IsIndexRun-iff _ _ (λ i. ((each i).1, (each i).0)) v.0 v.1 (subst (λ T. T) to h)),
    )

-- ---- from the last side inward

IsIndexPacked-iff : (S S' : List ℕ → Type 0) (xs : List (ℕ × ℕ)) → ((is : List ℕ) → length is ≡ length xs → S is ↔ S' is) → IsIndexPacked S xs → IsIndexPacked S' xs
IsIndexPacked-iff S S' [] e h = (e [] refl).0 h
IsIndexPacked-iff S S' (x ∷ xs) e h =
    IsIndexRun-iff _ _ (λ i. (
      IsIndexPacked-iff _ _ xs (λ is l. e (i ∷ is) (ap suc l)),
      IsIndexPacked-iff _ _ xs (λ is l. ((e (i ∷ is) (ap suc l)).1, (e (i ∷ is) (ap suc l)).0)),
    )) x.0 x.1 h

pub has_cells : (gs : List Cuts) (x : List (ℕ × ℕ)) (is : List ℕ) → length x ≡ length gs → length is ≡ length gs → has (box_of gs x) (grid_point_of gs is) ≡ has_cell x is
has_cells [] [] [] h k = refl
has_cells [] (x ∷ xs) is h k = absurd (omega arith)
has_cells [] [] (i ∷ is) h k = absurd (omega arith)
has_cells (g ∷ gs) [] is h k = absurd (omega arith)
has_cells (g ∷ gs) (x ∷ xs) [] h k = absurd (omega arith)
has_cells (g ∷ gs) (x ∷ xs) (i ∷ is) h k =
    let r = g.rises i in
    let a : g.at i ≤ℤ g.at i = omega (arith, ints) in
    λ t. first_test g x i (g.at i) a r t && (last_test g x i (g.at i) a r t && has_cells gs xs is (omega arith) (omega arith) t)

passing_where : {X : Type 0} (t u : X → Bool) (P : X → Type 0) (n : ℕ) (xs : List X) → AllByRecursion P xs → ((x : X) → P x → t x ≡ u x) → passing t n xs ≡ passing u n xs
passing_where t u P n [] a e = refl
passing_where t u P n (x ∷ xs) a e = λ i. cond (e x a.0 i) (n ∷ passing_where t u P (suc n) xs a.1 e i) (passing_where t u P (suc n) xs a.1 e i)

-- the rows' boxes of cells, one span for each side, below the counts
abbrev pub FitsGrid : List Cuts → List (ℕ × ℕ) → Type 0
FitsGrid gs x = (length x ≡ length gs) × IsInGrid gs x

all_both : {X : Type 0} (P Q : X → Type 0) (xs : List X) → AllByRecursion (λ x. P x × Q x) xs → AllByRecursion P xs × AllByRecursion Q xs
all_both P Q [] h = (tt, tt)
all_both P Q (x ∷ xs) h = let w = all_both P Q xs h.1 in ((h.0.0, w.0), (h.0.1, w.1))

-- the cells of a function, of rows that are boxes of cells
abbrev pub InGridCells : {P F : Type 0} → List Cuts → CellFunction P F → List (List (ℕ × ℕ)) → List (List (ℕ × ℕ)) → P → List ℤ → Type 0
InGridCells gs f left right l ps =
    let a = passing (λ x. has (box_of gs x) ps) 0 left in
    let b = passing (λ x. has (box_of gs x) ps) 0 right in
    ((a ≢ []) ⊎ (b ≢ [])) × Gives (f a b) l

module _ {P F : Type 0} (gs : List Cuts) (f : CellFunction P F) (left right : List (List (ℕ × ℕ))) (l : P) (fits_left : AllByRecursion (FitsGrid gs) left) (fits_right : AllByRecursion (FitsGrid gs) right) where
  abbrev asks : List ℕ → List ℕ → Type 0
  asks a b = ((a ≢ []) ⊎ (b ≢ [])) × Gives (f a b) l

  on : OnGrid gs (InGridCells gs f left right l)
  on = on_grid asks (λ a b h. h.0) gs (λ _. true) (λ x. x) left right (all_both _ _ left fits_left).1 (all_both _ _ right fits_right).1

  same_cells : (is : List ℕ) → length is ≡ length gs → InGridCells gs f left right l (grid_point_of gs is) ≡ InIndexCells f left right l is
  same_cells is e = λ t. asks
      (passing_where _ (λ x. has_cell x is) (λ x. length x ≡ length gs) 0 left (all_both _ _ left fits_left).0 (λ x h. has_cells gs x is h e) t)
      (passing_where _ (λ x. has_cell x is) (λ x. length x ≡ length gs) 0 right (all_both _ _ right fits_right).0 (λ x h. has_cells gs x is h e) t)

  -- a box of cells is packed over cells exactly where its points are packed
  pub packed_cells : (xs : List (ℕ × ℕ)) → length xs ≡ length gs → IsIndexPacked (InIndexCells f left right l) xs ↔ IsPacked (InGridCells gs f left right l) (box_of gs xs)
  packed_cells xs e =
      let w = cells_iff gs (InGridCells gs f left right l) on xs e in
      let to : (is : List ℕ) → length is ≡ length xs → InIndexCells f left right l is ↔ InGridCells gs f left right l (grid_point_of gs is) = λ is k.
      (λ h. subst (λ T. T) (sym (same_cells is (k ∙ e))) h, λ h. subst (λ T. T) (same_cells is (k ∙ e)) h) in (
        λ h. w.0 (IsIndexPacked-iff _ _ xs to h),
        λ h. IsIndexPacked-iff _ _ xs (λ is k. ((to is k).1, (to is k).0)) (w.1 h),
      )

  -- and no other box is packed
  pub packed_is_cells : (ys : List Span) → length ys ≡ length gs → IsPacked (InGridCells gs f left right l) ys → (xs : List (ℕ × ℕ)) × (length xs ≡ length gs) × (ys ≡ box_of gs xs) × IsIndexPacked (InIndexCells f left right l) xs
  packed_is_cells ys e h =
      let w = cells_some gs (InGridCells gs f left right l) on ys e h in
      (w.0, w.1, w.2, (packed_cells w.0 w.1).1 (subst (IsPacked (InGridCells gs f left right l)) w.2 h))
