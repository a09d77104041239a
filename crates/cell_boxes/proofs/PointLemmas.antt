-- From the cells of boxes to their points: what covers just the cells of a set covers just its points.
use Rattle.std.proofs.Common.{◌≡◌, ℕ, zero, suc, ◌<◌, ◌≤◌, true, ℤ, pos, ◌-ℤ◌, ◌≤ℤ◌, ◌<ℤ◌, List, [], ◌∷◌, length, get_or, map, ◌↔◌, ◌⊎◌, inl, inr, arith, sym, ap, subst, refl}
use Rattle.std.proofs.lemmas.Int.{ints, by_lt_z}
use Rattle.std.proofs.lemmas.Bool.{cases_lt, and_parts, and_from}
use Rattle.cell_packing.specs.Boxed.{Boxed, InBoxes}
use Rattle.cell_packing.specs.Covering.{Among}
use Rattle.cell_packing.specs.Live.{span_has, has_grid_point}
use Rattle.cell_packing.specs.Packed.{Has, no_cells}
use Rattle.cell_packing.proofs.AmongLemmas.{among_map}
use Rattle.cell_packing.proofs.Cells.{Cuts, rises_far, order_of_cells, cell_of, box_of}
use Rattle.cell_packing.proofs.Covered.{IsInGrid}
use Rattle.cell_packing.proofs.Whole.{cells_back, cuts_back}
use Rattle.cell_sweep.specs.PackedRows.{HasRow}
use Rattle.cell_boxes.specs.Common.{At}
use Rattle.cell_boxes.specs.Rows.{PlainCellBox}
use Rattle.cell_sweep.proofs.Sweeping.{cell_has, span_from}

-- ---- boxes that end by others stay on the grid

sides_of_grid : (d : Cuts) (gs : List Cuts) (j : ℕ) (y : List (ℕ × ℕ)) → IsInGrid (cuts_back d j gs) (cells_back j y) → (s : ℕ) → s < j → (get_or y s no_cells).1 ≤ (get_or gs s d).count
sides_of_grid d gs zero y h s l = absurd (omega arith)
sides_of_grid d gs (suc j) y h s l = elim (cases_lt s j) [
  | inl w ↦ sides_of_grid d gs j y h.1 s w
  | inr w ↦ let e : j ≡ s = omega arith in subst (λ i. (get_or y i no_cells).1 ≤ (get_or gs i d).count) e h.0
]

-- each side is of cells below the count
abbrev pub InGrid : Cuts → List Cuts → List (ℕ × ℕ) → Type 0
InGrid d gs x = (length x ≡ length gs) × ((s : ℕ) → s < length gs → (get_or x s no_cells).1 ≤ (get_or gs s d).count)

pub in_grid : (d : Cuts) (gs : List Cuts) (x : List (ℕ × ℕ)) → length x ≡ length gs → IsInGrid (cuts_back d (length gs) gs) (cells_back (length gs) x) → InGrid d gs x
in_grid d gs x e h = (e, sides_of_grid d gs (length gs) x h)

-- ---- the cells of a place of points

module _ (d : Cuts) where
  -- the place is that of some cells, or no box on the grid has it
  abbrev pub Cell : List Cuts → List ℤ → Type 0
  Cell gs p =
      ((c : List ℕ) × (length c ≡ length gs) × ((y : List (ℕ × ℕ)) → length y ≡ length gs → Has (box_of gs y) p ↔ At y c))
      ⊎ ((y : List (ℕ × ℕ)) → InGrid d gs y → Has (box_of gs y) p → ⊥)

  first_iff : (g : Cuts) (x : ℕ × ℕ) (i : ℕ) (p : ℤ) → g.at i ≤ℤ p → p <ℤ g.at (suc i) → ((g.at x.0 ≤ℤ p) × (p ≤ℤ (g.at x.1 -ℤ pos 1))) ↔ (span_has x i ≡ true)
  first_iff g x i p a b = (
    λ h.
        let h0 = h.0 in
        let h1 = h.1 in
        let l : x.0 < suc i = order_of_cells g x.0 (suc i) (omega (arith, ints)) in
        let m : i < x.1 = order_of_cells g i x.1 (omega (arith, ints)) in
        span_from x i (omega arith) m,
    λ h.
        let w = cell_has x i h in
        let f = rises_far g x.0 i w.0 in
        let k = rises_far g (suc i) x.1 w.1 in
        (omega (arith, ints), omega (arith, ints)),
  )

  pub cell_at : (gs : List Cuts) (p : List ℤ) → Cell gs p
  cell_at [] [] = inl ([], refl, both)
    where
      both : (y : List (ℕ × ℕ)) → length y ≡ 0 → Has (box_of [] y) [] ↔ At y []
      both y e = (λ h. refl, λ h. tt)
  cell_at [] (p ∷ ps) = inr (λ y g h. h)
  cell_at (g ∷ gs) [] = inr none
    where
      none : (y : List (ℕ × ℕ)) → InGrid d (g ∷ gs) y → Has (box_of (g ∷ gs) y) [] → ⊥
      none [] w h = let e = w.0 in omega arith
      none (x ∷ xs) w h = h
  cell_at (g ∷ gs) (p ∷ ps) = by_lt_z p (g.at 0) (λ l. inr (before l)) (λ l. by_lt_z p (g.at g.count) (λ m. inside (cell_of g g.count p l m) (cell_at gs ps)) (λ m. inr (after m)))
    where
      before : p <ℤ g.at 0 → (y : List (ℕ × ℕ)) → InGrid d (g ∷ gs) y → Has (box_of (g ∷ gs) y) (p ∷ ps) → ⊥
      before l [] w h = let e = w.0 in omega arith
      before l (x ∷ xs) w h = let a = h.0 in let f = rises_far g 0 x.0 (omega arith) in absurd (omega (arith, ints))

      after : g.at g.count ≤ℤ p → (y : List (ℕ × ℕ)) → InGrid d (g ∷ gs) y → Has (box_of (g ∷ gs) y) (p ∷ ps) → ⊥
      after l [] w h = let e = w.0 in omega arith
      after l (x ∷ xs) w h = let a = h.1 in let b = w.1 0 (omega arith) in let f = rises_far g x.1 g.count b in absurd (omega (arith, ints))

      rest_in : (x : ℕ × ℕ) (xs : List (ℕ × ℕ)) → InGrid d (g ∷ gs) (x ∷ xs) → InGrid d gs xs
      rest_in x xs w = (let e = w.0 in omega arith, λ s l. w.1 (suc s) (omega arith))

      inside : (i : ℕ) × (g.at i ≤ℤ p) × (p <ℤ g.at (suc i)) → Cell gs ps → Cell (g ∷ gs) (p ∷ ps)
      inside w (inl v) = inl (w.0 ∷ v.0, ap suc v.1, iff)
        where
          iff : (y : List (ℕ × ℕ)) → length y ≡ length (g ∷ gs) → Has (box_of (g ∷ gs) y) (p ∷ ps) ↔ At y (w.0 ∷ v.0)
          iff [] e = absurd (omega arith)
          iff (x ∷ xs) e =
              let a = first_iff g x w.0 p w.1 w.2 in
              let b = v.2 xs (omega arith) in (
                λ h. and_from (span_has x w.0) (has_grid_point xs v.0) (a.0 (h.0, h.1)) (b.0 h.2),
                λ h. let u = and_parts (span_has x w.0) (has_grid_point xs v.0) h in let q = a.1 u.0 in (q.0, q.1, b.1 u.1),
              )
      inside w (inr v) = inr none
        where
          none : (y : List (ℕ × ℕ)) → InGrid d (g ∷ gs) y → Has (box_of (g ∷ gs) y) (p ∷ ps) → ⊥
          none [] u h = let e = u.0 in omega arith
          none (x ∷ xs) u h = v xs (rest_in x xs u) h.2

  -- ---- rows

  module _ {L : Type 0} (gs : List Cuts) where
    abbrev pub point_row : PlainCellBox L → Boxed L
    point_row x = (x.0, box_of gs x.1)

    abbrev pub OnGrid : List (PlainCellBox L) → Type 0
    OnGrid rows = (x : PlainCellBox L) → Among x rows → InGrid d gs x.1

    pub row_points : (rows : List (PlainCellBox L)) → OnGrid rows → (l : L) (p : List ℤ) (c : List ℕ) → ((y : List (ℕ × ℕ)) → length y ≡ length gs → Has (box_of gs y) p ↔ At y c) → InBoxes (map point_row rows) l p ↔ HasRow rows l c
    row_points rows on l p c e = (
      λ h.
          let w = (among_map point_row (l, h.0) rows).0 h.1 in
          let a : (w.0).0 ≡ l = ap (λ (z : Boxed L). z.0) w.2 in
          let b : box_of gs (w.0).1 ≡ h.0 = ap (λ (z : Boxed L). z.1) w.2 in
          ((w.0).1, subst (λ z. Among (z, (w.0).1) rows) a w.1, (e (w.0).1 (on w.0 w.1).0).0 (subst (λ z. Has z p) (sym b) h.2)),
      λ h. (box_of gs h.0, (among_map point_row (l, box_of gs h.0) rows).1 ((l, h.0), h.1, refl), (e h.0 (on (l, h.0) h.1).0).1 h.2),
    )

    pub no_points : (rows : List (PlainCellBox L)) → OnGrid rows → (l : L) (p : List ℤ) → ((y : List (ℕ × ℕ)) → InGrid d gs y → Has (box_of gs y) p → ⊥) → InBoxes (map point_row rows) l p → ⊥
    no_points rows on l p e h =
        let w = (among_map point_row (l, h.0) rows).0 h.1 in
        let b : box_of gs (w.0).1 ≡ h.0 = ap (λ (z : Boxed L). z.1) w.2 in
        e (w.0).1 (on w.0 w.1) (subst (λ z. Has z p) (sym b) h.2)
