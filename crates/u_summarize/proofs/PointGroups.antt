-- What a rule gives of groups at cells is, by the numbers of points, what it gives at points.
--     parts_on      boxes of cells that end by rows stand on the sides
--     places      they have at points the labels that the rule gives there
--     faults      the faults at cells are those at points
--     packed_groups      the packed form
--     many_cells      there are as many rows over cells as rows
use Rattle.std.proofs.Common.{◌≡◌, ◌↔◌, inl, inr, ℕ, zero, suc, ◌<◌, ◌≤◌, ℤ, pos, List, [], ◌∷◌, ◌++◌, map, length, get_or, Result, Ok, Err, Ordering, arith, refl, sym, ap, ◌∙◌, subst}
use Rattle.std.specs.Cmp.{IsTotalOrder}
use Rattle.std.specs.List.{All, AllByRecursion}
use Rattle.std.proofs.lemmas.Bool.{and_parts, and_from}
use Rattle.std.proofs.lemmas.Int.{ints}
use Rattle.std.proofs.lemmas.List.{length-map}
use Rattle.std.proofs.lemmas.List.Elements.{recursion_from_All}
use Rattle.base_core.proofs.SetLemmas.{Separates}
use Rattle.value_core.specs.Values.{Row}
use Rattle.cell_packing.specs.Boxed.{Boxed, boxed_cmp, packed_boxes, InBoxes}
use Rattle.cell_packing.specs.Covering.{Among}
use Rattle.cell_packing.specs.Live.{span_has, has_grid_point}
use Rattle.cell_packing.specs.Packed.{Has, no_cells, points_of}
use Rattle.cell_packing.proofs.Cells.{Cuts, box_of, grid_point_of, rises_far, order_of_cells}
use Rattle.cell_packing.proofs.PackedBoxes.{in_packed_form, packed_ascends}
use Rattle.cell_sweep.specs.PackedRows.{HasRow}
use Rattle.cell_boxes.specs.Common.{At, EndsBy}
use Rattle.cell_boxes.specs.Rows.{PlainCellBox}
use Rattle.cell_sweep.proofs.LabelRows.{some_of}
use Rattle.cell_sweep.proofs.Sweeping.{cell_has, span_from}
use Rattle.cell_boxes.proofs.PointLemmas.{InGrid, OnGrid, point_row, cell_at, row_points, no_points}
use Rattle.cell_boxes.proofs.RowLemmas.{row_all, among_row}
use Rattle.cell_core.specs.Boxes.{IsBox}
use Rattle.cell_core.specs.CellRows.{AreOverCells}
use Rattle.cell_core.specs.Cells.{grids_of, grid_box, grid_row, row_numbers}
use Rattle.cell_core.proofs.Assembly.{start, pick_from, box_same, length_cuts, length_grids, cut_count, grid_at}
use Rattle.cell_core.proofs.BackLemmas.{box_length, among_get}
use Rattle.cell_core.proofs.KeyLemmas.{gs, rising, own_rows}
use Rattle.cell_core.proofs.OrderLemmas.{boxed_total, boxed_separates}
use Rattle.cell_core.proofs.PackedGridPoints.{AllHave}
use Rattle.cell_core.proofs.Theorem.{packs-iff, points-iff}
use Rattle.u_set.proofs.KernelLemmas.{AreOn, IsLow, left_on}
use Rattle.u_summarize.specs.Asked.{HasCells, InCellGroup, HasCellFault}
use Rattle.u_summarize.specs.Groups.{AreFirsts, OfFirsts, labels_in, sides_in, HasPlace, InGroupRule, HasGroupFault, IsGroupForm}
use Rattle.u_summarize.proofs.AskedLemmas.{get_in}
use Rattle.u_row.proofs.AllRowsLemmas.{sorted_ascends}

-- ---- groups of rows that have alike places

module _ (by : List ℕ) (labels : List Row) (H H' : ℕ → Type 0) (alike : (r : ℕ) → r < length labels → H r ↔ H' r) where
  firsts_alike : (key : Row) (a : List ℕ) → AreFirsts by labels H key a → AreFirsts by labels H' key a
  firsts_alike key a g = record {
    order = g.order;
    members = λ r. (
      λ m.
          let w = (g.members r).0 m in
          let l = (w.0).0 in
          ((l, (alike r l).0 (w.0).1, λ s k h e. (w.0).2 s k ((alike s (omega (arith, l, k))).1 h) e), w.1),
      λ w.
          let l = (w.0).0 in
          (g.members r).1 ((l, (alike r l).1 (w.0).1, λ s k h e. (w.0).2 s k ((alike s (omega (arith, l, k))).0 h) e), w.1),
    );
  }

  pub of_alike : (V : List ℕ → Type 0) → OfFirsts by labels H V → OfFirsts by labels H' V
  of_alike V h = (h.0, h.1, firsts_alike h.0 h.1 h.2, h.3, h.4)

-- where no row has the place there is none
pub none_there : (by : List ℕ) (labels : List Row) (H : ℕ → Type 0) (V : List ℕ → Type 0) → ((r : ℕ) → r < length labels → H r → ⊥) → OfFirsts by labels H V → ⊥
none_there by labels H V empty h =
    let w = some_of h.1 h.3 in
    let f = (h.2.members w.0).0 w.1 in
    empty w.0 (f.0).0 (f.0).1

-- ---- the first numbers of cells are a place of just these cells

cell_place : (gs : List Cuts) (c : List ℕ) → length c ≡ length gs → (y : List (ℕ × ℕ)) → length y ≡ length gs → Has (box_of gs y) (grid_point_of gs c) ↔ At y c
cell_place [] [] e y q = (λ h. refl, λ h. tt)
cell_place [] (i ∷ is) e y q = absurd (omega (arith, e))
cell_place (g ∷ gs) [] e y q = absurd (omega (arith, e))
cell_place (g ∷ gs) (i ∷ is) e [] q = absurd (omega (arith, q))
cell_place (g ∷ gs) (i ∷ is) e (x ∷ xs) q =
    let b = cell_place gs is (omega (arith, e)) xs (omega (arith, q)) in
    let up = g.rises i in (
      λ h.
          let h0 = h.0 in
          let h1 = h.1 in
          let l : x.0 < suc i = order_of_cells g x.0 (suc i) (omega (arith, ints)) in
          let m : i < x.1 = order_of_cells g i x.1 (omega (arith, ints)) in
          and_from (span_has x i) (has_grid_point xs is) (span_from x i (omega (arith, l)) m) (b.0 h.2),
      λ h.
          let u = and_parts (span_has x i) (has_grid_point xs is) h in
          let w = cell_has x i u.0 in
          let f = rises_far g x.0 i w.0 in
          let k = rises_far g (suc i) x.1 w.1 in
          (f, omega (arith, ints), b.1 u.1),
    )

-- ---- rows of points and of cells by their numbers

pub labels_grid : (ns : List (List ℤ × ℤ)) (xs : List (PlainCellBox Row)) → labels_in (map (grid_row ns) xs) ≡ labels_in xs
labels_grid ns [] = refl
labels_grid ns (x ∷ xs) = ap (λ ls. x.0 ∷ ls) (labels_grid ns xs)

pub sides_grid : (ns : List (List ℤ × ℤ)) (xs : List (PlainCellBox Row)) (r : ℕ) → r < length xs → get_or (sides_in (map (grid_row ns) xs)) r [] ≡ grid_box ns (get_or (sides_in xs) r [])
sides_grid ns [] r l = absurd (omega arith)
sides_grid ns (x ∷ xs) zero l = refl
sides_grid ns (x ∷ xs) (suc r) l = sides_grid ns xs r (omega arith)

module _ {T P : Type 0} (n : P → ℤ) (has : T → P → Type 0) (high : T → ℤ) (point : (t : T) → P) (ts : List T) (left right : List (Row × List (P × P)))
    (ss : List (List P × List P × List (ℕ × ℕ))) (ls rs : List (PlainCellBox Row)) (over : AreOverCells n has high ts left right ss ls rs) where
  abbrev S : Type 0
  S = List P × List P × List (ℕ × ℕ)

  abbrev k : ℕ
  k = length ts

  abbrev ns : List (List ℤ × ℤ)
  ns = grids_of n high ts ss

  abbrev all : List (List (P × P))
  all = map (λ (r : Row × List (P × P)). r.1) left ++ map (λ (r : Row × List (P × P)). r.1) right

  abbrev numbers : List (Boxed Row)
  numbers = map (row_numbers n) left

  sided : All (λ r. IsBox has ts r.1) left → AllByRecursion (λ r. length r.1 ≡ k) left
  sided h = recursion_from_All (λ (r : Row × List (P × P)). length r.1 ≡ k) left (λ j d l. box_length has ts _ (h j d l))

  left_numbers : map (grid_row ns) ls ≡ numbers
  left_numbers = ap (map (grid_row ns)) over.lefts ∙ own_rows Row n has high point ts ss all over.count over.numbered (map (λ (r : Row × List (P × P)). r.1) right) 0 [] left refl refl (sided over.left_boxes)

  same_labels : labels_in ls ≡ labels_in numbers
  same_labels = sym (labels_grid ns ls) ∙ ap labels_in left_numbers

  pub many_cells : length ls ≡ length left
  many_cells = sym (length-map ls (grid_row ns)) ∙ ap length left_numbers ∙ length-map left (row_numbers n)

  -- ---- the cuts of the sides

  abbrev cuts : List Cuts
  cuts = gs Row n has high point ts ss all over.count over.numbered

  count_sides : length cuts ≡ k
  count_sides = length_cuts ns (rising Row n has high point ts ss all over.count over.numbered) ∙ length_grids n has high ts ss over.count

  count_cells : (j : ℕ) → j < k → (e : S) → (get_or cuts j start).count ≡ length (get_or ss j e).0
  count_cells j b e =
      let p = pick_from ts point (omega arith) in
      let g : length ns ≡ length ts = length_grids n has high ts ss over.count in
      let l : j < length ns = omega arith in
      cut_count start ns (rising Row n has high point ts ss all over.count over.numbered) j ([], pos 0) l
      ∙ ap (λ (v : List ℤ × ℤ). length v.0) (grid_at n has high ts ss j p.0 e ([], pos 0) over.count b)
      ∙ length-map (get_or ss j e).0 n

  below : (y : List (ℕ × ℕ)) → IsLow ss y → (j : ℕ) → j < length cuts → (get_or y j no_cells).1 ≤ (get_or cuts j start).count
  below y low j b =
      let e : S = ([], [], []) in
      let c = count_sides in
      let q = count_cells j (omega arith) e in
      let w = low j e in
      omega arith

  same_box : (y : List (ℕ × ℕ)) → box_of cuts y ≡ grid_box ns y
  same_box y = box_same ns (rising Row n has high point ts ss all over.count over.numbered) y

  same_rows : (v : List (PlainCellBox Row)) → map (point_row start cuts) v ≡ map (grid_row ns) v
  same_rows [] = refl
  same_rows (x ∷ xs) = λ t. (x.0, same_box x.1 t) ∷ same_rows xs t

  on_grid : (rows : List (PlainCellBox Row)) → AreOn k ss rows → OnGrid start cuts rows
  on_grid rows on x m = let w = on x m in (w.0 ∙ sym count_sides, λ s b. below x.1 w.1 s b)

  -- ---- the rows at a place of points

  own : AreOn k ss ls
  own = left_on n has high point ts left right ss ls rs over

  -- the cells of a row stand on the sides
  side_on : (r : ℕ) → r < length (labels_in ls) → InGrid start cuts (get_or (sides_in ls) r [])
  side_on r l =
      let c = length-map ls (λ (x : PlainCellBox Row). x.0) in
      let none : PlainCellBox Row = ([], []) in
      let w = on_grid ls own (get_or ls r none) (among_get ls r none (omega (arith, l, c))) in
      subst (InGrid start cuts) (sym (get_in (λ (x : PlainCellBox Row). x.1) ls r none)) w

  box_at : (r : ℕ) → r < length (labels_in ls) → get_or (sides_in numbers) r [] ≡ box_of cuts (get_or (sides_in ls) r [])
  box_at r l =
      let c = length-map ls (λ (x : PlainCellBox Row). x.0) in
      ap (λ bs. get_or (sides_in bs) r []) (sym left_numbers) ∙ sides_grid ns ls r (omega (arith, l, c)) ∙ sym (same_box (get_or (sides_in ls) r []))

  module _ (p : List ℤ) (c : List ℕ) (iff : (y : List (ℕ × ℕ)) → length y ≡ length cuts → Has (box_of cuts y) p ↔ At y c) where
    has_alike : (r : ℕ) → r < length (labels_in ls) → HasCells ls c r ↔ HasPlace numbers p r
    has_alike r l =
        let w = iff (get_or (sides_in ls) r []) (side_on r l).0 in
        let e = box_at r l in
        (λ q. subst (λ z. Has z p) (sym e) (w.1 q), λ q. w.0 (subst (λ z. Has z p) e q))

    to_points : (by : List ℕ) (V : List ℕ → Type 0) → OfFirsts by (labels_in ls) (HasCells ls c) V → OfFirsts by (labels_in numbers) (HasPlace numbers p) V
    to_points by V h = subst (λ labels. OfFirsts by labels (HasPlace numbers p) V) same_labels (of_alike by (labels_in ls) (HasCells ls c) (HasPlace numbers p) has_alike V h)

    to_cells : (by : List ℕ) (V : List ℕ → Type 0) → OfFirsts by (labels_in numbers) (HasPlace numbers p) V → OfFirsts by (labels_in ls) (HasCells ls c) V
    to_cells by V h =
        of_alike by (labels_in ls) (HasPlace numbers p) (HasCells ls c) (λ r l. let w = has_alike r l in (w.1, w.0)) V
        (subst (λ labels. OfFirsts by labels (HasPlace numbers p) V) (sym same_labels) h)

  nowhere : (p : List ℤ) → ((y : List (ℕ × ℕ)) → InGrid start cuts y → Has (box_of cuts y) p → ⊥) → (by : List ℕ) (V : List ℕ → Type 0) → OfFirsts by (labels_in numbers) (HasPlace numbers p) V → ⊥
  nowhere p empty by V h =
      none_there by (labels_in ls) (HasPlace numbers p) V (λ r l q. empty (get_or (sides_in ls) r []) (side_on r l) (subst (λ z. Has z p) (box_at r l) q))
      (subst (λ labels. OfFirsts by labels (HasPlace numbers p) V) (sym same_labels) h)

  -- ---- faults

  pub faults : {F : Type 0} (f : List ℕ → Result Row F) (by : List ℕ) (e : F) → HasCellFault k f by ls e ↔ HasGroupFault f by numbers e
  faults f by e = (
    λ h. (grid_point_of cuts h.0, to_points (grid_point_of cuts h.0) h.0 (cell_place cuts h.0 (h.1 ∙ sym count_sides)) by (λ a. f a ≡ Err e) h.2),
    λ h. elim (cell_at start cuts h.0) [
      | inl w ↦ (w.0, w.1 ∙ count_sides, to_cells h.0 w.0 w.2 by (λ a. f a ≡ Err e) h.1)
      | inr w ↦ absurd (nowhere h.0 w by (λ a. f a ≡ Err e) h.1)
    ],
  )

  -- ---- boxes that have the labels

  module _ {F : Type 0} (f : List ℕ → Result Row F) (by : List ℕ) (parts : List (PlainCellBox Row)) (long : All (λ (x : PlainCellBox Row). length x.1 ≡ k) parts)
      (ends : (z : PlainCellBox Row) → Among z parts → (x : PlainCellBox Row) × Among x ls × EndsBy x.1 z.1)
      (at_cells : (l : Row) (place : List ℕ) → length place ≡ k → HasRow parts l place ↔ InCellGroup f by ls l place) where
    pub parts_on : AreOn k ss parts
    parts_on z m =
        let w = ends z m in
        let low = (own w.0 w.1).1 in
        let i = among_row parts z m in (
          row_all (λ (x : PlainCellBox Row). length x.1 ≡ k) parts long i.0 z i.1,
          λ s e. let a = low s e in let b = w.2 s in omega arith,
        )

    pub places : (l : Row) (p : List ℤ) → InBoxes (map (grid_row ns) parts) l p ↔ InGroupRule f by numbers l p
    places l p = elim (cell_at start cuts p) [
      | inl w ↦
          let x : InBoxes (map (grid_row ns) parts) l p ↔ HasRow parts l w.0 = subst (λ bs. InBoxes bs l p ↔ HasRow parts l w.0) (same_rows parts) (row_points start cuts parts (on_grid parts parts_on) l p w.0 w.2) in
          let i = at_cells l w.0 (w.1 ∙ count_sides) in (
            λ h. to_points p w.0 w.2 by (λ a. f a ≡ Ok l) (i.0 (x.0 h)),
            λ h. x.1 (i.1 (to_cells p w.0 w.2 by (λ a. f a ≡ Ok l) h)),
          )
      | inr w ↦ (
        λ h. absurd (no_points start cuts parts (on_grid parts parts_on) l p w (subst (λ bs. InBoxes bs l p) (sym (same_rows parts)) h)),
        λ h. absurd (nowhere p w by (λ a. f a ≡ Ok l) h),
      )
    ]

-- ---- the packed form

pub packed_groups : {F : Type 0} (order : Row → Row → Ordering) → IsTotalOrder order → Separates order → (k : ℕ) (f : List ℕ → Result Row F) (by : List ℕ) (rows cells : List (Boxed Row)) → AllHave k cells
    → ((l : Row) (place : List ℤ) → InBoxes cells l place ↔ InGroupRule f by rows l place) → IsGroupForm order k f by rows (packed_boxes order k cells)
packed_groups order o same k f by rows cells have h = record {
  sorted = sorted_ascends (boxed_cmp order) (packed_boxes order k cells) (packed_ascends (boxed_cmp order) (boxed_total o) (boxed_separates same) k cells);
  members = λ x.
      let a = in_packed_form (boxed_cmp order) (boxed_total o) (boxed_separates same) k cells have x in
      let s = packs-iff k (points_of (InBoxes cells x.0)) (points_of (InGroupRule f by rows x.0)) (points-iff (InBoxes cells x.0) (InGroupRule f by rows x.0) (h x.0)) x.1 in
      (λ m. let v = a.0 m in (v.0, s.0 v.1), λ v. a.1 (v.0, s.1 v.1));
}
