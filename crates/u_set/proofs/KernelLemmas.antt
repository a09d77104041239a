-- What an operator by keys gives over the cells of a numbering is, by its numbers, the packed form of what it gives at points.
--     AreOn, grids, left_on, right_on, mapped_on      rows over the cells of the sides
--     left_grid_points, right_grid_points, relabelled_grid_points      what they have at points
--     packed_on, packed_grid_points      the same of their packed form
--     lengths, within      what the way back from cells asks for
--     form      the packed form
use Rattle.std.proofs.Common.{◌≡◌, ℕ, zero, suc, ◌+◌, ◌<◌, ◌≤◌, ℤ, pos, List, [], ◌∷◌, ◌++◌, map, length, get_or, ◌↔◌, inl, inr, arith, sym, ap, subst, refl, ◌∙◌, Ordering}
use Rattle.std.specs.Cmp.{IsTotalOrder}
use Rattle.std.specs.List.{All, AllByRecursion}
use Rattle.std.specs.List.Sorted.{IsStrictlySortedBy}
use Rattle.std.proofs.lemmas.Bool.{cases_lt}
use Rattle.std.proofs.lemmas.List.{length-map, length-append, append-nil}
use Rattle.std.proofs.lemmas.List.Elements.{recursion_from_All}
use Rattle.base_core.proofs.SetLemmas.{Separates}
use Rattle.cell_packing.specs.Boxed.{Boxed, packed_boxes, InBoxes}
use Rattle.cell_packing.specs.Covering.{Among}
use Rattle.cell_packing.specs.Packed.{Has, no_cells}
use Rattle.cell_packing.proofs.AmongLemmas.{among_map, each_from_members}
use Rattle.cell_packing.proofs.Cells.{Cuts, box_of}
use Rattle.cell_packing.proofs.Whole.{length_box}
use Rattle.cell_sweep.specs.Rows.{key_cmp}
use Rattle.cell_sweep.specs.PackedRows.{HasRow, IsPackedOf}
use Rattle.cell_boxes.specs.Answers.{IsPackedCover, IsBoxOf}
use Rattle.cell_boxes.specs.Common.{At}
use Rattle.cell_boxes.proofs.PointLemmas.{OnGrid, point_row, cell_at, row_points, no_points}
use Rattle.cell_core.specs.Boxes.{IsBox}
use Rattle.cell_core.specs.CellRows.{AreOverCells}
use Rattle.cell_core.specs.Cells.{grids_of, grid_box, grid_row, row_numbers, keys_from}
use Rattle.cell_core.specs.Numbering.{IsGrid}
use Rattle.cell_core.proofs.Assembly.{start, pick_from, box_same, length_cuts, length_grids, cut_count, grid_at, in_grid}
use Rattle.cell_core.proofs.BackLemmas.{box_length}
use Rattle.cell_core.proofs.Calls.{side_grid}
use Rattle.cell_core.proofs.KeyLemmas.{gs, rising, Fit, Low, own_rows, own_fits, fit_lengths, own_low, packed_form, packed_cells}
use Rattle.cell_core.proofs.PackedGridPoints.{AllHave, in_packed_box, from_packed_box, packed_from_same}
use Rattle.u_set.specs.Fewer.{IsSameOrPacked}

-- ---- members of lists

at_member : {X : Type 0} (A : X → Type 0) (xs : List X) → AllByRecursion A xs → (x : X) → Among x xs → A x
at_member A [] h x m = absurd m
at_member A (y ∷ ys) h x m = elim m [ inl e ↦ subst A e h.0 | inr w ↦ at_member A ys h.1 x w ]

past_end : {X : Type 0} (xs : List X) (s : ℕ) (d : X) → length xs ≤ s → get_or xs s d ≡ d
past_end [] s d h = refl
past_end (x ∷ xs) zero d h = absurd (omega arith)
past_end (x ∷ xs) (suc s) d h = past_end xs s d (omega arith)

-- ---- rows over the cells of sides

-- no side of the cells ends after the last cell
abbrev pub IsLow : {P : Type 0} → List (List P × List P × List (ℕ × ℕ)) → List (ℕ × ℕ) → Type 0
IsLow {P} ss y = (s : ℕ) (e : List P × List P × List (ℕ × ℕ)) → (get_or y s no_cells).1 ≤ length (get_or ss s e).0

-- cells for each of k sides, and no others than the sides have
abbrev pub AreOn : {X P : Type 0} → ℕ → List (List P × List P × List (ℕ × ℕ)) → List (X × List (ℕ × ℕ)) → Type 0
AreOn {X} {P} k ss rows = (x : X × List (ℕ × ℕ)) → Among x rows → (length x.1 ≡ k) × IsLow ss x.1

-- rows that keep their cells
pub mapped_on : {X Y P : Type 0} (k : ℕ) (ss : List (List P × List P × List (ℕ × ℕ))) (f : X × List (ℕ × ℕ) → Y × List (ℕ × ℕ)) → ((x : X × List (ℕ × ℕ)) → (f x).1 ≡ x.1) → (rows : List (X × List (ℕ × ℕ)))
    → AreOn k ss rows → AreOn k ss (map f rows)
mapped_on {Y = Y} k ss f same rows on y m =
    let w = (among_map f y rows).0 m in
    let e : (w.0).1 ≡ y.1 = sym (same w.0) ∙ ap (λ (z : Y × List (ℕ × ℕ)). z.1) w.2 in
    subst (λ z. (length z ≡ k) × IsLow ss z) e (on w.0 w.1)

-- under the labels that f makes, rows have at a place of points what f makes of the labels that they had there
pub relabelled_grid_points : {X Y : Type 0} (ns : List (List ℤ × ℤ)) (f : X → Y) (rows : List (X × List (ℕ × ℕ))) (l : Y) (p : List ℤ)
    → InBoxes (map (grid_row ns) (map (λ x. (f x.0, x.1)) rows)) l p ↔ ((m : X) × InBoxes (map (grid_row ns) rows) m p × (f m ≡ l))
relabelled_grid_points {X = X} {Y = Y} ns f rows l p = (
  λ h.
      let w = (among_map (grid_row ns) (l, h.0) (map g rows)).0 h.1 in
      let v = (among_map g w.0 rows).0 w.1 in
      let label : f (v.0).0 ≡ l = ap (λ (z : Y × List (ℕ × ℕ)). z.0) v.2 ∙ ap (λ (z : Boxed Y). z.0) w.2 in
      let box : grid_box ns (v.0).1 ≡ h.0 = ap (λ (z : Y × List (ℕ × ℕ)). grid_box ns z.1) v.2 ∙ ap (λ (z : Boxed Y). z.1) w.2 in
      ((v.0).0, (h.0, (among_map (grid_row ns) ((v.0).0, h.0) rows).1 (v.0, v.1, (λ t. ((v.0).0, box t))), h.2), label),
  λ h.
      let w = (among_map (grid_row ns) (h.0, (h.1).0) rows).0 (h.1).1 in
      let label : f (w.0).0 ≡ l = ap (λ (z : Boxed X). f z.0) w.2 ∙ h.2 in
      let box : grid_box ns (w.0).1 ≡ (h.1).0 = ap (λ (z : Boxed X). z.1) w.2 in
      ((h.1).0, (among_map (grid_row ns) (l, (h.1).0) (map g rows)).1 (g w.0, (among_map g (g w.0) rows).1 (w.0, w.1, refl), (λ t. (label t, box t))), (h.1).2),
)
  where
    g : X × List (ℕ × ℕ) → Y × List (ℕ × ℕ)
    g x = (f x.0, x.1)

module _ {T P L : Type 0} (n : P → ℤ) (has : T → P → Type 0) (high : T → ℤ) (point : (t : T) → P) (ts : List T) (left right : List (L × List (P × P)))
    (ss : List (List P × List P × List (ℕ × ℕ))) (ls rs : List (L × List (ℕ × ℕ))) (over : AreOverCells n has high ts left right ss ls rs) where
  abbrev S : Type 0
  S = List P × List P × List (ℕ × ℕ)

  abbrev k : ℕ
  k = length ts

  abbrev ns : List (List ℤ × ℤ)
  ns = grids_of n high ts ss

  abbrev all : List (List (P × P))
  all = map (λ (r : L × List (P × P)). r.1) left ++ map (λ (r : L × List (P × P)). r.1) right

  -- the sides as the way back asks for them
  pub grids : (j : ℕ) (t : T) (e : S) → j < k → IsGrid n (has (get_or ts j t)) (high (get_or ts j t)) (get_or ss j e)
  grids j t e h = side_grid n (has (get_or ts j t)) (high (get_or ts j t)) _ (get_or ss j e) (over.numbered j t (point t, point t) e h)

  count_all : length all ≡ length left + length right
  count_all =
      let a = length-map right (λ (r : L × List (P × P)). r.1) in
      let b = length-map left (λ (r : L × List (P × P)). r.1) in
      length-append (map (λ (r : L × List (P × P)). r.1) left) (map (λ (r : L × List (P × P)). r.1) right) ∙ (omega arith)

  sided : (rows : List (L × List (P × P))) → All (λ r. IsBox has ts r.1) rows → AllByRecursion (λ r. length r.1 ≡ k) rows
  sided rows h = recursion_from_All (λ (r : L × List (P × P)). length r.1 ≡ k) rows (λ j d l. box_length has ts _ (h j d l))

  -- ---- both rows over cells

  own_on : (first : ℕ) (rows : List (L × List (P × P))) → first + length rows ≤ length all → AreOn k ss (keys_from first rows ss)
  own_on first rows h x m = (
    at_member (λ (y : L × List (ℕ × ℕ)). length y.1 ≡ k) (keys_from first rows ss) (fit_lengths L n has high point ts ss all over.count over.numbered (keys_from first rows ss) (own_fits L n has high point ts ss all over.count over.numbered first rows h)) x m,
    at_member (Low L n has high point ts ss all over.count over.numbered) (keys_from first rows ss) (own_low L n has high point ts ss all over.count over.numbered first rows h) x m,
  )

  pub left_on : AreOn k ss ls
  left_on = subst (λ v. AreOn k ss v) (sym over.lefts) (own_on 0 left (let w = count_all in omega arith))

  pub right_on : AreOn k ss rs
  right_on = subst (λ v. AreOn k ss v) (sym over.rights) (own_on (length left) right (let w = count_all in omega arith))

  left_numbers : map (grid_row ns) ls ≡ map (row_numbers n) left
  left_numbers = ap (map (grid_row ns)) over.lefts ∙ own_rows L n has high point ts ss all over.count over.numbered (map (λ (r : L × List (P × P)). r.1) right) 0 [] left refl refl (sided left over.left_boxes)

  right_numbers : map (grid_row ns) rs ≡ map (row_numbers n) right
  right_numbers =
      ap (map (grid_row ns)) over.rights
      ∙ own_rows L n has high point ts ss all over.count over.numbered [] (length left) (map (λ (r : L × List (P × P)). r.1) left) right (sym (length-map left (λ (r : L × List (P × P)). r.1)))
      (ap (λ ys. map (λ (r : L × List (P × P)). r.1) left ++ ys) (sym (append-nil (map (λ (r : L × List (P × P)). r.1) right)))) (sided right over.right_boxes)

  -- at points they have what the rows have
  pub left_grid_points : (l : L) (p : List ℤ) → InBoxes (map (grid_row ns) ls) l p ↔ InBoxes (map (row_numbers n) left) l p
  left_grid_points l p = subst (λ bs. InBoxes (map (grid_row ns) ls) l p ↔ InBoxes bs l p) left_numbers (λ h. h, λ h. h)

  pub right_grid_points : (l : L) (p : List ℤ) → InBoxes (map (grid_row ns) rs) l p ↔ InBoxes (map (row_numbers n) right) l p
  right_grid_points l p = subst (λ bs. InBoxes (map (grid_row ns) rs) l p ↔ InBoxes bs l p) right_numbers (λ h. h, λ h. h)

  -- ---- the cuts of the sides, for rows under labels of X

  abbrev cuts : Type 0 → List Cuts
  cuts X = gs X n has high point ts ss all over.count over.numbered

  count_sides : (X : Type 0) → length (cuts X) ≡ k
  count_sides X = length_cuts ns (rising X n has high point ts ss all over.count over.numbered) ∙ length_grids n has high ts ss over.count

  count_cells : (X : Type 0) (j : ℕ) → j < k → (e : S) → (get_or (cuts X) j start).count ≡ length (get_or ss j e).0
  count_cells X j b e =
      let p = pick_from ts point (omega arith) in
      let g : length ns ≡ length ts = length_grids n has high ts ss over.count in
      let l : j < length ns = omega arith in
      cut_count start ns (rising X n has high point ts ss all over.count over.numbered) j ([], pos 0) l
      ∙ ap (λ (v : List ℤ × ℤ). length v.0) (grid_at n has high ts ss j p.0 e ([], pos 0) over.count b)
      ∙ length-map (get_or ss j e).0 n

  below : (X : Type 0) (y : List (ℕ × ℕ)) → IsLow ss y → (j : ℕ) → j < length (cuts X) → (get_or y j no_cells).1 ≤ (get_or (cuts X) j start).count
  below X y low j b =
      let e : S = ([], [], []) in
      let c = count_sides X in
      let q = count_cells X j (omega arith) e in
      let w = low j e in
      omega arith

  fits : {X : Type 0} (rows : List (X × List (ℕ × ℕ))) → AreOn k ss rows → AllByRecursion (Fit X n has high point ts ss all over.count over.numbered) rows
  fits {X = X} rows on = each_from_members (Fit X n has high point ts ss all over.count over.numbered) rows (λ z m.
      let w = on z m in
      (w.0 ∙ sym (count_sides X), in_grid start (cuts X) z.1 (length (cuts X)) (λ j b. below X z.1 w.1 j b)))

  lows : {X : Type 0} (rows : List (X × List (ℕ × ℕ))) → AreOn k ss rows → AllByRecursion (Low X n has high point ts ss all over.count over.numbered) rows
  lows {X = X} rows on = each_from_members (Low X n has high point ts ss all over.count over.numbered) rows (λ z m. (on z m).1)

  -- ---- rows at a place of points

  same_rows : {X : Type 0} (v : List (X × List (ℕ × ℕ))) → map (point_row start (cuts L)) v ≡ map (grid_row ns) v
  same_rows [] = refl
  same_rows (x ∷ xs) = λ t. (x.0, box_same ns (rising L n has high point ts ss all over.count over.numbered) x.1 t) ∷ same_rows xs t

  grid_on : {X : Type 0} (rows : List (X × List (ℕ × ℕ))) → AreOn k ss rows → OnGrid start (cuts L) rows
  grid_on rows on x m = let w = on x m in (w.0 ∙ sym (count_sides L), λ s b. below L x.1 w.1 s b)

  -- they have there what they have at its cells
  here : {X : Type 0} (rows : List (X × List (ℕ × ℕ))) → AreOn k ss rows → (l : X) (p : List ℤ) (c : List ℕ)
      → ((y : List (ℕ × ℕ)) → length y ≡ length (cuts L) → Has (box_of (cuts L) y) p ↔ At y c) → InBoxes (map (grid_row ns) rows) l p ↔ HasRow rows l c
  here rows on l p c h = subst (λ bs. InBoxes bs l p ↔ HasRow rows l c) (same_rows rows) (row_points start (cuts L) rows (grid_on rows on) l p c h)

  nowhere_else : {X : Type 0} (rows : List (X × List (ℕ × ℕ))) → AreOn k ss rows → (l : X) (p : List ℤ)
      → ((y : List (ℕ × ℕ)) → ((length y ≡ length (cuts L)) × ((s : ℕ) → s < length (cuts L) → (get_or y s no_cells).1 ≤ (get_or (cuts L) s start).count)) → Has (box_of (cuts L) y) p → ⊥) → InBoxes (map (grid_row ns) rows) l p → ⊥
  nowhere_else rows on l p h = subst (λ bs. InBoxes bs l p → ⊥) (same_rows rows) (no_points start (cuts L) rows (grid_on rows on) l p h)

  pub boxes_have : {X : Type 0} (rows : List (X × List (ℕ × ℕ))) → AreOn k ss rows → AllHave k (map (grid_row ns) rows)
  boxes_have {X = X} rows on x m =
      let w = (among_map (grid_row ns) x rows).0 m in
      let e : grid_box ns (w.0).1 ≡ x.1 = ap (λ (z : Boxed X). z.1) w.2 in
      ap length (sym e) ∙ ap length (sym (box_same ns (rising L n has high point ts ss all over.count over.numbered) (w.0).1)) ∙ length_box (cuts L) (w.0).1 ((on w.0 w.1).0 ∙ sym (count_sides L)) ∙ count_sides L

  -- ---- the packed form of rows on the sides

  module _ {X : Type 0} (rows v : List (X × List (ℕ × ℕ))) (on : AreOn k ss rows) (packed : (x : X × List (ℕ × ℕ)) → Among x v ↔ (length x.1 ≡ k) × IsPackedOf k rows x) where
    pub packed_within : (x : X × List (ℕ × ℕ)) → Among x v → (s : ℕ) (e : S) → s < k → ((get_or x.1 s no_cells).0 < (get_or x.1 s no_cells).1) × ((get_or x.1 s no_cells).1 ≤ length (get_or ss s e).0)
    packed_within x m s e b = packed_cells X n has high point ts ss all over.count over.numbered rows v (fits rows on) packed (lows rows on) x m s e b

    -- it is on the sides
    pub packed_on : AreOn k ss v
    packed_on x m =
        let many = ((packed x).0 m).0 in (
          many,
          λ s e. elim (cases_lt s k) [
            | inl b ↦ (packed_within x m s e b).1
            | inr b ↦ subst (λ (c : ℕ × ℕ). c.1 ≤ length (get_or ss s e).0) (sym (past_end x.1 s no_cells (omega arith))) (omega arith)
          ],
        )

    pub packed_is : (order : X → X → Ordering) → IsTotalOrder order → Separates order → IsStrictlySortedBy (key_cmp order) v → map (grid_row ns) v ≡ packed_boxes order k (map (grid_row ns) rows)
    packed_is order o same sorted = packed_form X n has high point ts ss all over.count over.numbered rows v (fits rows on) packed order o same sorted

    -- and has at each place of points what the rows have
    pub packed_grid_points : (order : X → X → Ordering) → IsTotalOrder order → Separates order → IsStrictlySortedBy (key_cmp order) v → (l : X) (p : List ℤ) → InBoxes (map (grid_row ns) v) l p ↔ InBoxes (map (grid_row ns) rows) l p
    packed_grid_points order o same sorted l p =
        let e = packed_is order o same sorted in
        let have = boxes_have rows on in (
          λ h. from_packed_box order o same k (map (grid_row ns) rows) have l p (subst (λ bs. InBoxes bs l p) e h),
          λ h. subst (λ bs. InBoxes bs l p) (sym e) (in_packed_box order o same k (map (grid_row ns) rows) have l p h),
        )

  -- ---- rows on the sides, as they are or packed

  module _ {X : Type 0} (order : X → X → Ordering) (rows v : List (X × List (ℕ × ℕ))) (on : AreOn k ss rows) (fewer : IsSameOrPacked order k rows v) where
    pub fewer_on : AreOn k ss v
    fewer_on = elim fewer [ inl e ↦ subst (λ (z : List (X × List (ℕ × ℕ))). AreOn k ss z) (sym e) on | inr w ↦ packed_on rows v on w.members ]

    -- they have at each place of points what the rows have
    pub fewer_grid_points : IsTotalOrder order → Separates order → (l : X) (p : List ℤ) → InBoxes (map (grid_row ns) v) l p ↔ InBoxes (map (grid_row ns) rows) l p
    fewer_grid_points o same l p = elim fewer [
      | inl e ↦ subst (λ (z : List (X × List (ℕ × ℕ))). InBoxes (map (grid_row ns) z) l p ↔ InBoxes (map (grid_row ns) rows) l p) (sym e) (λ h. h, λ h. h)
      | inr w ↦ packed_grid_points rows v on w.members order o same w.sorted l p
    ]

  -- ---- an operator on two lists over the cells: at each place F gives labels of those that they have there

  module _ {L' R' Q : Type 0} (ls' : List (L' × List (ℕ × ℕ))) (rs' : List (R' × List (ℕ × ℕ))) (lo : AreOn k ss ls') (ro : AreOn k ss rs') (F : (L' → Type 0) → (R' → Type 0) → Q → Type 0)
      (alike : (A A' : L' → Type 0) (B B' : R' → Type 0) → ((a : L') → A a ↔ A' a) → ((b : R') → B b ↔ B' b) → (l : Q) → F A B l → F A' B' l)
      (some : (A : L' → Type 0) (B : R' → Type 0) (l : Q) → F A B l → (a : L') × A a)
      (at_cells : Q → List ℕ → Type 0) (are : (l : Q) (grid_point : List ℕ) → length grid_point ≡ k → at_cells l grid_point ↔ F (λ a. HasRow ls' a grid_point) (λ b. HasRow rs' b grid_point) l)
      (end : List (ℕ × ℕ) → Type 0) (ended : (y : List (ℕ × ℕ)) → end y → IsBoxOf ls' y) (out : List (Q × List (ℕ × ℕ))) (cover : IsPackedCover k at_cells end out) where
    abbrev parts : List (Q × List (ℕ × ℕ))
    parts = cover.parts

    parts_on : AreOn k ss parts
    parts_on z m =
        let w = cover.ends z m in
        let y = ended w.0 w.1 in
        let low = (lo (y.0, w.0) y.1).1 in (
          at_member (λ (x : Q × List (ℕ × ℕ)). length x.1 ≡ k) parts (recursion_from_All (λ (x : Q × List (ℕ × ℕ)). length x.1 ≡ k) parts cover.sides) z m,
          λ s e. let a = low s e in let b = w.2 s in omega arith,
        )

    pub lengths : (x : Q × List (ℕ × ℕ)) → Among x out → length x.1 ≡ k
    lengths x m = ((cover.packed x).0 m).0

    -- each side of the rows has cells, and no others than the side's
    pub within : (x : Q × List (ℕ × ℕ)) → Among x out → (s : ℕ) (e : S) → s < k → ((get_or x.1 s no_cells).0 < (get_or x.1 s no_cells).1) × ((get_or x.1 s no_cells).1 ≤ length (get_or ss s e).0)
    within x m s e b = packed_within parts out parts_on cover.packed x m s e b

    abbrev AtLeft : List ℤ → L' → Type 0
    AtLeft p a = InBoxes (map (grid_row ns) ls') a p

    abbrev AtRight : List ℤ → R' → Type 0
    AtRight p b = InBoxes (map (grid_row ns) rs') b p

    grid_points : (l : Q) (p : List ℤ) → InBoxes (map (grid_row ns) parts) l p ↔ F (AtLeft p) (AtRight p) l
    grid_points l p = elim (cell_at start (cuts L) p) [
      | inl w ↦
          let c : List ℕ = w.0 in
          let a = λ (m : L'). here ls' lo m p c w.2 in
          let b = λ (m : R'). here rs' ro m p c w.2 in
          let x = here parts parts_on l p c w.2 in
          let i = cover.grid_points l c (w.1 ∙ count_sides L) in
          let j = are l c (w.1 ∙ count_sides L) in (
            λ h. alike (λ m. HasRow ls' m c) (AtLeft p) (λ m. HasRow rs' m c) (AtRight p) (λ m. ((a m).1, (a m).0)) (λ m. ((b m).1, (b m).0)) l (j.0 (i.0 (x.0 h))),
            λ h. x.1 (i.1 (j.1 (alike (AtLeft p) (λ m. HasRow ls' m c) (AtRight p) (λ m. HasRow rs' m c) a b l h))),
          )
      | inr w ↦ (
        λ h. absurd (nowhere_else parts parts_on l p w h),
        λ h. let v = some (AtLeft p) (AtRight p) l h in absurd (nowhere_else ls' lo v.0 p w v.1),
      )
    ]

    -- by their numbers the rows are the packed form of any boxes that have just these labels at points
    pub form : (order : Q → Q → Ordering) → IsTotalOrder order → Separates order → IsStrictlySortedBy (key_cmp order) out
        → (boxes : List (Boxed Q)) → AllHave k boxes
        → ((l : Q) (p : List ℤ) → InBoxes boxes l p ↔ F (λ a. InBoxes (map (grid_row ns) ls') a p) (λ b. InBoxes (map (grid_row ns) rs') b p) l)
        → map (grid_row ns) out ≡ packed_boxes order k boxes
    form order o same sorted boxes have e =
        packed_is parts out parts_on cover.packed order o same sorted
        ∙ packed_from_same order o same k (map (grid_row ns) parts) boxes (boxes_have parts parts_on) have (λ l p.
        let a = grid_points l p in
        let b = e l p in
        (λ h. b.1 (a.0 h), λ h. a.1 (b.0 h)))
