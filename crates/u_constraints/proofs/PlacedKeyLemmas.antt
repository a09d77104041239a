-- Packed boxes of cells under parts of their labels: they are apart exactly where the labels at a place are told apart by their parts.
use Rattle.std.proofs.Common.{◌≡◌, ℕ, zero, suc, ◌+◌, ◌<◌, ◌≤◌, ℤ, pos, List, [], ◌∷◌, ◌++◌, map, length, get_or, ◌↔◌, inl, inr, arith, refl, sym, ap, ◌∙◌, subst, Ordering}
use Rattle.std.specs.declared.cmp.Ordering.TheVariants.{Less, Equal}
use Rattle.std.specs.Cmp.{IsTotalOrder, tied_itself}
use Rattle.std.specs.List.{All, AllByRecursion, list_all}
use Rattle.std.specs.List.Sorted.{IsStrictlySortedBy}
use Rattle.std.proofs.lemmas.Bool.{cases_lt, and_parts, and_from}
use Rattle.std.proofs.lemmas.Int.{ints}
use Rattle.std.proofs.lemmas.List.{length-map, length-append}
use Rattle.std.proofs.lemmas.List.Elements.{recursion_from_All}
use Rattle.base_core.proofs.SetLemmas.{In, Ascends, Separates, In-from_Contains, Ascends-from_sorted}
use Rattle.base_core.proofs.SetOperatorLemmas.{AllAfter-In}
use Rattle.cell_packing.specs.Boxed.{Boxed, boxed_cmp, packed_boxes, InBoxes}
use Rattle.cell_packing.specs.Covering.{Among}
use Rattle.cell_packing.specs.Live.{span_has, has_grid_point}
use Rattle.cell_packing.specs.Packed.{Has, no_cells}
use Rattle.cell_packing.proofs.AmongLemmas.{among_map, all_from_members}
use Rattle.cell_packing.proofs.Cells.{Cuts, rises_far, box_of}
use Rattle.cell_sweep.specs.Rows.{key_cmp}
use Rattle.cell_sweep.specs.PackedRows.{IsPackedOf}
use Rattle.cell_boxes.specs.Apartness.{AreApart}
use Rattle.cell_boxes.specs.Common.{At, has_cell, HaveCells}
use Rattle.cell_boxes.specs.Rows.{IsRow}
use Rattle.cell_boxes.proofs.GridPointLemmas.{cell_from, grid_point_of_cells}
use Rattle.cell_sweep.proofs.Sweeping.{cell_has}
use Rattle.cell_boxes.proofs.PointLemmas.{cell_at, InGrid}
use Rattle.cell_boxes.proofs.RowLemmas.{row_among, among_row, one_row, map_row, row_map}
use Rattle.cell_core.specs.CellRows.{AreOverCells}
use Rattle.cell_core.specs.Cells.{grids_of, grid_box, grid_row, row_numbers}
use Rattle.cell_core.proofs.Assembly.{start, pick_from, box_same, length_cuts, length_grids, cut_count, grid_at}
use Rattle.cell_core.proofs.BackLemmas.{box_length}
use Rattle.cell_core.proofs.KeyLemmas.{gs, rising, Fit, Low, own_rows, own_fits, own_low, rows_have, packed_form, packed_cells, key_order}
use Rattle.cell_core.proofs.OneSide.{among_all}
use Rattle.cell_core.proofs.OrderLemmas.{boxed_total}
use Rattle.cell_core.proofs.PackedGridPoints.{AllHave, in_packed_box, from_packed_box, one_box}
use Rattle.u_row.specs.Labels.{relabelled}

-- ---- rows that ascend

row_less : {X : Type 0} (cmp : X → X → Ordering) (xs : List X) → Ascends cmp xs → (i j : ℕ) (x y : X) → i < j → IsRow xs i x → IsRow xs j y → cmp x y ≡ Less
row_less cmp [] up i j x y l a b = absurd (let m = a.0 in omega arith)
row_less cmp (z ∷ zs) up i zero x y l a b = absurd (omega arith)
row_less cmp (z ∷ zs) up zero (suc j) x y l a b =
    let m = b.0 in
    let i : In y zs = In-from_Contains zs y (j, omega (arith, m), b.1) in
    subst (λ u. cmp u y ≡ Less) a.1 ((AllAfter-In cmp z zs).0 up.0 y i)
row_less cmp (z ∷ zs) up (suc i) (suc j) x y l a b =
    let m = a.0 in
    let n = b.0 in
    row_less cmp zs up.1 i j x y (omega (arith, l)) (omega (arith, m), a.1) (omega (arith, n), b.1)

-- ---- cells and numbers

-- the first number of each cell
abbrev begins : List Cuts → List ℕ → List ℤ
begins [] c = []
begins (g ∷ rest) [] = []
begins (g ∷ rest) (i ∷ is) = g.at i ∷ begins rest is

has_begins : (grid : List Cuts) (c : List ℕ) (y : List (ℕ × ℕ)) → length c ≡ length grid → length y ≡ length grid → At y c → Has (box_of grid y) (begins grid c)
has_begins [] c y e f h = tt
has_begins (g ∷ rest) [] y e f h = absurd (omega (arith, e))
has_begins (g ∷ rest) (i ∷ is) [] e f h = absurd (omega (arith, f))
has_begins (g ∷ rest) (i ∷ is) (x ∷ xs) e f h =
    let u = and_parts (span_has x i) (has_grid_point xs is) h in
    let w = cell_has x i u.0 in
    let a = rises_far g x.0 i w.0 in
    let b = rises_far g (suc i) x.1 w.1 in
    let r = g.rises i in
    (a, omega (arith, ints), has_begins rest is xs (omega (arith, e)) (omega (arith, f)) u.1)

have_cells : (y : List (ℕ × ℕ)) → ((s : ℕ) → s < length y → (get_or y s no_cells).0 < (get_or y s no_cells).1) → HaveCells y
have_cells [] h = refl
have_cells (x ∷ xs) h = and_from (has_cell x) (list_all has_cell xs) (cell_from x (h 0 (omega arith))) (have_cells xs (λ s l. h (suc s) (omega (arith, l))))

-- ---- the packed boxes of a numbering

module _ {T P L : Type 0} (n : P → ℤ) (has : T → P → Type 0) (high : T → ℤ) (point : (t : T) → P) (ts : List T) (boxes none : List (L × List (P × P)))
    (ss : List (List P × List P × List (ℕ × ℕ))) (ls rs : List (L × List (ℕ × ℕ))) (over : AreOverCells n has high ts boxes none ss ls rs)
    (order : L → L → Ordering) (o : IsTotalOrder order) (same : Separates order) (v : List (L × List (ℕ × ℕ)))
    (packed : (x : L × List (ℕ × ℕ)) → Among x v ↔ (length x.1 ≡ length ts) × IsPackedOf (length ts) ls x) (sorted : IsStrictlySortedBy (key_cmp order) v) where
  abbrev S : Type 0
  S = List P × List P × List (ℕ × ℕ)

  abbrev k : ℕ
  k = length ts

  abbrev ns : List (List ℤ × ℤ)
  ns = grids_of n high ts ss

  abbrev all : List (List (P × P))
  all = map (λ (r : L × List (P × P)). r.1) boxes ++ map (λ (r : L × List (P × P)). r.1) none

  abbrev cuts : List Cuts
  cuts = gs L n has high point ts ss all over.count over.numbered

  abbrev B : List (Boxed L)
  B = map (row_numbers n) boxes

  count_all : 0 + length boxes ≤ length all
  count_all =
      let a = length-map boxes (λ (r : L × List (P × P)). r.1) in
      let b = length-append (map (λ (r : L × List (P × P)). r.1) boxes) (map (λ (r : L × List (P × P)). r.1) none) in
      omega (arith, a, b)

  sided : AllByRecursion (λ r. length r.1 ≡ k) boxes
  sided = recursion_from_All (λ (r : L × List (P × P)). length r.1 ≡ k) boxes (λ j d l. box_length has ts _ (over.left_boxes j d l))

  have : AllHave k B
  have = rows_have n k boxes sided

  fits : AllByRecursion (Fit L n has high point ts ss all over.count over.numbered) ls
  fits = subst (λ xs. AllByRecursion (Fit L n has high point ts ss all over.count over.numbered) xs) (sym over.lefts) (own_fits L n has high point ts ss all over.count over.numbered 0 boxes count_all)

  lows : AllByRecursion (Low L n has high point ts ss all over.count over.numbered) ls
  lows = subst (λ xs. AllByRecursion (Low L n has high point ts ss all over.count over.numbered) xs) (sym over.lefts) (own_low L n has high point ts ss all over.count over.numbered 0 boxes count_all)

  numbers : map (grid_row ns) ls ≡ B
  numbers = ap (map (grid_row ns)) over.lefts ∙ own_rows L n has high point ts ss all over.count over.numbered (map (λ (r : L × List (P × P)). r.1) none) 0 [] boxes refl refl sided

  -- by their numbers they are the packed form of the boxes
  form : map (grid_row ns) v ≡ packed_boxes order k B
  form = packed_form L n has high point ts ss all over.count over.numbered ls v fits packed order o same sorted ∙ ap (packed_boxes order k) numbers

  pub form_lengths : (x : L × List (ℕ × ℕ)) → Among x v → length x.1 ≡ k
  form_lengths x m = ((packed x).0 m).0

  pub form_cells : (x : L × List (ℕ × ℕ)) → Among x v → HaveCells x.1
  form_cells x m =
      let l = form_lengths x m in
      have_cells x.1 (λ s b. (packed_cells L n has high point ts ss all over.count over.numbered ls v fits packed lows x m s ([], [], []) (omega (arith, b, l))).0)

  count_sides : length cuts ≡ k
  count_sides = length_cuts ns (rising L n has high point ts ss all over.count over.numbered) ∙ length_grids n has high ts ss over.count

  count_cells : (j : ℕ) → j < k → (e : S) → (get_or cuts j start).count ≡ length (get_or ss j e).0
  count_cells j b e =
      let p = pick_from ts point (omega (arith, b)) in
      let g : length ns ≡ length ts = length_grids n has high ts ss over.count in
      let l : j < length ns = omega (arith, g, b) in
      cut_count start ns (rising L n has high point ts ss all over.count over.numbered) j ([], pos 0) l
      ∙ ap (λ (v : List ℤ × ℤ). length v.0) (grid_at n has high ts ss j p.0 e ([], pos 0) over.count b)
      ∙ length-map (get_or ss j e).0 n

  on_grid : (x : L × List (ℕ × ℕ)) → Among x v → InGrid start cuts x.1
  on_grid x m =
      let l = form_lengths x m in
      let c = count_sides in (
        l ∙ sym c,
        λ s b.
            let e : S = ([], [], []) in
            let i : s < k = omega (arith, b, c) in
            let q = count_cells s i e in
            let w = (packed_cells L n has high point ts ss all over.count over.numbered ls v fits packed lows x m s e i).1 in
            omega (arith, q, w),
      )

  grid_same : (y : List (ℕ × ℕ)) → box_of cuts y ≡ grid_box ns y
  grid_same y = box_same ns (rising L n has high point ts ss all over.count over.numbered) y

  -- a place of the boxes is one of the packed ones
  into_form : (l : L) (p : List ℤ) → InBoxes B l p → (y : List (ℕ × ℕ)) × Among (l, y) v × Has (box_of cuts y) p
  into_form l p g =
      let w = in_packed_box order o same k B have l p g in
      let m : Among (l, w.0) (map (grid_row ns) v) = subst (λ bs. Among (l, w.0) bs) (sym form) w.1 in
      let u = (among_map (grid_row ns) (l, w.0) v).0 m in
      let a : (u.0).0 ≡ l = ap (λ (z : Boxed L). z.0) u.2 in
      let b : grid_box ns (u.0).1 ≡ w.0 = ap (λ (z : Boxed L). z.1) u.2 in
      ((u.0).1, subst (λ z. Among (z, (u.0).1) v) a u.1, subst (λ z. Has z p) (sym (grid_same (u.0).1 ∙ b)) w.2)

  among_form : (x : L × List (ℕ × ℕ)) → Among x v → Among (grid_row ns x) (packed_boxes order k B)
  among_form x m = subst (λ bs. Among (grid_row ns x) bs) form ((among_map (grid_row ns) (grid_row ns x) v).1 (x, m, refl))

  -- and the other way round
  from_form : (x : L × List (ℕ × ℕ)) → Among x v → (p : List ℤ) → Has (box_of cuts x.1) p → InBoxes B x.0 p
  from_form x m p h = from_packed_box order o same k B have x.0 p (grid_box ns x.1, among_form x m, subst (λ z. Has z p) (grid_same x.1) h)

  -- what holds of the label of each box holds of those of the packed ones
  pub form_labels : (Q : L → Type 0) → All (λ b. Q b.0) boxes → All (λ x. Q x.0) v
  form_labels Q h = all_from_members (λ (x : L × List (ℕ × ℕ)). Q x.0) v (λ x m.
      let c = grid_point_of_cells x.1 (form_cells x m) in
      let l = form_lengths x m in
      let g = from_form x m (begins cuts c.0) (has_begins cuts c.0 x.1 (c.1 ∙ l ∙ sym count_sides) (l ∙ sym count_sides) c.2) in
      let w = (among_map (row_numbers n) (x.0, g.0) boxes).0 g.1 in
      let e : (w.0).0 ≡ x.0 = ap (λ (z : Boxed L). z.0) w.2 in
      subst Q e (among_all (λ (b : L × List (P × P)). Q b.0) boxes w.0 h w.1))

  module _ {M : Type 0} (f : L → M) (order' : M → M → Ordering) (o' : IsTotalOrder order') (same' : Separates order') where
    -- of the labels at one place no two are of one part
    abbrev AreTold : Type 0
    AreTold = (l m : L) (place : List ℤ) → InBoxes B l place → InBoxes B m place → f l ≡ f m → l ≡ m

    told : AreApart order' k (map (relabelled f) v) → AreTold
    told h l m place a b e =
        let x = into_form l place a in
        let y = into_form m place b in
        let rx = among_row v (l, x.0) x.1 in
        let ry = among_row v (m, y.0) y.1 in
        let tie : order' (f l) (f m) ≡ Equal = subst (λ z. order' (f l) z ≡ Equal) e (tied_itself o' (f l)) in
        let back : order' (f m) (f l) ≡ Equal = subst (λ z. order' z (f l) ≡ Equal) e (tied_itself o' (f l)) in
        let u = map_row (relabelled f) v rx.0 (l, x.0) rx.1 in
        let w = map_row (relabelled f) v ry.0 (m, y.0) ry.1 in
        elim (cell_at start cuts place) [
          | inl c ↦
              let ax : At x.0 c.0 = (c.2 x.0 (on_grid (l, x.0) x.1).0).0 x.2 in
              let ay : At y.0 c.0 = (c.2 y.0 (on_grid (m, y.0) y.1).0).0 y.2 in
              elim (cases_lt rx.0 ry.0) [
                | inl i ↦ absurd (h rx.0 ry.0 (f l, x.0) (f m, y.0) i u w tie c.0 (c.1 ∙ count_sides) ax ay)
                | inr i ↦ elim (cases_lt ry.0 rx.0) [
                  | inl j ↦ absurd (h ry.0 rx.0 (f m, y.0) (f l, x.0) j w u back c.0 (c.1 ∙ count_sides) ay ax)
                  | inr j ↦
                      let q : rx.0 ≡ ry.0 = omega (arith, i, j) in
                      ap (λ (z : L × List (ℕ × ℕ)). z.0) (one_row v ry.0 (l, x.0) (m, y.0) (subst (λ r. IsRow v r (l, x.0)) q rx.1) ry.1)
                ]
              ]
          | inr none ↦ absurd (none x.0 (on_grid (l, x.0) x.1) x.2)
        ]

    apart : AreTold → AreApart order' k (map (relabelled f) v)
    apart h i j x y l rx ry eq place len ax ay =
        let u = row_map (relabelled f) v i x rx in
        let t = row_map (relabelled f) v j y ry in
        let a : L × List (ℕ × ℕ) = u.0 in
        let b : L × List (ℕ × ℕ) = t.0 in
        let ma = row_among v i a u.1 in
        let mb = row_among v j b t.1 in
        let sa : a.1 ≡ x.1 = ap (λ (z : M × List (ℕ × ℕ)). z.1) u.2 in
        let sb : b.1 ≡ y.1 = ap (λ (z : M × List (ℕ × ℕ)). z.1) t.2 in
        let labels : f a.0 ≡ f b.0 = ap (λ (z : M × List (ℕ × ℕ)). z.0) u.2 ∙ same' x.0 y.0 eq ∙ sym (ap (λ (z : M × List (ℕ × ℕ)). z.0) t.2) in
        let la = form_lengths a ma in
        let lb = form_lengths b mb in
        let p : List ℤ = begins cuts place in
        let ha = has_begins cuts place a.1 (len ∙ sym count_sides) (la ∙ sym count_sides) (subst (λ z. At z place) (sym sa) ax) in
        let hb = has_begins cuts place b.1 (len ∙ sym count_sides) (lb ∙ sym count_sides) (subst (λ z. At z place) (sym sb) ay) in
        let one : a.0 ≡ b.0 = h a.0 b.0 p (from_form a ma p ha) (from_form b mb p hb) labels in
        let box : grid_box ns a.1 ≡ grid_box ns b.1 =
        one_box order o same k B have a.0 p (grid_box ns a.1) (grid_box ns b.1) (among_form a ma) (subst (λ z. Among (z, grid_box ns b.1) (packed_boxes order k B)) (sym one) (among_form b mb))
        (subst (λ z. Has z p) (grid_same a.1) ha) (subst (λ z. Has z p) (grid_same b.1) hb) in
        let row : grid_row ns a ≡ grid_row ns b = λ s. (one s, box s) in
        let less : key_cmp order a b ≡ Less = row_less (key_cmp order) v (Ascends-from_sorted (key_cmp order) v sorted) i j a b l u.1 t.1 in
        let tie : boxed_cmp order (grid_row ns a) (grid_row ns b) ≡ key_cmp order a b = key_order L n has high point ts ss all over.count over.numbered order a b la lb in
        let equal : boxed_cmp order (grid_row ns a) (grid_row ns b) ≡ Equal = subst (λ z. boxed_cmp order (grid_row ns a) z ≡ Equal) row (tied_itself (boxed_total o) (grid_row ns a)) in
        let clash : Less ≡ Equal = sym less ∙ sym tie ∙ equal in
        cc

    pub told_apart : AreApart order' k (map (relabelled f) v) ↔ AreTold
    told_apart = (told, apart)
