-- Rows over numbered cells, packed: by their numbers they are the packed form of the rows.
use Rattle.std.proofs.Common.{◌≡◌, ◌≢◌, ℕ, zero, suc, ◌+◌, ◌<◌, ◌≤◌, Bool, true, ◌&&◌, ℤ, List, [], ◌∷◌, map, length, get_or, ◌↔◌, ◌⊎◌, inl, inr, arith, sym, ap, subst, refl, ◌∙◌, Ordering}
use Rattle.std.specs.Cmp.{IsTotalOrder}
use Rattle.std.specs.List.{filter, AllByRecursion}
use Rattle.std.specs.List.Sorted.{IsStrictlySortedBy}
use Rattle.std.specs.Int.RustNames.{int_le}
use Rattle.std.proofs.lemmas.Bool.{cases_lt, and_parts, and_from, true≢false}
use Rattle.base_core.proofs.SetLemmas.{Separates, Ascends-from_sorted}
use Rattle.base_core.proofs.IntLemmas.{int_le-le, le-int_le}
use Rattle.interval_core.specs.Members.{Span}
use Rattle.cell_packing.specs.Packed.{Has, IsIndexPackedTo, no_cells, packs, points_of}
use Rattle.cell_packing.specs.Covering.{Among, has}
use Rattle.cell_packing.specs.Live.{box, has_grid_point, InLive, IsSliceRow}
use Rattle.cell_packing.specs.Boxed.{Boxed, boxed_cmp, packed_boxes, InBoxes}
use Rattle.cell_packing.proofs.AmongLemmas.{among_map, among_filter}
use Rattle.cell_packing.proofs.Cells.{Cuts, box_of}
use Rattle.cell_packing.proofs.Chain.{Fits, InGridPoints, slices_are_packed, packed_some}
use Rattle.cell_packing.proofs.Covered.{IsInGrid}
use Rattle.cell_packing.proofs.Joined.{IsIndexRun-iff}
use Rattle.cell_packing.proofs.PackedBoxes.{packed_form_is}
use Rattle.cell_packing.proofs.Whole.{cells_back, cuts_back, length_box}
use Rattle.cell_sweep.specs.Rows.{key_cmp}
use Rattle.cell_sweep.specs.PackedRows.{HasRow, IsPackedOf}
use Rattle.cell_core.specs.Cells.{rows_from}
use Rattle.cell_core.proofs.Theorem.{packs-iff, points-iff, row_of, rows_in_order}
use Rattle.cell_core.proofs.OrderLemmas.{boxed_total, boxed_separates}

has_is : (x : List Span) (ps : List ℤ) → (has x ps ≡ true) ↔ Has x ps
has_is [] [] = (λ h. tt, λ h. refl)
has_is [] (p ∷ ps) = (λ h. absurd (true≢false (sym h)), λ h. absurd h)
has_is (i ∷ is) [] = (λ h. absurd (true≢false (sym h)), λ h. absurd h)
has_is (i ∷ is) (p ∷ ps) =
    let ih = has_is is ps in (
      λ h. let a = and_parts (int_le i.0 p) (int_le p i.1 && has is ps) h in let b = and_parts (int_le p i.1) (has is ps) a.1 in (int_le-le i.0 p a.0, int_le-le p i.1 b.0, ih.0 b.1),
      λ h. and_from (int_le i.0 p) (int_le p i.1 && has is ps) (le-int_le i.0 p h.0) (and_from (int_le p i.1) (has is ps) (le-int_le p i.1 h.1) (ih.1 h.2)),
    )

packed_to_iff : (j : ℕ) (S S' : List ℕ → Type 0) → ((grid_point : List ℕ) → S grid_point ↔ S' grid_point) → (y : List (ℕ × ℕ)) (rest : List ℕ) → IsIndexPackedTo j S y rest ↔ IsIndexPackedTo j S' y rest
packed_to_iff zero S S' h y rest = h rest
packed_to_iff (suc j) S S' h y rest =
    let at = get_or y j no_cells in (
      IsIndexRun-iff (λ i. IsIndexPackedTo j S y (i ∷ rest)) (λ i. IsIndexPackedTo j S' y (i ∷ rest)) (λ i. packed_to_iff j S S' h y (i ∷ rest)) at.0 at.1,
      IsIndexRun-iff (λ i. IsIndexPackedTo j S' y (i ∷ rest)) (λ i. IsIndexPackedTo j S y (i ∷ rest)) (λ i. let w = packed_to_iff j S S' h y (i ∷ rest) in (w.1, w.0)) at.0 at.1,
    )

-- ---- rows by their numbers

-- the row r has the label
abbrev IsLabelAt : {L : Type 0} → List (L × List (ℕ × ℕ)) → ℕ → L → Type 0
IsLabelAt [] r l = ⊥
IsLabelAt (x ∷ xs) zero l = x.0 ≡ l
IsLabelAt (x ∷ xs) (suc r) l = IsLabelAt xs r l

abbrev boxes_in : {L : Type 0} → List (L × List (ℕ × ℕ)) → List (List (ℕ × ℕ))
boxes_in rows = map (λ x. x.1) rows

-- of the live rows some has the label
abbrev HasLabel : {L : Type 0} → List (L × List (ℕ × ℕ)) → L → List ℕ → List ℕ → Type 0
HasLabel rows l a b = (r : ℕ) × Among r a × IsLabelAt rows r l

row_of_label : {L : Type 0} (rows : List (L × List (ℕ × ℕ))) (r : ℕ) (l : L) → IsLabelAt rows r l → Among (l, box (boxes_in rows) r) rows
row_of_label [] r l h = absurd h
row_of_label (x ∷ xs) zero l h = inl (λ i. (h i, x.1))
row_of_label (x ∷ xs) (suc r) l h = inr (row_of_label xs r l h)

label_of_row : {L : Type 0} (rows : List (L × List (ℕ × ℕ))) (l : L) (y : List (ℕ × ℕ)) → Among (l, y) rows → (r : ℕ) × (r < length rows) × IsLabelAt rows r l × (box (boxes_in rows) r ≡ y)
label_of_row [] l y m = absurd m
label_of_row {L = L} (x ∷ xs) l y m = elim m [
  | inl e ↦ (0, omega arith, ap (λ (z : L × List (ℕ × ℕ)). z.0) e, ap (λ (z : L × List (ℕ × ℕ)). z.1) e)
  | inr w ↦ let v = label_of_row xs l y w in let b : v.0 < length xs = v.1 in (suc v.0, omega arith, v.2, v.3)
]

from_among : (a n r : ℕ) → a ≤ r → r < a + n → Among r (rows_from a n)
from_among a zero r h g = absurd (omega arith)
from_among a (suc n) r h g = elim (cases_lt a r) [ inl l ↦ inr (from_among (suc a) n r (omega arith) (omega arith)) | inr l ↦ inl (omega arith) ]

abbrev none : List ℕ
none = []

module _ {L : Type 0} (rows : List (L × List (ℕ × ℕ))) (l : L) (t : List (ℕ × ℕ) → Bool) where
  abbrev live : List ℕ
  live = filter (λ r. t (box (boxes_in rows) r)) (rows_from 0 (length rows))

  some_row : ((live ≢ []) ⊎ (none ≢ [])) × HasLabel rows l live [] ↔ ((y : List (ℕ × ℕ)) × Among (l, y) rows × (t y ≡ true))
  some_row =
      let a = λ (r : ℕ). among_filter (λ r. t (box (boxes_in rows) r)) r (rows_from 0 (length rows)) in (
        λ h. let w = h.1 in (box (boxes_in rows) w.0, row_of_label rows w.0 l w.2, ((a w.0).0 w.1).1),
        λ h.
            let w = label_of_row rows l h.0 h.1 in
            let m : Among w.0 live = (a w.0).1 (from_among 0 (length rows) w.0 (omega arith) (omega (arith, w.1)), ap t w.3 ∙ h.2) in
            (inl (λ e. subst (Among w.0) e m), (w.0, m, w.2)),
      )

-- ---- the whole

module _ {L : Type 0} (order : L → L → Ordering) (o : IsTotalOrder order) (same : Separates order) (d : Cuts) (gs : List Cuts) (rows : List (L × List (ℕ × ℕ)))
    (fits : AllByRecursion (λ x. (length x.1 ≡ length gs) × IsInGrid (cuts_back d (length gs) gs) (cells_back (length gs) x.1)) rows) where
  abbrev k : ℕ
  k = length gs

  abbrev all : List ℕ
  all = rows_from 0 (length rows)

  abbrev Fit : L × List (ℕ × ℕ) → Type 0
  Fit x = (length x.1 ≡ k) × IsInGrid (cuts_back d k gs) (cells_back k x.1)

  fit_at : (r : ℕ) → r < length rows → (length (box (boxes_in rows) r) ≡ k) × IsInGrid (cuts_back d k gs) (cells_back k (box (boxes_in rows) r))
  fit_at r h = at rows r h fits
    where
      at : (xs : List (L × List (ℕ × ℕ))) (r : ℕ) → r < length xs → AllByRecursion Fit xs → (length (box (boxes_in xs) r) ≡ k) × IsInGrid (cuts_back d k gs) (cells_back k (box (boxes_in xs) r))
      at [] r h f = absurd (omega arith)
      at (x ∷ xs) zero h f = f.0
      at (x ∷ xs) (suc r) h f = at xs r (omega arith) f.1

  live_fits : (l : L) → AllByRecursion (Fits d gs (HasLabel rows) (boxes_in rows) all [] l) all
  live_fits l = from 0 (length rows) (omega arith)
    where
      from : (a n : ℕ) → a + n ≤ length rows → AllByRecursion (Fits d gs (HasLabel rows) (boxes_in rows) all [] l) (rows_from a n)
      from a zero h = tt
      from a (suc n) h = (fit_at a (omega arith), from (suc a) n (omega arith))

  at_cells : (l : L) (grid_point : List ℕ) → InLive (HasLabel rows) (boxes_in rows) all [] l grid_point ↔ HasRow rows l grid_point
  at_cells l grid_point = some_row rows l (λ y. has_grid_point y grid_point)

  at_points : (l : L) (grid_point : List ℤ) → InGridPoints d gs (HasLabel rows) (boxes_in rows) all [] l grid_point ↔ InBoxes (map (row_of gs) rows) l grid_point
  at_points l grid_point =
      let w = some_row rows l (λ y. has (box_of gs y) grid_point) in (
        λ h. let v = w.0 h in (box_of gs v.0, (among_map (row_of gs) (l, box_of gs v.0) rows).1 ((l, v.0), v.1, refl), (has_is (box_of gs v.0) grid_point).0 v.2),
        λ h.
            let v = (among_map (row_of gs) (l, h.0) rows).0 h.1 in
            let e : (v.0).0 ≡ l = ap (λ (z : Boxed L). z.0) v.2 in
            let q : box_of gs (v.0).1 ≡ h.0 = ap (λ (z : Boxed L). z.1) v.2 in
            w.1 ((v.0).1, subst (λ m. Among (m, (v.0).1) rows) e v.1, (has_is (box_of gs (v.0).1) grid_point).1 (subst (λ z. Has z grid_point) (sym q) h.2)),
      )

  abbrev Points : L → List ℤ → Type 0
  Points l = InBoxes (map (row_of gs) rows) l

  set_same : (l : L) (y : List Span) → packs k (points_of (InGridPoints d gs (HasLabel rows) (boxes_in rows) all [] l)) y ↔ packs k (points_of (Points l)) y
  set_same l y = packs-iff k (points_of (InGridPoints d gs (HasLabel rows) (boxes_in rows) all [] l)) (points_of (Points l)) (points-iff (InGridPoints d gs (HasLabel rows) (boxes_in rows) all [] l) (Points l) (at_points l)) y

  slice_same : (l : L) (y : List (ℕ × ℕ)) → IsSliceRow k (HasLabel rows) (boxes_in rows) all [] l y ↔ IsPackedOf k rows (l, y)
  slice_same l y = packed_to_iff k (InLive (HasLabel rows) (boxes_in rows) all [] l) (HasRow rows l) (at_cells l) y []

  module _ (v : List (L × List (ℕ × ℕ))) (packed : (x : L × List (ℕ × ℕ)) → Among x v ↔ (length x.1 ≡ k) × IsPackedOf k rows x) where
    members : (z : Boxed L) → Among z (map (row_of gs) v) ↔ ((length z.1 ≡ k) × packs k (points_of (Points z.0)) z.1)
    members z =
        let m = among_map (row_of gs) z v in (
          λ w.
              let u = m.0 w in
              let x : L × List (ℕ × ℕ) = u.0 in
              let a = (packed x).0 u.1 in
              let s = slices_are_packed d gs (HasLabel rows) (boxes_in rows) all [] x.0 (live_fits x.0) tt x.1 a.0 in
              subst (λ (z : Boxed L). (length z.1 ≡ k) × packs k (points_of (Points z.0)) z.1) u.2 (length_box gs x.1 a.0, (set_same x.0 (box_of gs x.1)).0 (s.1 ((slice_same x.0 x.1).1 a.1))),
          λ w.
              let p = (set_same z.0 z.1).1 w.1 in
              let y = packed_some d gs (HasLabel rows) (boxes_in rows) all [] z.0 (live_fits z.0) tt z.1 w.0 p in
              let s = slices_are_packed d gs (HasLabel rows) (boxes_in rows) all [] z.0 (live_fits z.0) tt y.0 y.1 in
              let r = s.0 (subst (λ u. packs k (points_of (InGridPoints d gs (HasLabel rows) (boxes_in rows) all [] z.0)) u) y.2 p) in
              m.1 ((z.0, y.0), (packed (z.0, y.0)).1 (y.1, (slice_same z.0 y.0).0 r), λ t. (z.0, sym y.2 t)),
        )

    lengths : (xs : List (L × List (ℕ × ℕ))) → ((x : L × List (ℕ × ℕ)) → Among x xs → length x.1 ≡ k) → AllByRecursion (λ y. length y.1 ≡ k) xs
    lengths [] g = tt
    lengths (x ∷ xs) g = (g x (inl refl), lengths xs (λ y m. g y (inr m)))

    row_lengths : (x : Boxed L) → Among x (map (row_of gs) rows) → length x.1 ≡ k
    row_lengths x m = at rows fits m
      where
        at : (xs : List (L × List (ℕ × ℕ))) → AllByRecursion Fit xs → Among x (map (row_of gs) xs) → length x.1 ≡ k
        at [] f m = absurd m
        at (y ∷ ys) f m = elim m [ inl e ↦ subst (λ (z : Boxed L). length z.1 ≡ k) e (length_box gs y.1 f.0.0) | inr w ↦ at ys f.1 w ]

    pub packed_on_grid : IsStrictlySortedBy (key_cmp order) v → map (row_of gs) v ≡ packed_boxes order k (map (row_of gs) rows)
    packed_on_grid s =
        packed_form_is (boxed_cmp order) (boxed_total o) (boxed_separates same) k (map (row_of gs) rows) (map (row_of gs) v) row_lengths
        (Ascends-from_sorted (boxed_cmp order) (map (row_of gs) v) (rows_in_order order gs v (lengths v (λ x m. ((packed x).0 m).0)) s)) members
