-- From the numbering of all sides to the packed form of the cells of a function over points.
use Rattle.std.proofs.Common.{◌≡◌, ℕ, zero, suc, ◌+◌, ◌<◌, ◌≤◌, ℤ, pos, ◌+ℤ◌, List, [], ◌∷◌, ◌++◌, map, length, get_or, ◌↔◌, ◌⊎◌, inl, inr, arith, sym, ap, subst, refl, ◌∙◌, Ordering, Option, Some, None}
use Rattle.std.specs.List.{All, AllByRecursion}
use Rattle.std.specs.List.Sorted.{IsStrictlySortedBy}
use Rattle.std.proofs.lemmas.List.{length-map, length-append}
use Rattle.std.proofs.lemmas.List.Elements.{recursion_from_All}
use Rattle.std.proofs.lemmas.Int.{ints}
use Rattle.cell_packing.specs.Packed.{no_cells, nowhere}
use Rattle.cell_packing.specs.Covering.{Among, CellFunction}
use Rattle.cell_packing.specs.Live.{box, IsSliceRow, IsSomewhere}
use Rattle.cell_packing.proofs.Cells.{Cuts, box_of, span_of}
use Rattle.cell_packing.proofs.Covered.{IsInGrid}
use Rattle.cell_packing.proofs.Whole.{cells_back, cuts_back, same_box}
use Rattle.point_core.specs.declared.fault.Fault.{Fault}
use Rattle.point_core.specs.LeastFault.{IsLeast}
use Rattle.cell_sweep.specs.Rows.{GivesLabel, GivesFault, key_cmp}
use Rattle.cell_core.specs.Numbering.{cut_at, Rises, span_at, numbers_of, IsSide}
use Rattle.cell_core.specs.Cells.{box_numbers, boxes_of, IsPackedForm, HasFault, rows_from, cells_at, side_of, grids_of, grid_box, grid_row}
use Rattle.cell_core.proofs.Numbers.{rises_next}
use Rattle.cell_core.proofs.Theorem.{row_of, rows_in_order, members, faults}
use Rattle.cell_sweep.proofs.LabelRows.{map_at}

-- the cuts as the mathematics has them
abbrev pub cuts_list : (ns : List (List ℤ × ℤ)) → AllByRecursion (λ g. Rises g.0 g.1) ns → List Cuts
cuts_list [] a = []
cuts_list (g ∷ ns) a = record { at = cut_at g.0 g.1; count = length g.0; rises = rises_next g.0 g.1 a.0 } ∷ cuts_list ns a.1

pub box_same : (ns : List (List ℤ × ℤ)) (a : AllByRecursion (λ g. Rises g.0 g.1) ns) (xs : List (ℕ × ℕ)) → box_of (cuts_list ns a) xs ≡ grid_box ns xs
box_same [] a xs = refl
box_same (g ∷ ns) a [] = refl
box_same (g ∷ ns) a (x ∷ xs) = ap (λ ys. span_at g.0 g.1 x ∷ ys) (box_same ns a.1 xs)

pub length_cuts : (ns : List (List ℤ × ℤ)) (a : AllByRecursion (λ g. Rises g.0 g.1) ns) → length (cuts_list ns a) ≡ length ns
length_cuts [] a = refl
length_cuts (g ∷ ns) a = ap suc (length_cuts ns a.1)

cut_span : (d : Cuts) (ns : List (List ℤ × ℤ)) (a : AllByRecursion (λ g. Rises g.0 g.1) ns) (j : ℕ) (e : List ℤ × ℤ) (x : ℕ × ℕ) → j < length ns → span_of (get_or (cuts_list ns a) j d) x ≡ span_at (get_or ns j e).0 (get_or ns j e).1 x
cut_span d [] a j e x h = absurd (omega arith)
cut_span d (g ∷ ns) a zero e x h = refl
cut_span d (g ∷ ns) a (suc j) e x h = cut_span d ns a.1 j e x (omega arith)

pub cut_count : (d : Cuts) (ns : List (List ℤ × ℤ)) (a : AllByRecursion (λ g. Rises g.0 g.1) ns) (j : ℕ) (e : List ℤ × ℤ) → j < length ns → (get_or (cuts_list ns a) j d).count ≡ length (get_or ns j e).0
cut_count d [] a j e h = absurd (omega arith)
cut_count d (g ∷ ns) a zero e h = refl
cut_count d (g ∷ ns) a (suc j) e h = cut_count d ns a.1 j e (omega arith)

pub in_grid : (d : Cuts) (gs : List Cuts) (y : List (ℕ × ℕ)) (j : ℕ) → ((i : ℕ) → i < j → (get_or y i no_cells).1 ≤ (get_or gs i d).count) → IsInGrid (cuts_back d j gs) (cells_back j y)
in_grid d gs y zero h = tt
in_grid d gs y (suc j) h = (h j (omega arith), in_grid d gs y j (λ i l. h i (omega arith)))

module _ {T P : Type 0} (n : P → ℤ) (has : T → P → Type 0) (high : T → ℤ) where
  abbrev S : Type 0
  S = List P × List P × List (ℕ × ℕ)

  pub length_grids : (ts : List T) (ss : List S) → length ss ≡ length ts → length (grids_of n high ts ss) ≡ length ts
  length_grids [] ss e = refl
  length_grids (t ∷ ts) [] e = absurd (omega arith)
  length_grids (t ∷ ts) (s ∷ ss) e = ap suc (length_grids ts ss (omega arith))

  pub grid_at : (ts : List T) (ss : List S) (j : ℕ) (t : T) (s : S) (e : List ℤ × ℤ) → length ss ≡ length ts → j < length ts → get_or (grids_of n high ts ss) j e ≡ (map n (get_or ss j s).0, high (get_or ts j t) +ℤ pos 1)
  grid_at [] ss j t s e l h = absurd (omega arith)
  grid_at (u ∷ ts) [] j t s e l h = absurd (omega arith)
  grid_at (u ∷ ts) (v ∷ ss) zero t s e l h = refl
  grid_at (u ∷ ts) (v ∷ ss) (suc j) t s e l h = grid_at ts ss j t s e (omega arith) (omega arith)

  pub all_rise : (ts : List T) (ss : List S) → length ss ≡ length ts → ((j : ℕ) (t : T) (s : S) → j < length ts → Rises (map n (get_or ss j s).0) (high (get_or ts j t) +ℤ pos 1)) → AllByRecursion (λ g. Rises g.0 g.1) (grids_of n high ts ss)
  all_rise [] ss e h = tt
  all_rise (t ∷ ts) [] e h = absurd (omega arith)
  all_rise (t ∷ ts) (s ∷ ss) e h = (h 0 t s (omega arith), all_rise ts ss (omega arith) (λ j u v l. h (suc j) u v (omega arith)))

  module _ (ts : List T) (ss : List S) (left right : List (List (P × P))) (boxes : List (List (ℕ × ℕ))) (len : length ss ≡ length ts)
      (pick : 0 < length ts → T × (P × P)) (s0 : S) (c0 : Cuts)
      (sides : (j : ℕ) (t : T) (d : P × P) (e : S) → j < length ts → IsSide n (has (get_or ts j t)) (high (get_or ts j t)) (map (side_of j d) (left ++ right)) (get_or ss j e))
      (rises : AllByRecursion (λ g. Rises g.0 g.1) (grids_of n high ts ss))
      (left_length : AllByRecursion (λ s. length s ≡ length ts) left) (right_length : AllByRecursion (λ s. length s ≡ length ts) right)
      (cells : (r : ℕ) → r < length left + length right → box boxes r ≡ map (cells_at r) ss) where
    abbrev gs : List Cuts
    gs = cuts_list (grids_of n high ts ss) rises

    abbrev all : List (List (P × P))
    all = left ++ right

    count : length gs ≡ length ts
    count = length_cuts (grids_of n high ts ss) rises ∙ length_grids ts ss len

    row_length : (xs : List (List (P × P))) → AllByRecursion (λ s. length s ≡ length ts) xs → (r : ℕ) → r < length xs → length (get_or xs r []) ≡ length ts
    row_length [] a r h = absurd (omega arith)
    row_length (x ∷ xs) a zero h = a.0
    row_length (x ∷ xs) a (suc r) h = row_length xs a.1 r (omega arith)

    both : (xs ys : List (List (P × P))) → AllByRecursion (λ s. length s ≡ length ts) xs → AllByRecursion (λ s. length s ≡ length ts) ys → AllByRecursion (λ s. length s ≡ length ts) (xs ++ ys)
    both [] ys a b = b
    both (x ∷ xs) ys a b = (a.0, both xs ys a.1 b)

    cell_of_side : (r j : ℕ) → r < length all → j < length ts → get_or (map (cells_at r) ss) j no_cells ≡ get_or (get_or ss j s0).2 r no_cells
    cell_of_side r j h l = map_at (cells_at r) ss j s0 no_cells (omega arith)

    total : length all ≡ length left + length right
    total = length-append left right

    matches : (r : ℕ) → r < length (boxes_of n left) + length (boxes_of n right) → box_of gs (box boxes r) ≡ get_or (boxes_of n left ++ boxes_of n right) r []
    matches r b =
        let m1 = length-map left (box_numbers n) in
        let m2 = length-map right (box_numbers n) in
        let b' : r < length left + length right = omega arith in
        let b2 : r < length all = (let w = total in omega arith) in
        let row : List (P × P) = get_or all r [] in
        let rl : length row ≡ length ts = row_length all (both left right left_length right_length) r b2 in
        let cl : length (map (cells_at r) ss) ≡ length gs = length-map ss (cells_at r) ∙ len ∙ sym count in
        let point : (j : ℕ) → j < length gs → get_or (map (numbers_of n) row) j nowhere ≡ span_of (get_or gs j c0) (get_or (map (cells_at r) ss) j no_cells) = λ j l.
        let j' : j < length ts = (let w = count in omega arith) in
        let t0 : T = (pick (omega arith)).0 in
        let d0 : P × P = (pick (omega arith)).1 in
        let s = sides j t0 d0 s0 j' in
        let g = grid_at ts ss j t0 s0 ([], pos 0) len j' in
        let jg : j < length (grids_of n high ts ss) = (let w = length_grids ts ss len in omega arith) in
        let in_row : j < length row = omega arith in
        let in_map : r < length (map (side_of j d0) all) = (let w = length-map all (side_of j d0) in omega arith) in
        map_at (numbers_of n) row j d0 nowhere in_row
        ∙ ap (numbers_of n) (sym (map_at (side_of j d0) all r [] d0 b2))
        ∙ sym (s.cells r d0 in_map)
        ∙ ap (λ x. span_at (map n (get_or ss j s0).0) (high (get_or ts j t0) +ℤ pos 1) x) (sym (cell_of_side r j b2 j'))
        ∙ ap (λ (w : List ℤ × ℤ). span_at w.0 w.1 (get_or (map (cells_at r) ss) j no_cells)) (sym g)
        ∙ sym (cut_span c0 (grids_of n high ts ss) rises j ([], pos 0) (get_or (map (cells_at r) ss) j no_cells) jg) in
        let q : map (numbers_of n) row ≡ box_of gs (map (cells_at r) ss) =
        same_box c0 gs (map (numbers_of n) row) (map (cells_at r) ss) (length-map row (numbers_of n) ∙ rl ∙ sym count) cl point in
        ap (box_of gs) (cells r b') ∙ sym q ∙ sym (map_at (box_numbers n) all r [] [] b2) ∙ ap (λ ys. get_or ys r []) (map_both left right)
      where
        map_both : (xs ys : List (List (P × P))) → map (box_numbers n) (xs ++ ys) ≡ boxes_of n xs ++ boxes_of n ys
        map_both [] ys = refl
        map_both (x ∷ xs) ys = ap (λ zs. box_numbers n x ∷ zs) (map_both xs ys)

    fits : (r : ℕ) → r < length (boxes_of n left) + length (boxes_of n right) → (length (box boxes r) ≡ length gs) × IsInGrid (cuts_back c0 (length gs) gs) (cells_back (length gs) (box boxes r))
    fits r b =
        let m1 = length-map left (box_numbers n) in
        let m2 = length-map right (box_numbers n) in
        let b' : r < length left + length right = omega arith in
        let b2 : r < length all = (let w = total in omega arith) in
        subst (λ y. (length y ≡ length gs) × IsInGrid (cuts_back c0 (length gs) gs) (cells_back (length gs) y)) (sym (cells r b')) (
          length-map ss (cells_at r) ∙ len ∙ sym count,
          in_grid c0 gs (map (cells_at r) ss) (length gs) (λ j l.
              let j' : j < length ts = (let w = count in omega arith) in
              let t0 : T = (pick (omega arith)).0 in
              let d0 : P × P = (pick (omega arith)).1 in
              let s = sides j t0 d0 s0 j' in
              let in_map : r < length (map (side_of j d0) all) = (let w = length-map all (side_of j d0) in omega arith) in
              let jg : j < length (grids_of n high ts ss) = (let w = length_grids ts ss len in omega arith) in
              let w = s.within r in_map in
              let e : length (map n (get_or ss j s0).0) ≡ length (get_or ss j s0).0 = length-map (get_or ss j s0).0 n in
              let f = cut_count c0 (grids_of n high ts ss) rises j ([], pos 0) jg ∙ ap (λ (v : List ℤ × ℤ). length v.0) (grid_at ts ss j t0 s0 ([], pos 0) len j') in
              subst (λ x. x.1 ≤ (get_or gs j c0).count) (sym (cell_of_side r j b2 j')) (omega arith)),
        )

    -- the rows of the slices, by their numbers, are the packed form of the cells of the function
    pub packed_form : {L F : Type 0} (order : L → L → Ordering) (f : CellFunction L F) (v : List (L × List (ℕ × ℕ)))
        → ((x : L × List (ℕ × ℕ)) → Among x v ↔ (length x.1 ≡ length gs) × IsSliceRow (length gs) (GivesLabel f (length (boxes_of n left))) boxes (rows_from 0 (length (boxes_of n left))) (rows_from (length (boxes_of n left)) (length (boxes_of n right))) x.0 x.1)
        → IsStrictlySortedBy (key_cmp order) v
        → IsPackedForm order (length gs) f (boxes_of n left) (boxes_of n right) (map (row_of gs) v)
    packed_form {L = L} order f v h s = record {
      sorted = rows_in_order order gs v (lengths v (λ x m. ((h x).0 m).0)) s;
      members = λ z. members f c0 gs boxes (boxes_of n left) (boxes_of n right) matches fits v h z;
    }
      where
        lengths : (xs : List (L × List (ℕ × ℕ))) → ((x : L × List (ℕ × ℕ)) → Among x xs → length x.1 ≡ length gs) → AllByRecursion (λ y. length y.1 ≡ length gs) xs
        lengths [] g = tt
        lengths (x ∷ xs) g = (g x (inl refl), lengths xs (λ y m. g y (inr m)))

    -- and the least fault over the cells is the least over the places
    pub least_fault : {L : Type 0} (f : CellFunction L Fault) (o : Option Fault)
        → IsLeast (λ e. (None ≡ Some e) ⊎ IsSomewhere (length gs) (GivesFault f (length (boxes_of n left))) boxes (rows_from 0 (length (boxes_of n left))) (rows_from (length (boxes_of n left)) (length (boxes_of n right))) e) o
        → IsLeast (HasFault (length gs) f (boxes_of n left) (boxes_of n right)) o
    least_fault f o s =
        let w = faults f c0 gs boxes (boxes_of n left) (boxes_of n right) matches fits in
        record {
          comes = λ e q. elim (s.comes e q) [ inl u ↦ cc | inr u ↦ (w e).0 u ];
          below = λ d q. s.below d (inr ((w d).1 q));
        }

pub pick_from : {T P : Type 0} (ts : List T) → ((t : T) → P) → 0 < length ts → T × (P × P)
pick_from [] p h = absurd (omega arith)
pick_from (t ∷ ts) p h = (t, (p t, p t))

pub start : Cuts
start = record { at = λ i. pos i; count = 0; rises = λ i. omega (arith, ints) }

-- the same in the words of the contract
module _ {T P : Type 0} (n : P → ℤ) (has : T → P → Type 0) (high : T → ℤ) (point : (t : T) → P) (ts : List T) (ss : List (List P × List P × List (ℕ × ℕ))) (left right : List (List (P × P))) (boxes : List (List (ℕ × ℕ))) (len : length ss ≡ length ts)
    (sides : (j : ℕ) (t : T) (d : P × P) (e : List P × List P × List (ℕ × ℕ)) → j < length ts → IsSide n (has (get_or ts j t)) (high (get_or ts j t)) (map (side_of j d) (left ++ right)) (get_or ss j e))
    (left_length : All (λ s. length s ≡ length ts) left) (right_length : All (λ s. length s ≡ length ts) right)
    (cells : (r : ℕ) → r < length left + length right → box boxes r ≡ map (cells_at r) ss) where
  rising : AllByRecursion (λ g. Rises g.0 g.1) (grids_of n high ts ss)
  rising = all_rise n has high ts ss len (λ j t s h. (sides j t (point t, point t) s h).rises)

  count_sides : length (cuts_list (grids_of n high ts ss) rising) ≡ length ts
  count_sides = length_cuts (grids_of n high ts ss) rising ∙ length_grids n has high ts ss len

  rows_same : {L : Type 0} (v : List (L × List (ℕ × ℕ))) → map (row_of (cuts_list (grids_of n high ts ss) rising)) v ≡ map (grid_row (grids_of n high ts ss)) v
  rows_same [] = refl
  rows_same (x ∷ xs) = λ t. (x.0, box_same (grids_of n high ts ss) rising x.1 t) ∷ rows_same xs t

  abbrev a : ℕ
  a = length left

  abbrev b : ℕ
  b = length right

  pub form : {L F : Type 0} (order : L → L → Ordering) (f : CellFunction L F) (v : List (L × List (ℕ × ℕ)))
      → ((x : L × List (ℕ × ℕ)) → Among x v ↔ (length x.1 ≡ length ts) × IsSliceRow (length ts) (GivesLabel f a) boxes (rows_from 0 a) (rows_from a b) x.0 x.1)
      → IsStrictlySortedBy (key_cmp order) v
      → IsPackedForm order (length ts) f (boxes_of n left) (boxes_of n right) (map (grid_row (grids_of n high ts ss)) v)
  form {L = L} order f v h s =
      let e1 : a ≡ length (boxes_of n left) = sym (length-map left (box_numbers n)) in
      let e2 : b ≡ length (boxes_of n right) = sym (length-map right (box_numbers n)) in
      let h' = λ (x : L × List (ℕ × ℕ)). subst (λ k. Among x v ↔ (length x.1 ≡ k) × IsSliceRow k (GivesLabel f (length (boxes_of n left))) boxes (rows_from 0 (length (boxes_of n left))) (rows_from (length (boxes_of n left)) (length (boxes_of n right))) x.0 x.1) (sym count_sides)
      (subst (λ m. Among x v ↔ (length x.1 ≡ length ts) × IsSliceRow (length ts) (GivesLabel f (length (boxes_of n left))) boxes (rows_from 0 (length (boxes_of n left))) (rows_from (length (boxes_of n left)) m) x.0 x.1) e2
      (subst (λ m. Among x v ↔ (length x.1 ≡ length ts) × IsSliceRow (length ts) (GivesLabel f m) boxes (rows_from 0 m) (rows_from m b) x.0 x.1) e1 (h x))) in
      subst (λ k. IsPackedForm order k f (boxes_of n left) (boxes_of n right) (map (grid_row (grids_of n high ts ss)) v)) count_sides
      (subst (IsPackedForm order (length (cuts_list (grids_of n high ts ss) rising)) f (boxes_of n left) (boxes_of n right)) (rows_same v)
      (packed_form n has high ts ss left right boxes len (pick_from ts point) ([], [], []) start sides rising
      (recursion_from_All (λ (s : List (P × P)). length s ≡ length ts) left left_length) (recursion_from_All (λ (s : List (P × P)). length s ≡ length ts) right right_length) cells order f v h' s))

  pub least : {L : Type 0} (f : CellFunction L Fault) (o : Option Fault)
      → IsLeast (λ e. (None ≡ Some e) ⊎ IsSomewhere (length ts) (GivesFault f a) boxes (rows_from 0 a) (rows_from a b) e) o
      → IsLeast (HasFault (length ts) f (boxes_of n left) (boxes_of n right)) o
  least f o s =
      let e1 : a ≡ length (boxes_of n left) = sym (length-map left (box_numbers n)) in
      let e2 : b ≡ length (boxes_of n right) = sym (length-map right (box_numbers n)) in
      let s' = subst (λ k. IsLeast (λ e. (None ≡ Some e) ⊎ IsSomewhere k (GivesFault f (length (boxes_of n left))) boxes (rows_from 0 (length (boxes_of n left))) (rows_from (length (boxes_of n left)) (length (boxes_of n right))) e) o) (sym count_sides)
      (subst (λ m. IsLeast (λ e. (None ≡ Some e) ⊎ IsSomewhere (length ts) (GivesFault f (length (boxes_of n left))) boxes (rows_from 0 (length (boxes_of n left))) (rows_from (length (boxes_of n left)) m) e) o) e2
      (subst (λ m. IsLeast (λ e. (None ≡ Some e) ⊎ IsSomewhere (length ts) (GivesFault f m) boxes (rows_from 0 m) (rows_from m b) e) o) e1 s)) in
      subst (λ k. IsLeast (HasFault k f (boxes_of n left) (boxes_of n right)) o) count_sides
      (least_fault n has high ts ss left right boxes len (pick_from ts point) ([], [], []) start sides rising
      (recursion_from_All (λ (s : List (P × P)). length s ≡ length ts) left left_length) (recursion_from_All (λ (s : List (P × P)). length s ≡ length ts) right right_length) cells f o s')
