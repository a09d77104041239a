-- Rows over the cells of numbered sides: by their numbers they are the rows, and their packed form is that of the rows.
use Rattle.std.proofs.Common.{◌≡◌, ℕ, zero, suc, ◌+◌, ◌<◌, ◌≤◌, ℤ, pos, ◌+ℤ◌, List, [], ◌∷◌, ◌++◌, map, take, length, get_or, ◌↔◌, inl, inr, arith, sym, ap, subst, refl, ◌∙◌, Ordering}
use Rattle.std.specs.Cmp.{IsTotalOrder}
use Rattle.std.specs.List.{AllByRecursion}
use Rattle.std.specs.List.Sorted.{IsStrictlySortedBy}
use Rattle.std.specs.Ordering.{ordering_then}
use Rattle.std.proofs.lemmas.Bool.{cases_lt}
use Rattle.std.proofs.lemmas.List.{length-map, length_push, append_assoc}
use Rattle.base_core.proofs.SetLemmas.{Separates}
use Rattle.cell_packing.specs.Packed.{no_cells}
use Rattle.cell_packing.specs.Covering.{Among}
use Rattle.cell_packing.specs.Boxed.{Boxed, boxed_cmp, packed_boxes}
use Rattle.cell_packing.proofs.Cells.{Cuts}
use Rattle.cell_packing.proofs.Covered.{IsInGrid}
use Rattle.cell_packing.proofs.Whole.{cells_back, cuts_back}
use Rattle.cell_sweep.specs.Rows.{key_cmp}
use Rattle.cell_sweep.specs.PackedRows.{HasRow, IsPackedOf}
use Rattle.cell_core.specs.Numbering.{Rises, span_at, numbers_of, IsSide}
use Rattle.cell_core.specs.Cells.{box_numbers, cells_at, side_of, grids_of, grid_box, grid_row, row_numbers, keys_from}
use Rattle.cell_core.proofs.Theorem.{row_of, box_order}
use Rattle.cell_core.proofs.Assembly.{cuts_list, box_same, length_cuts, length_grids, grid_at, cut_count, in_grid, all_rise, pick_from, start}
use Rattle.cell_sweep.proofs.LabelRows.{map_at}
use Rattle.cell_core.proofs.CellsBack.{cells_bound, grid_point_in}
use Rattle.cell_core.proofs.BackLemmas.{box_back}
use Rattle.cell_core.proofs.PackedGridPoints.{AllHave}
use Rattle.cell_core.proofs.OnGrid.{packed_on_grid}

-- one more row, at a step of a loop
pub one_more_key : {L X P : Type 0} (first : ℕ) (rows : List (L × X)) (ss : List (P × P × List (ℕ × ℕ))) (i : ℕ) (x : L × X) → i < length rows → x ≡ get_or rows i x
    → keys_from first (take (suc i) rows) ss ≡ keys_from first (take i rows) ss ++ (x.0, map (cells_at (first + i)) ss) ∷ []
one_more_key first [] ss i x h e = absurd (omega arith)
one_more_key first (y ∷ ys) ss zero x h e =
    let z : first ≡ first + 0 = omega arith in
    let q : y.0 ≡ x.0 = ap (λ w. w.0) (sym e) in
    λ t. (q t, map (cells_at (z t)) ss) ∷ []
one_more_key first (y ∷ ys) ss (suc i) x h e =
    let z : suc first + i ≡ first + suc i = omega arith in
    ap (λ ks. (y.0, map (cells_at first) ss) ∷ ks) (one_more_key (suc first) ys ss i x (omega arith) e ∙ ap (λ m. keys_from (suc first) (take i ys) ss ++ (x.0, map (cells_at m) ss) ∷ []) z)

pub key_step : {L X P : Type 0} (first : ℕ) (rows : List (L × X)) (ss : List (P × P × List (ℕ × ℕ))) (i : ℕ) (x : L × X) (old out new : List (L × List (ℕ × ℕ))) (label : L) (cells : List (ℕ × ℕ)) → i < length rows → x ≡ get_or rows i x
    → out ≡ old ++ keys_from first (take i rows) ss → new ≡ out ++ (label, cells) ∷ [] → label ≡ x.0 → cells ≡ map (cells_at (first + i)) ss → new ≡ old ++ keys_from first (take (i + 1) rows) ss
key_step first rows ss i x old out new label cells h e inv push el ec =
    let s : suc i ≡ i + 1 = omega arith in
    push ∙ (λ t. inv t ++ (el t, ec t) ∷ []) ∙ append_assoc old (keys_from first (take i rows) ss) ((x.0, map (cells_at (first + i)) ss) ∷ []) ∙ ap (λ ks. old ++ ks) (sym (one_more_key first rows ss i x h e)) ∙ ap (λ m. old ++ keys_from first (take m rows) ss) s

keys_more : {L X P : Type 0} (first : ℕ) (rows : List (L × X)) (x : L × X) (ss : List (P × P × List (ℕ × ℕ))) → keys_from first (rows ++ x ∷ []) ss ≡ keys_from first rows ss ++ (x.0, map (cells_at (first + length rows)) ss) ∷ []
keys_more first [] x ss = let e : first ≡ first + 0 = omega arith in ap (λ m. (x.0, map (cells_at m) ss) ∷ []) e
keys_more first (y ∷ ys) x ss =
    let z : suc first + length ys ≡ first + suc (length ys) = omega arith in
    ap (λ ks. (y.0, map (cells_at first) ss) ∷ ks) (keys_more (suc first) ys x ss ∙ ap (λ m. keys_from (suc first) ys ss ++ (x.0, map (cells_at m) ss) ∷ []) z)

pub key_moved : {L X P : Type 0} (first : ℕ) (rows : List (L × X)) (ss : List (P × P × List (ℕ × ℕ))) (at : ℕ) (x : L × X) (old out new : List (L × List (ℕ × ℕ))) (label : L) (cells : List (ℕ × ℕ)) → at ≡ first + length rows
    → out ≡ old ++ keys_from first rows ss → new ≡ out ++ (label, cells) ∷ [] → label ≡ x.0 → cells ≡ map (cells_at at) ss → new ≡ old ++ keys_from first (rows ++ x ∷ []) ss
key_moved first rows ss at x old out new label cells e inv push el ec =
    push ∙ (λ t. inv t ++ (el t, (ec ∙ ap (λ m. map (cells_at m) ss) e) t) ∷ []) ∙ append_assoc old (keys_from first rows ss) ((x.0, map (cells_at (first + length rows)) ss) ∷ []) ∙ ap (λ ks. old ++ ks) (sym (keys_more first rows x ss))

pub take_whole : {X : Type 0} (xs : List X) (r : ℕ) → length xs ≤ r → take r xs ≡ xs
take_whole [] zero h = refl
take_whole [] (suc r) h = refl
take_whole (x ∷ xs) zero h = absurd (omega arith)
take_whole (x ∷ xs) (suc r) h = ap (λ ys. x ∷ ys) (take_whole xs r (omega arith))

pub keys_whole : {L X P : Type 0} (first : ℕ) (rows : List (L × X)) (ss : List (P × P × List (ℕ × ℕ))) (r : ℕ) → length rows ≤ r → keys_from first (take r rows) ss ≡ keys_from first rows ss
keys_whole first rows ss r h = ap (λ xs. keys_from first xs ss) (take_whole rows r h)

get_after : {X : Type 0} (pre : List X) (x : X) (post : List X) (r : ℕ) (d : X) → r ≡ length pre → get_or (pre ++ x ∷ post) r d ≡ x
get_after [] x post zero d e = refl
get_after [] x post (suc r) d e = absurd (omega arith)
get_after (y ∷ pre) x post zero d e = absurd (omega arith)
get_after (y ∷ pre) x post (suc r) d e = get_after pre x post r d (omega arith)

within_append : {X : Type 0} (pre : List X) (x : X) (post : List X) (r : ℕ) → r ≡ length pre → r < length (pre ++ x ∷ post)
within_append [] x post r e = omega arith
within_append (y ∷ pre) x post zero e = omega arith
within_append (y ∷ pre) x post (suc r) e = let w = within_append pre x post r (omega arith) in omega arith

-- rows of k sides are, by their numbers, boxes of k sides
pub rows_have : {P L : Type 0} (n : P → ℤ) (k : ℕ) (rows : List (L × List (P × P))) → AllByRecursion (λ r. length r.1 ≡ k) rows → AllHave k (map (row_numbers n) rows)
rows_have n k [] h x m = absurd m
rows_have n k (y ∷ ys) h x m = elim m [
  | inl e ↦ let p : length (box_numbers n y.1) ≡ length x.1 = ap (λ (z : Boxed _). length z.1) e in sym p ∙ length-map y.1 (numbers_of n) ∙ h.0
  | inr w ↦ rows_have n k ys h.1 x w
]

module _ {T P : Type 0} (L : Type 0) (n : P → ℤ) (has : T → P → Type 0) (high : T → ℤ) (point : (t : T) → P) (ts : List T) (ss : List (List P × List P × List (ℕ × ℕ))) (all : List (List (P × P))) (len : length ss ≡ length ts)
    (sides : (j : ℕ) (t : T) (d : P × P) (e : List P × List P × List (ℕ × ℕ)) → j < length ts → IsSide n (has (get_or ts j t)) (high (get_or ts j t)) (map (side_of j d) all) (get_or ss j e)) where
  abbrev pub S : Type 0
  S = List P × List P × List (ℕ × ℕ)

  abbrev pub CellBox : Type 0
  CellBox = L × List (ℕ × ℕ)

  abbrev pub Row : Type 0
  Row = L × List (P × P)

  abbrev pub ns : List (List ℤ × ℤ)
  ns = grids_of n high ts ss

  pub rising : AllByRecursion (λ g. Rises g.0 g.1) ns
  rising = all_rise n has high ts ss len (λ j t s h. (sides j t (point t, point t) s h).rises)

  abbrev pub gs : List Cuts
  gs = cuts_list ns rising

  grids : length ns ≡ length ts
  grids = length_grids n has high ts ss len

  count_sides : length gs ≡ length ts
  count_sides = length_cuts ns rising ∙ grids

  rows_same : (v : List CellBox) → map (row_of gs) v ≡ map (grid_row ns) v
  rows_same [] = refl
  rows_same (x ∷ xs) = λ t. (x.0, box_same ns rising x.1 t) ∷ rows_same xs t

  own_side : (r : ℕ) (s : List (P × P)) → r < length all → get_or all r s ≡ s → (j : ℕ) (t : T) (d : P × P) (e : S) → j < length ts
      → numbers_of n (get_or s j d) ≡ span_at (map n (get_or ss j e).0) (high (get_or ts j t) +ℤ pos 1) (get_or (map (cells_at r) ss) j (0, 0))
  own_side r s h q j t d e l =
      let a : get_or (map (side_of j d) all) r d ≡ get_or s j d = map_at (side_of j d) all r s d h ∙ ap (side_of j d) q in
      let many : length (map (side_of j d) all) ≡ length all = length-map all (side_of j d) in
      let w = sides j t d e l in
      ap (numbers_of n) (sym a) ∙ sym (w.cells r d (omega arith)) ∙ ap (span_at (map n (get_or ss j e).0) (high (get_or ts j t) +ℤ pos 1)) (sym (map_at (cells_at r) ss j e (0, 0) (omega arith)))

  own_box : (r : ℕ) (s : List (P × P)) → r < length all → get_or all r s ≡ s → length s ≡ length ts → grid_box ns (map (cells_at r) ss) ≡ box_numbers n s
  own_box r s h q m = sym (box_back n high ts ss (map (cells_at r) ss) s len (length-map ss (cells_at r) ∙ len) m (own_side r s h q))

  -- ---- rows that are some of those that were numbered

  module _ (post : List (List (P × P))) where
    pub own_rows : (first : ℕ) (before : List (List (P × P))) (rows : List Row) → first ≡ length before → all ≡ before ++ (map (λ r. r.1) rows ++ post) → AllByRecursion (λ r. length r.1 ≡ length ts) rows → map (grid_row ns) (keys_from first rows ss) ≡ map (row_numbers n) rows
    own_rows first before [] e q h = refl
    own_rows first before (x ∷ xs) e q h =
        let rest : List (List (P × P)) = map (λ (r : Row). r.1) xs ++ post in
        let w : first < length all = subst (λ zs. first < length zs) (sym q) (within_append before x.1 rest first e) in
        let g : get_or all first x.1 ≡ x.1 = ap (λ zs. get_or zs first x.1) q ∙ get_after before x.1 rest first x.1 e in
        let b : grid_box ns (map (cells_at first) ss) ≡ box_numbers n x.1 = own_box first x.1 w g h.0 in
        let l : length (before ++ x.1 ∷ []) ≡ length before + 1 = length_push before x.1 in
        let ih = own_rows (suc first) (before ++ x.1 ∷ []) xs (omega arith) (q ∙ sym (append_assoc before (x.1 ∷ []) rest)) h.1 in
        λ t. (x.0, b t) ∷ ih t

  abbrev pub Fit : CellBox → Type 0
  Fit x = (length x.1 ≡ length gs) × IsInGrid (cuts_back start (length gs) gs) (cells_back (length gs) x.1)

  cells_count : (r : ℕ) → r < length all → (j : ℕ) (e : S) → j < length ts → (get_or (map (cells_at r) ss) j no_cells).1 ≤ length (get_or ss j e).0
  cells_count r h j e l =
      let p = pick_from ts point (omega arith) in
      let w = sides j p.0 p.1 e l in
      let many : length (map (side_of j p.1) all) ≡ length all = length-map all (side_of j p.1) in
      subst (λ (x : ℕ × ℕ). x.1 ≤ length (get_or ss j e).0) (sym (map_at (cells_at r) ss j e no_cells (omega arith))) (w.within r (omega arith))

  one_fits : (l : L) (r : ℕ) → r < length all → Fit (l, map (cells_at r) ss)
  one_fits l r h = (
    length-map ss (cells_at r) ∙ len ∙ sym count_sides,
    in_grid start gs (map (cells_at r) ss) (length gs) (λ j b.
        let j' : j < length ts = (let w = count_sides in omega arith) in
        let p = pick_from ts point (omega arith) in
        let e : S = ([], [], []) in
        let c = cells_count r h j e j' in
        let jg : j < length ns = (let w = grids in omega arith) in
        let same : length (map n (get_or ss j e).0) ≡ length (get_or ss j e).0 = length-map (get_or ss j e).0 n in
        let f = cut_count start ns rising j ([], pos 0) jg ∙ ap (λ (v : List ℤ × ℤ). length v.0) (grid_at n has high ts ss j p.0 e ([], pos 0) len j') in
        omega arith),
  )

  pub own_fits : (first : ℕ) (rows : List Row) → first + length rows ≤ length all → AllByRecursion Fit (keys_from first rows ss)
  own_fits first [] h = tt
  own_fits first (x ∷ xs) h = (one_fits x.0 first (omega arith), own_fits (suc first) xs (omega arith))

  pub both_fit : (xs ys : List CellBox) → AllByRecursion Fit xs → AllByRecursion Fit ys → AllByRecursion Fit (xs ++ ys)
  both_fit [] ys a b = b
  both_fit (x ∷ xs) ys a b = (a.0, both_fit xs ys a.1 b)

  pub fit_lengths : (keys : List CellBox) → AllByRecursion Fit keys → AllByRecursion (λ x. length x.1 ≡ length ts) keys
  fit_lengths [] h = tt
  fit_lengths (x ∷ xs) h = (h.0.0 ∙ count_sides, fit_lengths xs h.1)

  -- each side's cells are within those of the side
  abbrev pub Low : CellBox → Type 0
  Low x = (s : ℕ) (e : S) → (get_or x.1 s no_cells).1 ≤ length (get_or ss s e).0

  past : (xs : List S) (r s : ℕ) → length xs ≤ s → get_or (map (cells_at r) xs) s no_cells ≡ no_cells
  past [] r s h = refl
  past (x ∷ xs) r zero h = absurd (omega arith)
  past (x ∷ xs) r (suc s) h = past xs r s (omega arith)

  one_low : (l : L) (r : ℕ) → r < length all → Low (l, map (cells_at r) ss)
  one_low l r h s e = elim (cases_lt s (length ts)) [
    | inl b ↦ cells_count r h s e b
    | inr b ↦ subst (λ (x : ℕ × ℕ). x.1 ≤ length (get_or ss s e).0) (sym (past ss r s (omega arith))) (omega arith)
  ]

  pub own_low : (first : ℕ) (rows : List Row) → first + length rows ≤ length all → AllByRecursion Low (keys_from first rows ss)
  own_low first [] h = tt
  own_low first (x ∷ xs) h = (one_low x.0 first (omega arith), own_low (suc first) xs (omega arith))

  low_at : (keys : List CellBox) → AllByRecursion Low keys → (x : CellBox) → Among x keys → Low x
  low_at [] h x m = absurd m
  low_at (y ∷ ys) h x m = elim m [ inl e ↦ subst Low e h.0 | inr w ↦ low_at ys h.1 x w ]

  -- keys stand as their rows do
  pub key_order : (order : L → L → Ordering) (x y : CellBox) → length x.1 ≡ length ts → length y.1 ≡ length ts → boxed_cmp order (grid_row ns x) (grid_row ns y) ≡ key_cmp order x y
  key_order order x y e f =
      let p = sym (box_same ns rising x.1) in
      let q = sym (box_same ns rising y.1) in
      (λ i. boxed_cmp order (x.0, p i) (y.0, q i)) ∙ ap (ordering_then (order x.0 y.0)) (box_order gs x.1 y.1 (e ∙ sym count_sides) (f ∙ sym count_sides))

  -- ---- their packed form

  module _ (keys v : List CellBox) (fits : AllByRecursion Fit keys) (packed : (x : CellBox) → Among x v ↔ (length x.1 ≡ length ts) × IsPackedOf (length ts) keys x) where
    pub packed_form : (order : L → L → Ordering) → IsTotalOrder order → Separates order → IsStrictlySortedBy (key_cmp order) v → map (grid_row ns) v ≡ packed_boxes order (length ts) (map (grid_row ns) keys)
    packed_form order o same s =
        let p = λ (x : CellBox). subst (λ k. Among x v ↔ (length x.1 ≡ k) × IsPackedOf k keys x) (sym count_sides) (packed x) in
        let e : map (row_of gs) v ≡ packed_boxes order (length gs) (map (row_of gs) keys) = packed_on_grid order o same start gs keys fits v p s in
        sym (rows_same v) ∙ e ∙ (λ t. packed_boxes order (count_sides t) (rows_same keys t))

    inside : AllByRecursion Low keys → (e : S) (l : L) (grid_point : List ℕ) → HasRow keys l grid_point → (s : ℕ) → s < length grid_point → get_or grid_point s 0 < length (get_or ss s e).0
    inside low e l grid_point w s b =
        let i = grid_point_in w.0 grid_point s w.2 b in
        let c = low_at keys low (l, w.0) w.1 s e in
        omega arith

    -- each side of its rows has cells, and no others than the side's
    pub packed_cells : AllByRecursion Low keys → (x : CellBox) → Among x v → (s : ℕ) (e : S) → s < length ts → ((get_or x.1 s no_cells).0 < (get_or x.1 s no_cells).1) × ((get_or x.1 s no_cells).1 ≤ length (get_or ss s e).0)
    packed_cells low x m s e b = cells_bound (length ts) (HasRow keys x.0) x.1 [] (λ i. length (get_or ss i e).0) (inside low e x.0) ((packed x).0 m).1 s b
