-- The packed forms of left and right rows over the cells of one numbering of both, in the words of the contracts.
use Rattle.std.proofs.Common.{◌≡◌, ℕ, ◌+◌, ◌<◌, ◌≤◌, Bool, ℤ, List, [], ◌∷◌, ◌++◌, map, length, get_or, ◌↔◌, arith, sym, ap, subst, refl, ◌∙◌, Ordering}
use Rattle.std.specs.Bool.{IsTrue}
use Rattle.std.specs.Cmp.{IsTotalOrder}
use Rattle.std.specs.List.{All, AllByRecursion}
use Rattle.std.specs.List.Sorted.{IsStrictlySortedBy}
use Rattle.std.proofs.lemmas.List.{length-map, length-append, append-nil}
use Rattle.std.proofs.lemmas.List.Elements.{recursion_from_All, All-from_recursion}
use Rattle.base_core.specs.Sets.{in_order, is_within, are_same}
use Rattle.base_core.proofs.SetLemmas.{Separates}
use Rattle.cell_packing.specs.Packed.{no_cells}
use Rattle.cell_packing.specs.Covering.{Among}
use Rattle.cell_packing.specs.Boxed.{boxed_cmp, packed_boxes, unpacked_boxes}
use Rattle.cell_sweep.specs.Rows.{key_cmp}
use Rattle.cell_sweep.specs.PackedRows.{IsPackedOf}
use Rattle.cell_core.specs.Boxes.{IsBox}
use Rattle.cell_core.specs.Numbering.{IsSide}
use Rattle.cell_core.specs.Cells.{side_of, grids_of, grid_row, row_numbers, keys_from}
use Rattle.cell_core.proofs.BackLemmas.{box_length}
use Rattle.cell_core.proofs.Assembly.{pick_from}
use Rattle.cell_core.proofs.KeyLemmas.{own_rows, own_fits, both_fit, fit_lengths, own_low, Fit, Low, key_order, packed_form, packed_cells, rows_have}
use Rattle.cell_core.proofs.AnswerLemmas.{packed_answer, same_answer, within_answer, same_packed}

module _ {T P : Type 0} (L : Type 0) (n : P → ℤ) (has : T → P → Type 0) (high : T → ℤ) (point : (t : T) → P) (ts : List T) (ss : List (List P × List P × List (ℕ × ℕ))) (left right : List (L × List (P × P))) (len : length ss ≡ length ts)
    (sides : (j : ℕ) (t : T) (d : P × P) (e : List P × List P × List (ℕ × ℕ)) → j < length ts → IsSide n (has (get_or ts j t)) (high (get_or ts j t)) (map (side_of j d) (map (λ r. r.1) left ++ map (λ r. r.1) right)) (get_or ss j e))
    (hl : All (λ r. IsBox has ts r.1) left) (hr : All (λ r. IsBox has ts r.1) right) where
  abbrev CellBox : Type 0
  CellBox = L × List (ℕ × ℕ)

  abbrev Row : Type 0
  Row = L × List (P × P)

  abbrev all : List (List (P × P))
  all = map (λ (r : Row). r.1) left ++ map (λ (r : Row). r.1) right

  abbrev k : ℕ
  k = length ts

  abbrev row : CellBox → L × List (ℤ × ℤ)
  row = grid_row (grids_of n high ts ss)

  count_all : length all ≡ length left + length right
  count_all =
      let a = length-map right (λ (r : Row). r.1) in
      let b = length-map left (λ (r : Row). r.1) in
      length-append (map (λ (r : Row). r.1) left) (map (λ (r : Row). r.1) right) ∙ (omega arith)

  sided : (rows : List Row) → All (λ r. IsBox has ts r.1) rows → AllByRecursion (λ r. length r.1 ≡ k) rows
  sided rows h = recursion_from_All (λ (r : Row). length r.1 ≡ k) rows (λ j d l. box_length has ts _ (h j d l))

  -- the tables have each row
  full : All (λ s. length left + length right ≤ length s.2) ss
  full = λ j e h.
      let p = pick_from ts point (omega arith) in
      let s = sides j p.0 p.1 e (omega arith) in
      let a = s.cells_length in
      let b = length-map all (side_of j p.1) in
      let c = count_all in
      omega arith

  pub left_full : All (λ s. 0 + length left ≤ length s.2) ss
  left_full = λ j e h. let w = full j e h in omega arith

  pub right_full : (m : ℕ) → m ≡ length left → All (λ s. m + length right ≤ length s.2) ss
  right_full m q = λ j e h. let w = full j e h in omega arith

  left_keys : map row (keys_from 0 left ss) ≡ map (row_numbers n) left
  left_keys = own_rows L n has high point ts ss all len sides (map (λ (r : Row). r.1) right) 0 [] left refl refl (sided left hl)

  right_keys : map row (keys_from (length left) right ss) ≡ map (row_numbers n) right
  right_keys =
      own_rows L n has high point ts ss all len sides [] (length left) (map (λ (r : Row). r.1) left) right (sym (length-map left (λ (r : Row). r.1)))
      (ap (λ ys. map (λ (r : Row). r.1) left ++ ys) (sym (append-nil (map (λ (r : Row). r.1) right)))) (sided right hr)

  left_fit : AllByRecursion (Fit L n has high point ts ss all len sides) (keys_from 0 left ss)
  left_fit = let w = count_all in own_fits L n has high point ts ss all len sides 0 left (omega arith)

  right_fit : AllByRecursion (Fit L n has high point ts ss all len sides) (keys_from (length left) right ss)
  right_fit = let w = count_all in own_fits L n has high point ts ss all len sides (length left) right (omega arith)

  key_lengths : (own : List CellBox) → AllByRecursion (Fit L n has high point ts ss all len sides) own → All (λ x. length x.1 ≡ k) own
  key_lengths own f = All-from_recursion (λ (x : CellBox). length x.1 ≡ k) own (fit_lengths L n has high point ts ss all len sides own f)

  -- each key has as many sides as there are types
  pub left_lengths : (own : List CellBox) → own ≡ keys_from 0 left ss → All (λ x. length x.1 ≡ k) own
  left_lengths own e = key_lengths own (subst (AllByRecursion (Fit L n has high point ts ss all len sides)) (sym e) left_fit)

  pub right_lengths : (own : List CellBox) → own ≡ keys_from (length left) right ss → All (λ x. length x.1 ≡ k) own
  right_lengths own e = key_lengths own (subst (AllByRecursion (Fit L n has high point ts ss all len sides)) (sym e) right_fit)

  all_fit : AllByRecursion (Fit L n has high point ts ss all len sides) (keys_from 0 left ss ++ keys_from (length left) right ss)
  all_fit = both_fit L n has high point ts ss all len sides (keys_from 0 left ss) (keys_from (length left) right ss) left_fit right_fit

  pub both_lengths : (own : List CellBox) → own ≡ keys_from 0 left ss ++ keys_from (length left) right ss → All (λ x. length x.1 ≡ k) own
  both_lengths own e = key_lengths own (subst (AllByRecursion (Fit L n has high point ts ss all len sides)) (sym e) all_fit)

  module _ (order : L → L → Ordering) (o : IsTotalOrder order) (same : Separates order) where
    keeps : (x y : CellBox) → length x.1 ≡ k → length y.1 ≡ k → boxed_cmp order (row x) (row y) ≡ key_cmp order x y
    keeps x y e f = key_order L n has high point ts ss all len sides order x y e f

    form_of : (own v : List CellBox) (rows : List Row) → AllByRecursion (Fit L n has high point ts ss all len sides) own → map row own ≡ map (row_numbers n) rows → ((x : CellBox) → Among x v ↔ (length x.1 ≡ k) × IsPackedOf k own x) → IsStrictlySortedBy (key_cmp order) v
        → map row v ≡ packed_boxes order k (map (row_numbers n) rows)
    form_of own v rows f e p s = packed_form L n has high point ts ss all len sides own v f p order o same s ∙ ap (packed_boxes order k) e

    module _ (own v : List CellBox) (packed : (x : CellBox) → Among x v ↔ (length x.1 ≡ k) × IsPackedOf k own x) (sorted : IsStrictlySortedBy (key_cmp order) v) where
      pub left_form : own ≡ keys_from 0 left ss → map row v ≡ packed_boxes order k (map (row_numbers n) left)
      left_form e =
          form_of own v left (subst (AllByRecursion (Fit L n has high point ts ss all len sides)) (sym e) left_fit) (ap (map row) e ∙ left_keys) packed sorted

      pub right_form : own ≡ keys_from (length left) right ss → map row v ≡ packed_boxes order k (map (row_numbers n) right)
      right_form e =
          form_of own v right (subst (AllByRecursion (Fit L n has high point ts ss all len sides)) (sym e) right_fit) (ap (map row) e ∙ right_keys) packed sorted

      pub both_form : own ≡ keys_from 0 left ss ++ keys_from (length left) right ss → map row v ≡ packed_boxes order k (map (row_numbers n) left ++ map (row_numbers n) right)
      both_form e =
          packed_form L n has high point ts ss all len sides own v
          (subst (AllByRecursion (Fit L n has high point ts ss all len sides)) (sym e) all_fit) packed order o same sorted
          ∙ ap (packed_boxes order k) (ap (map row) e ∙ map_both (keys_from 0 left ss) (keys_from (length left) right ss) ∙ (λ t. left_keys t ++ right_keys t))
        where
          map_both : (xs ys : List CellBox) → map row (xs ++ ys) ≡ map row xs ++ map row ys
          map_both [] ys = refl
          map_both (x ∷ xs) ys = ap (λ zs. row x ∷ zs) (map_both xs ys)

      pub left_cells : own ≡ keys_from 0 left ss → (x : CellBox) → Among x v → (s : ℕ) (e : List P × List P × List (ℕ × ℕ)) → s < k → ((get_or x.1 s no_cells).0 < (get_or x.1 s no_cells).1) × ((get_or x.1 s no_cells).1 ≤ length (get_or ss s e).0)
      left_cells e =
          let w = count_all in
          let fit = subst (AllByRecursion (Fit L n has high point ts ss all len sides)) (sym e) left_fit in
          let low = subst (AllByRecursion (Low L n has high point ts ss all len sides)) (sym e) (own_low L n has high point ts ss all len sides 0 left (omega arith)) in
          packed_cells L n has high point ts ss all len sides own v fit packed low

      pub form_lengths : (x : CellBox) → Among x v → length x.1 ≡ k
      form_lengths x m = ((packed x).0 m).0

      -- whether the rows are their packed form
      pub is_packed_answer : own ≡ keys_from 0 left ss → (list set : List CellBox) → list ≡ keys_from 0 left ss → set ≡ in_order (key_cmp order) list → (b : Bool) → IsTrue b ↔ (set ≡ v)
          → IsTrue b ↔ (in_order (boxed_cmp order) (map (row_numbers n) left) ≡ packed_boxes order k (map (row_numbers n) left))
      is_packed_answer e list set f g b i =
          let lengths = fit_lengths L n has high point ts ss all len sides list (subst (AllByRecursion (Fit L n has high point ts ss all len sides)) (sym f) left_fit) in
          let a = packed_answer order o same k row keeps list set v lengths g form_lengths (packed_boxes order k (map (row_numbers n) left)) (left_form e) b i in
          let q : in_order (boxed_cmp order) (map row list) ≡ in_order (boxed_cmp order) (map (row_numbers n) left) = ap (in_order (boxed_cmp order)) (ap (map row) f ∙ left_keys) in
          (λ t. sym q ∙ a.0 t, λ t. a.1 (q ∙ t))

      module _ (more w : List CellBox) (packed_more : (x : CellBox) → Among x w ↔ (length x.1 ≡ k) × IsPackedOf k more x) where
        more_lengths : (x : CellBox) → Among x w → length x.1 ≡ k
        more_lengths x m = ((packed_more x).0 m).0

        -- whether the right rows have the left points, of the forms of all rows and of the right ones
        pub within_rows : own ≡ keys_from 0 left ss ++ keys_from (length left) right ss → map row w ≡ packed_boxes order k (map (row_numbers n) right) → (b : Bool) → IsTrue b ↔ (v ≡ w)
            → b ≡ is_within (boxed_cmp order) (unpacked_boxes order k (map (row_numbers n) left)) (unpacked_boxes order k (map (row_numbers n) right))
        within_rows e f b i =
            within_answer order o same k row keeps (map (row_numbers n) left) (map (row_numbers n) right) (rows_have n k left (sided left hl)) (rows_have n k right (sided right hr)) v w form_lengths more_lengths (both_form e) f b i

        -- whether both have the same points, of the forms of the left and of the right rows
        pub same_rows : own ≡ keys_from 0 left ss → map row w ≡ packed_boxes order k (map (row_numbers n) right) → (b : Bool) → IsTrue b ↔ (v ≡ w)
            → b ≡ are_same (boxed_cmp order) (unpacked_boxes order k (map (row_numbers n) left)) (unpacked_boxes order k (map (row_numbers n) right))
        same_rows e f b i =
            same_answer order o same k row keeps (map (row_numbers n) left) (map (row_numbers n) right) (rows_have n k left (sided left hl)) (rows_have n k right (sided right hr)) v w form_lengths more_lengths (left_form e) f b i

        -- and whether they are equal packed
        pub same_packed_rows : own ≡ keys_from 0 left ss → map row w ≡ packed_boxes order k (map (row_numbers n) right) → (b : Bool) → IsTrue b ↔ (v ≡ w)
            → IsTrue b ↔ (packed_boxes order k (map (row_numbers n) left) ≡ packed_boxes order k (map (row_numbers n) right))
        same_packed_rows e f b i = same_packed order o same k row keeps v w form_lengths more_lengths (packed_boxes order k (map (row_numbers n) left)) (packed_boxes order k (map (row_numbers n) right)) (left_form e) f b i
