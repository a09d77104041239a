-- Where a cell is a point, what a rule gives of groups at cells is what it gives at points.
--     one_side_count, one_side_at      the one interval of a box, and its numbers
--     one_more_row      boxes lie between the least begin and the greatest end
--     more_boxes      one row more over points
--     cells_count, cells_labels      the rows over cells are as many, and have the same labels
--     places, faults      what the rule gives at places of points
--     ends_low      what ends by rows ends where they may
use Rattle.std.proofs.Common.{◌≡◌, ◌↔◌, ◌⊎◌, inl, inr, ℕ, ◌+◌, ◌<◌, ◌≤◌, true, ℤ, pos, negsuc, ◌+ℤ◌, ◌-ℤ◌, ◌≤ℤ◌, ◌<ℤ◌, List, [], ◌∷◌, ◌++◌, map, take, length, get_or, Result, Ok, Err, arith, refl, sym, ap, ◌∙◌, subst}
use Rattle.std.specs.Prelude.{nat_lt}
use Rattle.std.specs.List.{All, filter}
use Rattle.std.proofs.lemmas.Bool.{and_parts, and_from}
use Rattle.std.proofs.lemmas.Bool.Decides.{nat_tests}
use Rattle.std.proofs.lemmas.Int.{ints, by_lt_z}
use Rattle.std.proofs.lemmas.List.{length-map, map-append}
use Rattle.std.proofs.lemmas.List.Elements.{filter-append, All-more, All-weaker}
use Rattle.interval_core.specs.Members.{Span, HasEndsIn}
use Rattle.value_core.specs.Values.{Row}
use Rattle.cell_packing.specs.Boxed.{Boxed, InBoxes}
use Rattle.cell_packing.specs.Covering.{Among}
use Rattle.cell_packing.specs.Live.{span_has, has_grid_point}
use Rattle.cell_packing.specs.Packed.{Has, no_cells}
use Rattle.cell_packing.proofs.AmongLemmas.{among_map, among_filter, all_from_members}
use Rattle.cell_sweep.specs.PackedRows.{HasRow}
use Rattle.cell_sweep.proofs.Sweeping.{cell_has, span_from}
use Rattle.cell_boxes.specs.Common.{At, EndsBy}
use Rattle.cell_boxes.specs.Rows.{PlainCellBox}
use Rattle.cell_boxes.proofs.RowLemmas.{row_all, among_row}
use Rattle.cell_core.specs.Boxes.{IsBox}
use Rattle.cell_core.specs.Cells.{box_numbers, grid_box, grid_row, row_numbers}
use Rattle.cell_core.specs.Numbering.{numbers_of}
use Rattle.u_summarize.specs.Asked.{HasCells, InCellGroup, HasCellFault}
use Rattle.u_summarize.specs.Groups.{OfFirsts, labels_in, sides_in, HasPlace, InGroupRule, HasGroupFault}
use Rattle.u_summarize.specs.PointCells.{counted_from, LiesIn, has_some}
use Rattle.u_summarize.proofs.AskedLemmas.{get_in}
use Rattle.u_summarize.proofs.PointGroups.{of_alike, none_there, labels_grid, sides_grid}

-- the ends of an interval, one by one
pub pair_is : {x y : Span} → x.0 ≡ y.0 → x.1 ≡ y.1 → x ≡ y
pair_is e f = λ i. (e i, f i)

-- ---- boxes of one interval

module _ {T P : Type 0} (n : P → ℤ) (has : T → P → Type 0) (t : T) where
  pub one_side_count : (v : List (P × P)) → IsBox has (t ∷ []) v → length v ≡ 1
  one_side_count [] h = absurd h
  one_side_count (i ∷ []) h = refl
  one_side_count (i ∷ j ∷ is) h = absurd h.1

  pub one_side_at : (v : List (P × P)) → IsBox has (t ∷ []) v → (x : P × P) → x ≡ get_or v 0 x → HasEndsIn has t x × (box_numbers n v ≡ numbers_of n x ∷ [])
  one_side_at [] h x e = absurd h
  one_side_at (i ∷ []) h x e = (subst (HasEndsIn has t) (sym e) h.0, ap (λ y. numbers_of n y ∷ []) (sym e))
  one_side_at (i ∷ j ∷ is) h x e = absurd h.1

-- one row more, by bounds of those before and of its own numbers
pub one_more_row : {P : Type 0} (n : P → ℤ) (rows : List (Row × List (P × P))) (i : ℕ) (x : Row × List (P × P)) → i < length rows → x ≡ get_or rows i x
    → (all own now : Span) → now.0 ≤ℤ all.0 → all.1 ≤ℤ now.1 → now.0 ≤ℤ own.0 → own.0 ≤ℤ own.1 → own.1 ≤ℤ now.1 → box_numbers n x.1 ≡ own ∷ []
    → All (λ (b : Row × List (P × P)). LiesIn all (box_numbers n b.1)) (take i rows) → All (λ (b : Row × List (P × P)). LiesIn now (box_numbers n b.1)) (take (i + 1) rows)
one_more_row {P} n rows i x l at all own now la lz oa oo oz e before =
    All-more (λ (b : Row × List (P × P)). LiesIn now (box_numbers n b.1)) rows i x l
    (All-weaker (λ (b : Row × List (P × P)). LiesIn all (box_numbers n b.1)) (λ (b : Row × List (P × P)). LiesIn now (box_numbers n b.1)) (λ b h. wider (box_numbers n b.1) h) (take i rows) before)
    (subst (λ (b : Row × List (P × P)). LiesIn now (box_numbers n b.1)) at (subst (LiesIn now) (sym e) (oa, oo, oz)))
  where
    wider : (y : List Span) → LiesIn all y → LiesIn now y
    wider [] h = h
    wider (s ∷ []) h = let a = h.0 in let b = h.2 in (omega (arith, ints), h.1, omega (arith, ints))
    wider (s ∷ r ∷ rs) h = h

-- ---- rows of intervals

-- one row more, which adds its interval if it has a cell
pub more_boxes : (f : PlainCellBox Row → Boxed Row) (done : List (PlainCellBox Row)) (row : PlainCellBox Row) (old new : List (Boxed Row)) → old ≡ map f (filter has_some done)
    → new ≡ old ++ map f (filter has_some (row ∷ [])) → new ≡ map f (filter has_some (done ++ row ∷ []))
more_boxes f done row old new was is =
    is ∙ ap (λ bs. bs ++ map f (filter has_some (row ∷ []))) was ∙ sym (map-append f (filter has_some done) (filter has_some (row ∷ []))) ∙ ap (map f) (sym (filter-append has_some done (row ∷ [])))

-- the rows are as many, and their labels the same
pub cells_count : {P : Type 0} (first : ℤ) (n : P → ℤ) (cells : List (PlainCellBox Row)) (rows : List (Row × List (P × P))) → map (grid_row (counted_from first)) cells ≡ map (row_numbers n) rows → length cells ≡ length rows
cells_count first n cells rows e = sym (length-map cells (grid_row (counted_from first))) ∙ ap length e ∙ length-map rows (row_numbers n)

pub cells_labels : {P : Type 0} (first : ℤ) (n : P → ℤ) (cells : List (PlainCellBox Row)) (rows : List (Row × List (P × P))) → map (grid_row (counted_from first)) cells ≡ map (row_numbers n) rows → labels_in cells ≡ labels_in rows
cells_labels {P} first n cells rows e = sym (labels_grid (counted_from first) cells) ∙ ap labels_in e ∙ numbered rows
  where
    numbered : (xs : List (Row × List (P × P))) → labels_in (map (row_numbers n) xs) ≡ labels_in xs
    numbered [] = refl
    numbered (x ∷ xs) = ap (λ (ls : List Row). x.0 ∷ ls) (numbered xs)

-- ---- cells and points

number_from : (first p : ℤ) → first ≤ℤ p → (c : ℕ) × (p ≡ first +ℤ pos c)
number_from first p l = go (p -ℤ first) refl
  where
    go : (d : ℤ) → p -ℤ first ≡ d → (c : ℕ) × (p ≡ first +ℤ pos c)
    go (pos c) e = (c, omega (arith, ints))
    go (negsuc c) e = absurd (omega (arith, ints))

lower_end : (first : ℤ) (a b : ℕ) (last : ℤ) → a ≤ b → (first +ℤ pos b) ≤ℤ (last +ℤ pos 1) → (first +ℤ pos a) ≤ℤ (last +ℤ pos 1)
lower_end first a b last l h = omega (arith, ints)

lower_one : (a z : ℕ) → a < z → nat_lt a z ≡ true
lower_one a z l = grind (arith, nat_tests)

one_in : (rows : List (PlainCellBox Row)) → All (λ (x : PlainCellBox Row). length x.1 ≡ 1) rows → (x : PlainCellBox Row) → Among x rows → length x.1 ≡ 1
one_in rows one x m = let w = among_row rows x m in row_all (λ (y : PlainCellBox Row). length y.1 ≡ 1) rows one w.0 x w.1

one_place : (place : List ℕ) → length place ≡ 1 → (c : ℕ) × (place ≡ c ∷ [])
one_place [] e = absurd (omega (arith, e))
one_place (c ∷ []) e = (c, refl)
one_place (c ∷ d ∷ ds) e = absurd (omega (arith, e))

module _ (first : ℤ) where
  abbrev ns : List (List ℤ × ℤ)
  ns = counted_from first

  -- the number of the cell
  abbrev point : ℕ → List ℤ
  point c = (first +ℤ pos c) ∷ []

  -- no interval has the place
  abbrev Shut : List ℤ → Type 0
  Shut place = (y : List (ℕ × ℕ)) → length y ≡ 1 → Has (grid_box ns y) place → ⊥

  cell_at : (place : List ℤ) → ((c : ℕ) × (place ≡ point c)) ⊎ Shut place
  cell_at [] = inr none
    where
      none : (y : List (ℕ × ℕ)) → length y ≡ 1 → Has (grid_box ns y) [] → ⊥
      none [] e h = omega (arith, e)
      none (x ∷ ys) e h = h
  cell_at (p ∷ []) = by_lt_z p first (λ l. inr (before l)) (λ l. let w = number_from first p l in inl (w.0, ap (λ q. q ∷ []) w.1))
    where
      before : p <ℤ first → (y : List (ℕ × ℕ)) → length y ≡ 1 → Has (grid_box ns y) (p ∷ []) → ⊥
      before l [] e h = h
      before l (x ∷ ys) e h = let a = h.0 in omega (arith, ints)
  cell_at (p ∷ q ∷ ps) = inr none
    where
      none : (y : List (ℕ × ℕ)) → length y ≡ 1 → Has (grid_box ns y) (p ∷ q ∷ ps) → ⊥
      none [] e h = h
      none (x ∷ ys) e h = h.2

  has_at : (y : List (ℕ × ℕ)) → length y ≡ 1 → (c : ℕ) → Has (grid_box ns y) (point c) ↔ At y (c ∷ [])
  has_at [] e c = absurd (omega (arith, e))
  has_at (x ∷ ys) e c = (
    λ h.
        let a = h.0 in
        let b = h.1 in
        and_from (span_has x c) (has_grid_point ys []) (span_from x c (omega (arith, ints)) (omega (arith, ints))) refl,
    λ h.
        let u = and_parts (span_has x c) (has_grid_point ys []) h in
        let w = cell_has x c u.0 in
        let a = w.0 in
        let b = w.1 in
        (omega (arith, ints), omega (arith, ints), tt),
  )

  has_cells : (l : Row) (y : List (ℕ × ℕ)) → length y ≡ 1 → (c : ℕ) → At y (c ∷ []) → has_some (l, y) ≡ true
  has_cells l [] e c h = absurd (omega (arith, e))
  has_cells l (x ∷ ys) e c h =
      let u = and_parts (span_has x c) (has_grid_point ys []) h in
      let w = cell_has x c u.0 in
      let a = w.0 in
      let b = w.1 in
      lower_one x.0 x.1 (omega (arith, a, b))

  -- where cells end, by what their interval lies between
  low_end : (all : Span) (y : List (ℕ × ℕ)) → length y ≡ 1 → LiesIn all (grid_box ns y) → (first +ℤ pos (get_or y 0 no_cells).1) ≤ℤ (all.1 +ℤ pos 1)
  low_end all [] e h = absurd h
  low_end all (x ∷ ys) e h = let a = h.2 in omega (arith, ints)

  -- ---- rows of one interval over cells, and the same over points

  module _ (rows : List (PlainCellBox Row)) (one : All (λ (x : PlainCellBox Row). length x.1 ≡ 1) rows) (numbers : List (Boxed Row)) (same : map (grid_row ns) rows ≡ numbers) where
    same_labels : labels_in rows ≡ labels_in numbers
    same_labels = sym (labels_grid ns rows) ∙ ap labels_in same

    many : length (labels_in rows) ≡ length rows
    many = length-map rows (λ (x : PlainCellBox Row). x.0)

    box_at : (r : ℕ) → r < length (labels_in rows) → get_or (sides_in numbers) r [] ≡ grid_box ns (get_or (sides_in rows) r [])
    box_at r l = let m = many in ap (λ (bs : List (Boxed Row)). get_or (sides_in bs) r []) (sym same) ∙ sides_grid ns rows r (omega (arith, l, m))

    one_at : (r : ℕ) → r < length (labels_in rows) → length (get_or (sides_in rows) r []) ≡ 1
    one_at r l =
        let m = many in
        let none : PlainCellBox Row = ([], []) in
        ap length (get_in (λ (x : PlainCellBox Row). x.1) rows r none) ∙ one r none (omega (arith, l, m))

    alike : (c r : ℕ) → r < length (labels_in rows) → HasCells rows (c ∷ []) r ↔ HasPlace numbers (point c) r
    alike c r l =
        let w = has_at (get_or (sides_in rows) r []) (one_at r l) c in
        let e = box_at r l in
        (λ q. subst (λ z. Has z (point c)) (sym e) (w.1 q), λ q. w.0 (subst (λ z. Has z (point c)) e q))

    to_points : (c : ℕ) (by : List ℕ) (V : List ℕ → Type 0) → OfFirsts by (labels_in rows) (HasCells rows (c ∷ [])) V → OfFirsts by (labels_in numbers) (HasPlace numbers (point c)) V
    to_points c by V h = subst (λ labels. OfFirsts by labels (HasPlace numbers (point c)) V) same_labels (of_alike by (labels_in rows) (HasCells rows (c ∷ [])) (HasPlace numbers (point c)) (alike c) V h)

    to_cells : (c : ℕ) (by : List ℕ) (V : List ℕ → Type 0) → OfFirsts by (labels_in numbers) (HasPlace numbers (point c)) V → OfFirsts by (labels_in rows) (HasCells rows (c ∷ [])) V
    to_cells c by V h =
        of_alike by (labels_in rows) (HasPlace numbers (point c)) (HasCells rows (c ∷ [])) (λ r l. let w = alike c r l in (w.1, w.0)) V
        (subst (λ labels. OfFirsts by labels (HasPlace numbers (point c)) V) (sym same_labels) h)

    nowhere : (place : List ℤ) → Shut place → (by : List ℕ) (V : List ℕ → Type 0) → OfFirsts by (labels_in numbers) (HasPlace numbers place) V → ⊥
    nowhere place shut by V h =
        none_there by (labels_in rows) (HasPlace numbers place) V (λ r l q. shut (get_or (sides_in rows) r []) (one_at r l) (subst (λ z. Has z place) (box_at r l) q))
        (subst (λ labels. OfFirsts by labels (HasPlace numbers place) V) (sym same_labels) h)

    -- ---- faults

    pub faults : {F : Type 0} (f : List ℕ → Result Row F) (by : List ℕ) (e : F) → HasCellFault 1 f by rows e ↔ HasGroupFault f by numbers e
    faults f by e = (
      λ h.
          let w = one_place h.0 h.1 in
          (point w.0, to_points w.0 by (λ a. f a ≡ Err e) (subst (λ p. OfFirsts by (labels_in rows) (HasCells rows p) (λ a. f a ≡ Err e)) w.1 h.2)),
      λ h. elim (cell_at h.0) [
        | inl w ↦ (w.0 ∷ [], refl, to_cells w.0 by (λ a. f a ≡ Err e) (subst (λ p. OfFirsts by (labels_in numbers) (HasPlace numbers p) (λ a. f a ≡ Err e)) w.1 h.1))
        | inr w ↦ absurd (nowhere h.0 w by (λ a. f a ≡ Err e) h.1)
      ],
    )

    -- ---- labels

    module _ (out : List (PlainCellBox Row)) (lengths : All (λ (x : PlainCellBox Row). length x.1 ≡ 1) out) where
      abbrev boxes : List (Boxed Row)
      boxes = map (grid_row ns) (filter has_some out)

      at_cell : (l : Row) (c : ℕ) → InBoxes boxes l (point c) ↔ HasRow out l (c ∷ [])
      at_cell l c = (
        λ h.
            let w = (among_map (grid_row ns) (l, h.0) (filter has_some out)).0 h.1 in
            let k = (among_filter has_some w.0 out).0 w.1 in
            let a : (w.0).0 ≡ l = ap (λ (z : Boxed Row). z.0) w.2 in
            let b : grid_box ns (w.0).1 ≡ h.0 = ap (λ (z : Boxed Row). z.1) w.2 in
            ((w.0).1, subst (λ z. Among (z, (w.0).1) out) a k.0, (has_at (w.0).1 (one_in out lengths w.0 k.0) c).0 (subst (λ z. Has z (point c)) (sym b) h.2)),
        λ h.
            let e = one_in out lengths (l, h.0) h.1 in
            (grid_box ns h.0, (among_map (grid_row ns) (l, grid_box ns h.0) (filter has_some out)).1 ((l, h.0), (among_filter has_some (l, h.0) out).1 (h.1, has_cells l h.0 e c h.2), refl), (has_at h.0 e c).1 h.2),
      )

      shut_out : (l : Row) (place : List ℤ) → Shut place → InBoxes boxes l place → ⊥
      shut_out l place shut h =
          let w = (among_map (grid_row ns) (l, h.0) (filter has_some out)).0 h.1 in
          let k = (among_filter has_some w.0 out).0 w.1 in
          let b : grid_box ns (w.0).1 ≡ h.0 = ap (λ (z : Boxed Row). z.1) w.2 in
          shut (w.0).1 (one_in out lengths w.0 k.0) (subst (λ z. Has z place) (sym b) h.2)

      pub places : {F : Type 0} (f : List ℕ → Result Row F) (by : List ℕ) → ((l : Row) (place : List ℕ) → length place ≡ 1 → HasRow out l place ↔ InCellGroup f by rows l place)
          → (l : Row) (place : List ℤ) → InBoxes boxes l place ↔ InGroupRule f by numbers l place
      places f by given l place = elim (cell_at place) [
        | inl w ↦
            let x = at_cell l w.0 in
            let g = given l (w.0 ∷ []) refl in
            subst (λ p. InBoxes boxes l p ↔ InGroupRule f by numbers l p) (sym w.1)
            (λ h. to_points w.0 by (λ a. f a ≡ Ok l) (g.0 (x.0 h)), λ h. x.1 (g.1 (to_cells w.0 by (λ a. f a ≡ Ok l) h)))
        | inr w ↦ (λ h. absurd (shut_out l place w h), λ h. absurd (nowhere place w by (λ a. f a ≡ Ok l) h))
      ]

    -- ---- ends

    pub ends_low : (all : Span) → All (λ (b : Boxed Row). LiesIn all b.1) numbers → (out : List (PlainCellBox Row)) → ((z : PlainCellBox Row) → Among z out → (x : PlainCellBox Row) × Among x rows × EndsBy x.1 z.1)
        → All (λ (z : PlainCellBox Row). (first +ℤ pos (get_or z.1 0 no_cells).1) ≤ℤ (all.1 +ℤ pos 1)) out
    ends_low all lie out ends = all_from_members (λ (z : PlainCellBox Row). (first +ℤ pos (get_or z.1 0 no_cells).1) ≤ℤ (all.1 +ℤ pos 1)) out (λ z m.
        let x = ends z m in
        let lies : All (λ (b : Boxed Row). LiesIn all b.1) (map (grid_row ns) rows) = subst (All (λ (b : Boxed Row). LiesIn all b.1)) (sym same) lie in
        let i = among_row (map (grid_row ns) rows) (grid_row ns x.0) ((among_map (grid_row ns) (grid_row ns x.0) rows).1 (x.0, x.1, refl)) in
        let own = low_end all (x.0).1 (one_in rows one x.0 x.1) (row_all (λ (b : Boxed Row). LiesIn all b.1) (map (grid_row ns) rows) lies i.0 (grid_row ns x.0) i.1) in
        lower_end first (get_or z.1 0 no_cells).1 (get_or (x.0).1 0 no_cells).1 all.1 (x.2 0) own)
