-- The cells of all rows are counted by the cuts of all expressions.
use Rattle.std.proofs.Common.{◌≡◌, ℕ, suc, ◌+◌, ◌*◌, ◌<◌, ℤ, List, [], ◌∷◌, map, length, get_or, refl, sym, ap, ap₂, ◌∙◌, subst, arith}
use Rattle.std.specs.Prelude.{slice_index, sum}
use Rattle.std.specs.List.{fold}
use Rattle.interval_core.specs.Members.{Span}
use Rattle.value_core.specs.Attributes.{value_at, span_of}
use Rattle.value_core.specs.Values.{Row}
use Rattle.scalar_core.specs.Expressions.{Expr}
use Rattle.u_set.specs.Boxes.{spans_at}
use Rattle.u_row.specs.Cutting.{cells_from, cells_of, count_cells}
use Rattle.u_row.proofs.AllRowsLemmas.{length_cells}
use Rattle.eval_using.specs.Cells.{cuts_of_all, product, cells_of_row, cells_of_all}
use Rattle.eval_using.specs.Swept.{swept_cuts}

sides_cells : (cuts : ℕ → List ℤ) (s : ℕ → Span) (n : ℕ → ℕ) (j : ℕ) (rest : List ℕ) → ((i : ℕ) → i < length rest → length (cuts (j + i)) + 1 ≡ n (get_or rest i 0))
    → length (cells_from cuts j (map s rest)) ≡ product (map n rest)
sides_cells cuts s n j [] h = refl
sides_cells cuts s n j (a ∷ rest) h =
    let z : j + 0 ≡ j = omega arith in
    let first : length (cuts j) + 1 ≡ n a = subst (λ k. length (cuts k) + 1 ≡ n a) z (h 0 (omega arith)) in
    let one : suc (length (cuts j)) ≡ n a = omega (arith, first) in
    let ih : length (cells_from cuts (suc j) (map s rest)) ≡ product (map n rest) = sides_cells cuts s n (suc j) rest (λ i l.
    let e : j + suc i ≡ suc j + i = omega arith in
    subst (λ k. length (cuts k) + 1 ≡ n (get_or rest i 0)) e (h (suc i) (omega (arith, l)))) in
    length_cells cuts j (s a) (map s rest) ∙ (λ t. one t * ih t)

row_cells : (commalist : List ℕ) (scalars : List Expr) (row : Row) → length (cells_of (λ side. cuts_of_all commalist scalars row (slice_index commalist side)) (spans_at commalist row)) ≡ cells_of_row commalist scalars row
row_cells commalist scalars row =
    sides_cells (λ side. cuts_of_all commalist scalars row (slice_index commalist side)) (λ i. span_of (value_at row i)) (λ a. length (cuts_of_all commalist scalars row a) + 1) 0 commalist (λ i l.
    let z : 0 + i ≡ i = omega arith in
    ap (λ k. length (cuts_of_all commalist scalars row (slice_index commalist k)) + 1) z)

pub fold_from : (a : ℕ) (ns : List ℕ) → fold ◌+◌ a ns ≡ a + sum ns
fold_from a [] = omega arith
fold_from a (n ∷ ns) =
    let one : fold ◌+◌ (a + n) ns ≡ (a + n) + sum ns = fold_from (a + n) ns in
    let two : fold ◌+◌ (0 + n) ns ≡ (0 + n) + sum ns = fold_from (0 + n) ns in
    one ∙ (let e : (a + n) + sum ns ≡ a + ((0 + n) + sum ns) = omega arith in e) ∙ ap (λ m. a + m) (sym two)

pub sum_more : (n : ℕ) (ns : List ℕ) → sum (n ∷ ns) ≡ n + sum ns
sum_more n ns =
    let z : 0 + n ≡ n = omega arith in
    ap (λ m. fold ◌+◌ m ns) z ∙ fold_from n ns

rows_cells : (commalist : List ℕ) (scalars : List Expr) (all : List Row) (r : ℕ) (rest : List Row) → ((i : ℕ) → i < length rest → get_or all (r + i) [] ≡ get_or rest i [])
    → count_cells (swept_cuts commalist scalars all) r (map (spans_at commalist) rest) ≡ sum (map (cells_of_row commalist scalars) rest)
rows_cells commalist scalars all r [] h = refl
rows_cells commalist scalars all r (row ∷ rest) h =
    let z : r + 0 ≡ r = omega arith in
    let here : get_or all r [] ≡ row = subst (λ k. get_or all k [] ≡ row) z (h 0 (omega arith)) in
    let first : length (cells_of (swept_cuts commalist scalars all r) (spans_at commalist row)) ≡ cells_of_row commalist scalars row =
    ap (λ x. length (cells_of (λ side. cuts_of_all commalist scalars x (slice_index commalist side)) (spans_at commalist row))) here ∙ row_cells commalist scalars row in
    let ih = rows_cells commalist scalars all (suc r) rest (λ i l.
    let e : r + suc i ≡ suc r + i = omega arith in
    subst (λ k. get_or all k [] ≡ get_or rest i []) e (h (suc i) (omega (arith, l)))) in
    ap₂ (λ a b. a + b) first ih ∙ sym (sum_more (cells_of_row commalist scalars row) (map (cells_of_row commalist scalars) rest))

pub cells_counted : (commalist : List ℕ) (scalars : List Expr) (rows : List Row) → count_cells (swept_cuts commalist scalars rows) 0 (map (spans_at commalist) rows) ≡ cells_of_all commalist scalars rows
cells_counted commalist scalars rows = rows_cells commalist scalars rows 0 rows (λ i l.
    let z : 0 + i ≡ i = omega arith in
    ap (λ k. get_or rows k []) z)
