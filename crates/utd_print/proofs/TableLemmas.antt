-- Widths and lines, value by value.
use Rattle.std.proofs.Common.{◌≡◌, ◌≢◌, ℕ, zero, suc, ◌+◌, ◌<◌, ◌≤◌, max, List, [], ◌∷◌, ◌++◌, length, map, get_or, set, take, true, codes, decimal, append_assoc, append-nil, refl, sym, ◌∙◌, ap, subst, arith, get_or-set_other, get_or-set_same, below_more}
use Rattle.std.proofs.lemmas.List.{get_or-map, length-map, take_all}
use Rattle.std.proofs.lemmas.List.FromFn.{fill_by_all}
use Rattle.value_core.specs.declared.list.OrdinalNames.{OrdinalNames}
use Rattle.value_core.specs.declared.value.Value.{Value}
use Rattle.value_core.specs.declared.kind.Kind.{Kind}
use Rattle.value_core.specs.Values.{Name, Value as PlainValue, Row, Heading, Relation, fits, fits_heading, IsRelation}
use Rattle.value_core.specs.Plain.{plain}
use Rattle.utd_print.specs.Tables.{value_text, row_texts, character_count, width_at, widths, cell, cells, table_line, names_of, table, HasKind, HaveKinds, AreRows}
use Rattle.std.specs.List.{flat_map, list_all, range_with_len}
use Rattle.std.proofs.lemmas.List.FromFn.{length-range_with_len}
use Rattle.std.proofs.lemmas.Bool.{and_parts}
use Rattle.value_core.proofs.PlainLemmas.{plain_at}

-- ---- the value at an index

kind-among : (vs : List PlainValue) (i : ℕ) (d : PlainValue) → HaveKinds vs → i < length vs → HasKind (get_or vs i d)
kind-among [] i d have within = absurd (omega arith)
kind-among (v ∷ vs) zero d have within = have.0
kind-among (v ∷ vs) (suc i) d have within = kind-among vs i d have.1 (omega arith)

pub kind-at : (values : List Value) (i : ℕ) (v : Value) → HaveKinds (map plain values) → i < length values → v ≡ get_or values i v → HasKind (plain v)
kind-at values i v have within is =
    subst HasKind (sym (plain_at values i v within is)) (kind-among (map plain values) i (plain v) have (omega (arith, length-map values plain)))

pub text-at : (types : List OrdinalNames) (values : List Value) (i : ℕ) (v : Value) → i < length values → v ≡ get_or values i v → get_or (row_texts types (map plain values)) i [] ≡ value_text types (plain v)
text-at types values i v within is =
    get_or-map (value_text types) (map plain values) i (plain v) [] (omega (arith, length-map values plain)) ∙ ap (value_text types) (sym (plain_at values i v within is))

-- ---- a width

pub record Widened (old : List ℕ) (texts : List (List ℕ)) (now : List ℕ) (at : ℕ) : Type 0 where
  pub wide : (k : ℕ) → k < at → get_or now k 0 ≡ max (get_or old k 0) (character_count (get_or texts k []))
  pub same : (k : ℕ) → at ≤ k → get_or now k 0 ≡ get_or old k 0

pub widened-turn : (old now : List ℕ) (texts : List (List ℕ)) (at w : ℕ) → Widened old texts now at → at < length now
    → w ≡ max (get_or now at 0) (character_count (get_or texts at [])) → Widened old texts (set now at w) (at + 1)
widened-turn old now texts at w h within is = record {
  wide = below_more _ _
      (λ k lt. let other : k ≢ at = omega arith in get_or-set_other now at k w 0 other ∙ h.wide k lt)
      (get_or-set_same now at w 0 within ∙ is ∙ ap (λ x. max x (character_count (get_or texts at []))) (h.same at (omega arith)));
  same = λ k le. let other : k ≢ at = omega arith in get_or-set_other now at k w 0 other ∙ h.same k (omega arith);
}

-- ---- all widths

pub record AreWidths (lines : List (List (List ℕ))) (n : ℕ) (now : List ℕ) : Type 0 where
  pub long : length now ≡ n
  pub wide : (k : ℕ) → k < n → get_or now k 0 ≡ width_at lines k

pub are-widths-all : (lines : List (List (List ℕ))) (n : ℕ) (now : List ℕ) → AreWidths lines n now → now ≡ widths lines n
are-widths-all lines n now h = fill_by_all (width_at lines) now n 0 h.long h.wide

-- ---- lines

cells-suc : (ws : List ℕ) (ts : List (List ℕ)) (i : ℕ) → i < length ws → i < length ts → cells (take (suc i) ws) (take (suc i) ts) ≡ cells (take i ws) (take i ts) ++ cell (get_or ws i 0) (get_or ts i [])
cells-suc [] ts i a b = absurd (omega arith)
cells-suc (w ∷ ws) [] i a b = absurd (omega arith)
cells-suc (w ∷ ws) (t ∷ ts) zero a b = append-nil (cell w t)
cells-suc (w ∷ ws) (t ∷ ts) (suc i) a b =
    ap (λ z. cell w t ++ z) (cells-suc ws ts i (omega arith) (omega arith)) ∙ sym (append_assoc (cell w t) (cells (take i ws) (take i ts)) (cell (get_or ws i 0) (get_or ts i [])))

-- a cell more
pub line-turn : (start out now : List ℕ) (ws : List ℕ) (ts : List (List ℕ)) (i : ℕ) (t : List ℕ) → i < length ws → i < length ts
    → out ≡ (start ++ 124 ∷ []) ++ cells (take i ws) (take i ts) → now ≡ out ++ cell (get_or ws i 0) t → t ≡ get_or ts i []
    → now ≡ (start ++ 124 ∷ []) ++ cells (take (i + 1) ws) (take (i + 1) ts)
line-turn start out now ws ts i t a b is grows text =
    let begun : List ℕ = start ++ 124 ∷ [] in
    let next : suc i ≡ i + 1 = omega arith in
    let more : cells (take (suc i) ws) (take (suc i) ts) ≡ cells (take i ws) (take i ts) ++ cell (get_or ws i 0) t =
    cells-suc ws ts i a b ∙ ap (λ z. cells (take i ws) (take i ts) ++ cell (get_or ws i 0) z) (sym text) in
    grows ∙ ap (λ z. z ++ cell (get_or ws i 0) t) is ∙ append_assoc begun (cells (take i ws) (take i ts)) (cell (get_or ws i 0) t)
    ∙ ap (λ z. begun ++ z) (sym more) ∙ ap (λ n. begun ++ cells (take n ws) (take n ts)) next

-- ---- relations

row-has-kinds : (h : Heading) (row : Row) → fits_heading h row ≡ true → (length row ≡ length h) × HaveKinds row
row-has-kinds [] [] e = (refl, tt)
row-has-kinds [] (v ∷ vs) e = cc
row-has-kinds (a ∷ h) [] e = cc
row-has-kinds (a ∷ h) (v ∷ vs) e =
    let parts = and_parts (fits a.1 v) (fits_heading h vs) e in
    let rest = row-has-kinds h vs parts.1 in
    (ap suc rest.0, ((a.1, parts.0), rest.1))

rows-have-kinds : (h : Heading) (rows : List Row) → list_all (fits_heading h) rows ≡ true → AreRows (length h) rows
rows-have-kinds h [] e k d within = absurd (omega arith)
rows-have-kinds h (row ∷ rows) e zero d within = row-has-kinds h row (and_parts (fits_heading h row) (list_all (fits_heading h) rows) e).0
rows-have-kinds h (row ∷ rows) e (suc k) d within =
    rows-have-kinds h rows (and_parts (fits_heading h row) (list_all (fits_heading h) rows) e).1 k d (omega arith)

pub relation-has-kinds : (r : Relation) (attributes : Heading) (rows : List Row) → IsRelation r → attributes ≡ r.heading → rows ≡ r.rows → AreRows (length attributes) rows
relation-has-kinds r attributes rows h heading is =
    subst (λ z. AreRows (length attributes) z) (sym is) (subst (λ z. AreRows (length z) r.rows) (sym heading) (rows-have-kinds r.heading r.rows h.fitting))

pub length-widths : (lines : List (List (List ℕ))) (n : ℕ) (w : List ℕ) → w ≡ widths lines n → length w ≡ n
length-widths lines n w is = ap length is ∙ length-map (range_with_len 0 n) (width_at lines) ∙ length-range_with_len 0 n

-- the parts of a table, as they are written
pub table-parts : (types : List OrdinalNames) (r : Relation) (attributes : Heading) (rows : List Row) (w : List ℕ) → attributes ≡ r.heading → rows ≡ r.rows
    → w ≡ widths (names_of attributes ∷ map (row_texts types) rows) (length attributes)
    → ((((table_line w (names_of attributes)) ++ flat_map (table_line w) (map (row_texts types) rows)) ++ codes "rows: ") ++ decimal (length rows)) ++ 10 ∷ [] ≡ table types r
unfolding table
table-parts types r attributes rows w heading is columns =
    let shape : Heading → List Row → List ℕ → List ℕ = λ h rs z.
    ((((table_line z (names_of h)) ++ flat_map (table_line z) (map (row_texts types) rs)) ++ codes "rows: ") ++ decimal (length rs)) ++ 10 ∷ [] in
    ap (shape attributes rows) columns ∙ (λ i. shape (heading i) (is i) (widths (names_of (heading i) ∷ map (row_texts types) (is i)) (length (heading i))))

pub name-at : (attributes : Heading) (i : ℕ) (a : Name × Kind) → i < length attributes → a ≡ get_or attributes i a → a.0 ≡ get_or (names_of attributes) i []
name-at attributes i a within is = ap (λ (x : Name × Kind). x.0) is ∙ sym (get_or-map (λ (x : Name × Kind). x.0) attributes i a [] within)

pub are-widths-end : (types : List OrdinalNames) (names : List (List ℕ)) (rows : List Row) (i n : ℕ) (now : List ℕ) → length rows ≤ i
    → AreWidths (names ∷ map (row_texts types) (take i rows)) n now → now ≡ widths (names ∷ map (row_texts types) rows) n
are-widths-end types names rows i n now past h =
    are-widths-all (names ∷ map (row_texts types) rows) n now (subst (λ z. AreWidths (names ∷ map (row_texts types) z) n now) (take_all i rows past) h)
