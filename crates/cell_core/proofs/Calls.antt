-- What the call of the slices requires.
use Rattle.std.proofs.Common.{◌≡◌, ℕ, zero, suc, ◌+◌, ◌*◌, ◌<◌, ◌≤◌, ℤ, List, [], ◌∷◌, ◌++◌, map, length, get_or, arith, sym, ap, subst, refl, ◌∙◌}
use Rattle.std.specs.List.{All, AllByRecursion}
use Rattle.std.proofs.Common.{inl, inr}
use Rattle.std.proofs.lemmas.Bool.{cases_lt}
use Rattle.cell_packing.specs.Live.{box, InLive, IsSliceRow}
use Rattle.cell_core.proofs.CellsBack.{cells_bound, live_inside}
use Rattle.std.proofs.lemmas.List.{length-map, length-append}
use Rattle.cell_packing.specs.Packed.{no_cells}
use Rattle.cell_sweep.specs.declared.inward.IndexBox.{IndexBox}
use Rattle.cell_sweep.specs.Rows.{sides_of, AreRows}
use Rattle.cell_core.specs.Numbering.{IsSide, IsGrid}
use Rattle.cell_core.specs.Cells.{rows_from, cells_at, side_of}
use Rattle.cell_core.proofs.Assembly.{pick_from}
use Rattle.cell_sweep.proofs.LabelRows.{map_at}

pub are_rows : (a n z : ℕ) → a + n ≤ z → AreRows a z (rows_from a n)
are_rows a zero z h = tt
are_rows a (suc n) z h = (omega arith, omega arith, are_rows (suc a) n z (omega arith))

module _ {T P : Type 0} (n : P → ℤ) (has : T → P → Type 0) (high : T → ℤ) (point : (t : T) → P) (ts : List T) (ss : List (List P × List P × List (ℕ × ℕ))) (left right : List (List (P × P))) (len : length ss ≡ length ts)
    (sides : (j : ℕ) (t : T) (d : P × P) (e : List P × List P × List (ℕ × ℕ)) → j < length ts → IsSide n (has (get_or ts j t)) (high (get_or ts j t)) (map (side_of j d) (left ++ right)) (get_or ss j e)) where
  abbrev S : Type 0
  S = List P × List P × List (ℕ × ℕ)

  at : (j : ℕ) (e : S) → j < length ts → (length (get_or ss j e).2 ≡ length left + length right) × (length (get_or ss j e).0 ≤ 2 * (length left + length right)) × ((r : ℕ) → r < length left + length right → (get_or (get_or ss j e).2 r no_cells).1 ≤ length (get_or ss j e).0)
  at j e h =
      let p = pick_from ts point (omega arith) in
      let s = sides j p.0 p.1 e h in
      let l : length (map (side_of j p.1) (left ++ right)) ≡ length left + length right = length-map (left ++ right) (side_of j p.1) ∙ length-append left right in
      let f = s.few in
      (s.cells_length ∙ l, omega arith, λ r b. s.within r (omega arith))

  pub full_cells : All (λ s. length left + length right ≤ length s.2) ss
  full_cells = λ k d h. let w = (at k d (omega arith)).0 in omega arith

  pub few_cells : (m : ℕ) → 2 * (length left + length right) < m → All (λ s. length s.0 < m) ss
  few_cells m b = λ k d h. let w = (at k d (omega arith)).1 in omega arith

  module _ (boxes : List IndexBox) (counts : List ℕ) (all : length boxes ≡ length left + length right) (cells : (r : ℕ) → r < length left + length right → get_or (sides_of boxes) r [] ≡ map (cells_at r) ss) (same : counts ≡ map (λ s. length s.0) ss) where
    own : (k : ℕ) (d : IndexBox) → k < length boxes → (get_or boxes k d).sides.items ≡ map (cells_at k) ss
    own k d h = sym (map_at (λ (x : IndexBox). x.sides.items) boxes k d [] h) ∙ cells k (omega arith)

    count_length : length counts ≡ length ss
    count_length = ap length same ∙ length-map ss (λ (s : S). length s.0)

    pub box_length : All (λ x. length x.sides.items ≡ length counts) boxes
    box_length = λ k d h. ap length (own k d h) ∙ length-map ss (cells_at k) ∙ sym count_length

    pub box_cells : All (λ x. (s : ℕ) → s < length counts → (get_or {A = ℕ × ℕ} x.sides.items s (0, 0)).1 ≤ get_or counts s 0) boxes
    box_cells = λ k d h s l.
        let e : S = ([], [], []) in
        let z = count_length in
        let l' : s < length ss = omega arith in
        let a : get_or (get_or boxes k d).sides.items s (0, 0) ≡ get_or (get_or ss s e).2 k no_cells = ap (λ ys. get_or ys s (0, 0)) (own k d h) ∙ map_at (cells_at k) ss s e (0, 0) l' in
        let b : get_or counts s 0 ≡ length (get_or ss s e).0 = ap (λ ys. get_or ys s 0) same ∙ map_at (λ (w : S). length w.0) ss s e 0 l' in
        let w = (at s e (omega arith)).2 k (omega arith) in
        subst (λ (x : ℕ × ℕ). x.1 ≤ get_or counts s 0) (sym a) (subst (λ m. (get_or (get_or ss s e).2 k no_cells).1 ≤ m) (sym b) w)

  past : (xs : List S) (r s : ℕ) → length xs ≤ s → get_or (map (cells_at r) xs) s no_cells ≡ no_cells
  past [] r s h = refl
  past (x ∷ xs) r zero h = absurd (omega arith)
  past (x ∷ xs) r (suc s) h = past xs r s (omega arith)

  live_counts : (e : S) (r : ℕ) → r < length left + length right → (s : ℕ) → (get_or (map (cells_at r) ss) s no_cells).1 ≤ length (get_or ss s e).0
  live_counts e r b s = elim (cases_lt s (length ss)) [
    | inl l ↦ subst (λ (x : ℕ × ℕ). x.1 ≤ length (get_or ss s e).0) (sym (map_at (cells_at r) ss s e no_cells l)) ((at s e (omega arith)).2 r b)
    | inr l ↦ subst (λ (x : ℕ × ℕ). x.1 ≤ length (get_or ss s e).0) (sym (past ss r s l)) (omega arith)
  ]

  module _ (boxes : List (List (ℕ × ℕ))) (cells : (r : ℕ) → r < length left + length right → box boxes r ≡ map (cells_at r) ss) where
    live_all : (e : S) (a m : ℕ) → a + m ≤ length left + length right → AllByRecursion (λ r. (s : ℕ) → (get_or (box boxes r) s no_cells).1 ≤ length (get_or ss s e).0) (rows_from a m)
    live_all e a zero h = tt
    live_all e a (suc m) h = (λ s. subst (λ ys. (get_or ys s no_cells).1 ≤ length (get_or ss s e).0) (sym (cells a (omega arith))) (live_counts e a (omega arith) s), live_all e (suc a) m (omega arith))

    pub row_cells : {L : Type 0} (f : L → List ℕ → List ℕ → Type 0) (l : L) (y : List (ℕ × ℕ)) → IsSliceRow (length ts) f boxes (rows_from 0 (length left)) (rows_from (length left) (length right)) l y
        → (s : ℕ) (e : S) → s < length ts → ((get_or y s no_cells).0 < (get_or y s no_cells).1) × ((get_or y s no_cells).1 ≤ length (get_or ss s e).0)
    row_cells f l y h s e b =
        cells_bound (length ts) (InLive f boxes (rows_from 0 (length left)) (rows_from (length left) (length right)) l) y [] (λ i. length (get_or ss i e).0)
        (live_inside f boxes (rows_from 0 (length left)) (rows_from (length left) (length right)) l (λ i. length (get_or ss i e).0) (live_all e 0 (length left) (omega arith)) (live_all e (length left) (length right) (omega arith)))
        h s b

pub side_grid : {P : Type 0} (n : P → ℤ) (has : P → Type 0) (high : ℤ) (spans : List (P × P)) (s : List P × List P × List (ℕ × ℕ)) → IsSide n has high spans s → IsGrid n has high s
side_grid n has high spans s i = record { rises = i.rises; points = i.points; last_points = i.last_points; last_length = i.last_length; lasts = i.lasts }
