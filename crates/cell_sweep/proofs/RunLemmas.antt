-- Rows that are runs are their own packed form.
use Rattle.std.proofs.Common.{◌≡◌, ℕ, suc, ◌<◌, true, cond, ltb, List, [], ◌∷◌, ◌++◌, map, length, ◌↔◌, inl, inr, arith, sym, ap, subst, refl, ◌∙◌, Ordering}
use Rattle.std.specs.declared.cmp.Ordering.TheVariants.{Equal}
use Rattle.std.specs.Cmp.{IsTotalOrder}
use Rattle.std.specs.Cmp.Lexicographic.{slice_cmp}
use Rattle.std.specs.Ordering.{ordering_then}
use Rattle.std.specs.List.{AllByRecursion, flat_map}
use Rattle.std.specs.List.Sorted.{IsStrictlySortedBy}
use Rattle.std.proofs.lemmas.Bool.Decides.{nat_tests}
use Rattle.cell_packing.specs.Covering.{Among}
use Rattle.cell_packing.specs.Pieces.{AreApart, Apart}
use Rattle.cell_packing.specs.declared.Piece.{Piece}
use Rattle.cell_packing.proofs.Joined.{apart_push_last}
use Rattle.cell_sweep.specs.PackedRows.{IsPackedOf, own_piece}
use Rattle.cell_sweep.specs.Rows.{pair_cmp, key_cmp, key_total, no_sides, with_last}
use Rattle.cell_sweep.specs.Runs.{first_span, HasOneSpan, IsParted, AreRuns}
use Rattle.cell_sweep.proofs.OneSideLemmas.{one_side, one_side_rows, one_side_sorted}

abbrev piece_of : {P : Type 0} → P × List (ℕ × ℕ) → Piece (P × List (ℕ × ℕ))
piece_of x = record { key = no_sides x.0; begin = (first_span x).0; end = (first_span x).1 }

own_one : {P : Type 0} (x : P × List (ℕ × ℕ)) → HasOneSpan x → own_piece x ≡ piece_of x ∷ []
own_one x h = ap (λ b. cond b (piece_of x ∷ []) []) (above (first_span x).0 (first_span x).1 h.1)
  where
    above : (a z : ℕ) → a < z → ltb a z ≡ true
    above a z l = grind (arith, nat_tests)

own_all : {P : Type 0} (rows : List (P × List (ℕ × ℕ))) → AllByRecursion HasOneSpan rows → flat_map own_piece rows ≡ map piece_of rows
own_all [] h = refl
own_all (x ∷ xs) h = λ t. own_one x h.0 t ++ own_all xs h.1 t

last_one : {P : Type 0} (x : P × List (ℕ × ℕ)) → HasOneSpan x → with_last (piece_of x) ≡ x
last_one x h = let e = one_side x.1 h.0 in λ t. (x.0, sym e t)

last_all : {P : Type 0} (rows : List (P × List (ℕ × ℕ))) → AllByRecursion HasOneSpan rows → map with_last (map piece_of rows) ≡ rows
last_all [] h = refl
last_all (x ∷ xs) h = λ t. last_one x h.0 t ∷ last_all xs h.1 t

module _ {P : Type 0} (order : P → P → Ordering) (total : IsTotalOrder order) (separates : (a b : P) → order a b ≡ Equal → a ≡ b) where
  abbrev CellBox : Type 0
  CellBox = P × List (ℕ × ℕ)

  abbrev R : CellBox → CellBox → Ordering
  R = key_cmp order

  apart_pieces : (x y : CellBox) → IsParted order x y → Apart R (piece_of x) (piece_of y)
  apart_pieces x y h = elim h [
    | inl l ↦ inl (ap (λ c. ordering_then c (slice_cmp pair_cmp [] [])) l)
    | inr w ↦ inr (ap (λ c. ordering_then c (slice_cmp pair_cmp [] [])) w.0, w.1)
  ]

  -- what is apart from a piece is so from those that are behind this one
  behind : (x y z : Piece CellBox) → x.begin < x.end → y.begin < y.end → z.begin < z.end → Apart R x y → Apart R y z → Apart R x z
  behind x y z sx sy sz a b = (apart_push_last R (key_total total) (x ∷ y ∷ []) 1 y z refl refl (sx, (a, tt), (sy, tt, tt)) sz b).1.1.0

  all_behind : (x y : Piece CellBox) (ps : List (Piece CellBox)) → x.begin < x.end → y.begin < y.end → Apart R x y → AllByRecursion (Apart R y) ps → AreApart R ps → AllByRecursion (Apart R x) ps
  all_behind x y [] sx sy a h g = tt
  all_behind x y (p ∷ ps) sx sy a h g = (behind x y p sx sy g.0 a h.0, all_behind x y ps sx sy a h.1 g.2)

  next_runs : (x : CellBox) (xs : List CellBox) → AreRuns order (x ∷ xs) → AreRuns order xs
  next_runs x xs h = λ i l. let w = h (suc i) (omega arith) in (w.0, λ d e m. w.1 d e (omega arith))

  all_one : (rows : List CellBox) → AreRuns order rows → AllByRecursion HasOneSpan rows
  all_one [] h = tt
  all_one (x ∷ xs) h = ((h 0 (omega arith)).0 x, all_one xs (next_runs x xs h))

  pieces_apart : (rows : List CellBox) → AreRuns order rows → AreApart R (map piece_of rows)
  pieces_apart [] h = tt
  pieces_apart (x ∷ []) h = (((h 0 (omega arith)).0 x).1, tt, tt)
  pieces_apart (x ∷ y ∷ ys) h =
      let w = h 0 (omega arith) in
      let g = next_runs x (y ∷ ys) h in
      let ih = pieces_apart (y ∷ ys) g in
      let a = apart_pieces x y (w.1 x y (omega arith)) in
      let sx = (w.0 x).1 in
      (sx, (a, all_behind (piece_of x) (piece_of y) (map piece_of ys) sx ih.0 a ih.1 ih.2), ih)

  module _ (rows : List CellBox) (runs : AreRuns order rows) where
    abbrev pieces : List (Piece CellBox)
    pieces = flat_map own_piece rows

    own : pieces ≡ map piece_of rows
    own = own_all rows (all_one rows runs)

    apart : AreApart R pieces
    apart = subst (AreApart R) (sym own) (pieces_apart rows runs)

    made : rows ≡ map with_last pieces
    made = sym (ap (map with_last) own ∙ last_all rows (all_one rows runs))

    pub runs_packed : (x : CellBox) → Among x rows ↔ (length x.1 ≡ 1) × IsPackedOf 1 rows x
    runs_packed = one_side_rows order total separates rows pieces pieces rows refl apart (λ k i. (λ h. h, λ h. h)) made

    pub runs_sorted : IsStrictlySortedBy R rows
    runs_sorted = one_side_sorted order total separates rows pieces pieces rows refl apart (λ k i. (λ h. h, λ h. h)) made
