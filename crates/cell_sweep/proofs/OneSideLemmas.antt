-- Rows packed on one side, for all labels at once.
use Rattle.std.proofs.Common.{◌≡◌, ℕ, ◌<◌, ◌≤◌, true, false, cond, ltb, List, [], ◌∷◌, ◌++◌, map, length, get_or, ◌↔◌, inl, inr, arith, sym, ap, subst, refl, ◌∙◌, Ordering}
use Rattle.std.specs.declared.cmp.Ordering.TheVariants.{Equal}
use Rattle.std.specs.Cmp.{IsTotalOrder}
use Rattle.std.specs.List.{All, AllByRecursion, flat_map}
use Rattle.std.specs.List.Sorted.{IsStrictlySortedBy}
use Rattle.std.proofs.lemmas.Bool.Decides.{nat_tests}
use Rattle.std.proofs.lemmas.Cmp.{tied_itself}
use Rattle.std.proofs.lemmas.List.Elements.{All-from_recursion}
use Rattle.std.proofs.Math.Bool.{and-true}
use Rattle.cell_packing.specs.Covering.{Among}
use Rattle.cell_packing.specs.Live.{has_grid_point, span_has}
use Rattle.cell_packing.specs.Packed.{no_cells}
use Rattle.cell_packing.specs.Pieces.{Covers, HasPiece, AreApart}
use Rattle.cell_packing.specs.declared.Piece.{Piece}
use Rattle.cell_packing.proofs.AmongLemmas.{among_map}
use Rattle.cell_packing.proofs.Joined.{IsIndexRun-iff, run_from_apart, apart_from_run, covers_append}
use Rattle.cell_sweep.specs.PackedRows.{HasRow, IsPackedOf, alone, own_piece}
use Rattle.cell_sweep.specs.Rows.{key_cmp, key_total, no_sides, with_last}
use Rattle.cell_sweep.proofs.Steps.{one_key, piece_by, piece_from, sorted_last}
use Rattle.cell_sweep.proofs.Sweeping.{cell_has, span_from}

-- ---- a place of one cell

one_grid_point : (y : List (ℕ × ℕ)) (i : ℕ) → has_grid_point y (i ∷ []) ≡ span_has (get_or y 0 no_cells) i
one_grid_point [] i = grind (arith, nat_tests)
one_grid_point (s ∷ ss) i = and-true (span_has s i)

pub one_side : (y : List (ℕ × ℕ)) → length y ≡ 1 → y ≡ get_or y 0 no_cells ∷ []
one_side [] e = absurd (omega arith)
one_side (s ∷ []) e = refl
one_side (s ∷ t ∷ ts) e = absurd (omega arith)

-- ---- each piece has a cell

abbrev IsSome : {K : Type 0} → Piece K → Type 0
IsSome p = p.begin < p.end

some_both : {K : Type 0} (xs ys : List (Piece K)) → AllByRecursion IsSome xs → AllByRecursion IsSome ys → AllByRecursion IsSome (xs ++ ys)
some_both [] ys a b = b
some_both (x ∷ xs) ys a b = (a.0, some_both xs ys a.1 b)

some_alone : {K : Type 0} (k : K) (s : ℕ × ℕ) → AllByRecursion IsSome (alone k s)
some_alone k s = elim (ltb s.0 s.1) as (λ b. ltb s.0 s.1 ≡ b → AllByRecursion IsSome (cond b (record { key = k; begin = s.0; end = s.1 } ∷ []) [])) [
  | true ↦ λ e. (below s.0 s.1 e, tt)
  | false ↦ λ e. tt
] refl
  where
    below : (a z : ℕ) → ltb a z ≡ true → a < z
    below a z e = grind (arith, nat_tests)

some_rows : {P : Type 0} (rows : List (P × List (ℕ × ℕ))) → AllByRecursion IsSome (flat_map own_piece rows)
some_rows [] = tt
some_rows (x ∷ xs) = some_both (own_piece x) (flat_map own_piece xs) (some_alone (no_sides x.0) (get_or x.1 0 no_cells)) (some_rows xs)

pub rows_some : {P : Type 0} (rows : List (P × List (ℕ × ℕ))) → All (λ p. p.begin < p.end) (flat_map own_piece rows)
rows_some rows = All-from_recursion IsSome (flat_map own_piece rows) (some_rows rows)

-- ---- the longest runs of cells of each label

module _ {P : Type 0} (order : P → P → Ordering) (total : IsTotalOrder order) (separates : (a b : P) → order a b ≡ Equal → a ≡ b) where
  abbrev CellBox : Type 0
  CellBox = P × List (ℕ × ℕ)

  abbrev R : CellBox → CellBox → Ordering
  R = key_cmp order

  tied : (x k : CellBox) → x ≡ k → R x k ≡ Equal
  tied x k e = subst (λ y. R x y ≡ Equal) e (tied_itself (key_total total) x)

  covers_alone : (x : CellBox) (s : ℕ × ℕ) (k : CellBox) (i : ℕ) → Covers R (alone x s) k i ↔ (x ≡ k) × (span_has s i ≡ true)
  covers_alone x s k i =
      elim (ltb s.0 s.1) as (λ b. ltb s.0 s.1 ≡ b → Covers R (cond b (record { key = x; begin = s.0; end = s.1 } ∷ []) []) k i ↔ (x ≡ k) × (span_has s i ≡ true)) [
        | true ↦ λ e. (
          λ h. elim h [ inl w ↦ (one_key order total separates x k w.0, span_from s i w.1 w.2) | inr w ↦ absurd w ],
          λ h. let c = cell_has s i h.1 in inl (tied x k h.0, c.0, c.1),
        )
        | false ↦ λ e. (λ h. absurd h, λ h. let c = cell_has s i h.1 in absurd (empty s.0 s.1 e c.0 c.1))
      ] refl
    where
      empty : (a z : ℕ) → ltb a z ≡ false → a ≤ i → i < z → ⊥
      empty a z e l m = grind (arith, nat_tests)

  covers_rows : (rows : List CellBox) (k : CellBox) (i : ℕ) → Covers R (flat_map own_piece rows) k i ↔ (k.1 ≡ []) × HasRow rows k.0 (i ∷ [])
  covers_rows [] k i = (λ h. absurd h, λ h. absurd h.1.1)
  covers_rows (x ∷ xs) k i =
      let a = covers_append R (key_total total) (own_piece x) (flat_map own_piece xs) k i in
      let c = covers_alone (no_sides x.0) (get_or x.1 0 no_cells) k i in
      let ih = covers_rows xs k i in (
        λ h. elim (a.0 h) [
          | inl w ↦
              let v = c.0 w in
              let l : x.0 ≡ k.0 = ap (λ (y : CellBox). y.0) v.0 in
              (sym (ap (λ (y : CellBox). y.1) v.0), (x.1, inl (λ t. (l t, x.1)), one_grid_point x.1 i ∙ v.1))
          | inr w ↦ let v = ih.0 w in (v.0, (v.1.0, inr v.1.1, v.1.2))
        ],
        λ h. a.1 (elim h.1.1 [
          | inl e ↦
              let l : x.0 ≡ k.0 = ap (λ (y : CellBox). y.0) e in
              let n : [] ≡ k.1 = sym h.0 in
              let y : x.1 ≡ h.1.0 = ap (λ (y : CellBox). y.1) e in
              inl (c.1 ((λ t. (l t, n t)), ap (λ z. span_has (get_or z 0 no_cells) i) y ∙ sym (one_grid_point h.1.0 i) ∙ h.1.2))
          | inr m ↦ inr (ih.1 (h.0, (h.1.0, m, h.1.2)))
        ]),
      )

  module _ (rows : List CellBox) (pieces runs : List (Piece CellBox)) (out : List CellBox)
      (own : pieces ≡ flat_map own_piece rows)
      (apart : AreApart R runs)
      (same : (k : CellBox) (i : ℕ) → Covers R runs k i ↔ Covers R pieces k i)
      (made : out ≡ map with_last runs) where
    covered : (k : CellBox) (i : ℕ) → Covers R runs k i ↔ (k.1 ≡ []) × HasRow rows k.0 (i ∷ [])
    covered k i =
        let a = same k i in
        let b = covers_rows rows k i in
        let c : Covers R pieces k i ↔ (k.1 ≡ []) × HasRow rows k.0 (i ∷ []) = subst (λ ps. Covers R ps k i ↔ (k.1 ≡ []) × HasRow rows k.0 (i ∷ [])) (sym own) b in
        (λ h. c.0 (a.0 h), λ h. a.1 (c.1 h))

    -- a run of the label's cells
    give : (l : P) (s : ℕ × ℕ) → HasPiece R runs (l, []) s.0 s.1 ↔ IsPackedOf 1 rows (l, s ∷ [])
    give l s =
        let C : ℕ → Type 0 = Covers R runs (l, []) in
        let H : ℕ → Type 0 = λ i. HasRow rows l (i ∷ []) in
        let c : (i : ℕ) → C i ↔ H i = λ i. let w = covered (l, []) i in (λ h. (w.0 h).1, λ h. w.1 (refl, h)) in (
          λ h. IsIndexRun-iff C H c s.0 s.1 (run_from_apart R (key_total total) runs (l, []) s.0 s.1 apart h),
          λ h. apart_from_run R (key_total total) runs (l, []) s.0 s.1 apart (IsIndexRun-iff H C (λ i. ((c i).1, (c i).0)) s.0 s.1 h),
        )

    own_sides : (p : Piece CellBox) → Among p runs → p.key.1 ≡ []
    own_sides p m =
        let r = run_from_apart R (key_total total) runs p.key p.begin p.end apart (piece_from R (key_total total) (one_key order total separates) runs p m) in
        let low : p.begin ≤ p.begin = omega arith in
        ((covered p.key p.begin).0 (r.each p.begin low r.some)).0

    from_run : (p : Piece CellBox) → Among p runs → (length (with_last p).1 ≡ 1) × IsPackedOf 1 rows (with_last p)
    from_run p m =
        let n : p.key.1 ≡ [] = own_sides p m in
        let h : HasPiece R runs p.key p.begin p.end = piece_from R (key_total total) (one_key order total separates) runs p m in
        let g : HasPiece R runs (p.key.0, []) p.begin p.end = subst (λ y. HasPiece R runs (p.key.0, y) p.begin p.end) n h in
        subst (λ y. (length (y ++ (p.begin, p.end) ∷ []) ≡ 1) × IsPackedOf 1 rows (p.key.0, y ++ (p.begin, p.end) ∷ [])) (sym n) (refl, (give p.key.0 (p.begin, p.end)).0 g)

    to_run : (x : CellBox) → length x.1 ≡ 1 → IsPackedOf 1 rows x → (p : Piece CellBox) × Among p runs × (with_last p ≡ x)
    to_run x e h =
        let s : ℕ × ℕ = get_or x.1 0 no_cells in
        let y : x.1 ≡ s ∷ [] = one_side x.1 e in
        let q = piece_by R (key_total total) (one_key order total separates) runs (x.0, []) s.0 s.1 ((give x.0 s).1 (subst (λ z. IsPackedOf 1 rows (x.0, z)) y h)) in
        let w : with_last q.0 ≡ (x.0, s ∷ []) = λ t. ((q.2 t).0, (q.2 t).1 ++ (q.3 t, q.4 t) ∷ []) in
        (q.0, q.1, w ∙ (λ t. (x.0, sym y t)))

    pub one_side_rows : (x : CellBox) → Among x out ↔ (length x.1 ≡ 1) × IsPackedOf 1 rows x
    one_side_rows x =
        let m = among_map with_last x runs in (
          λ h. let w = m.0 (subst (Among x) made h) in subst (λ (k : CellBox). (length k.1 ≡ 1) × IsPackedOf 1 rows k) w.2 (from_run w.0 w.1),
          λ h. let q = to_run x h.0 h.1 in subst (Among x) (sym made) (m.1 q),
        )

    no_lengths : (ps : List (Piece CellBox)) → ((p : Piece CellBox) → Among p ps → p.key.1 ≡ []) → AllByRecursion (λ p. length p.key.1 ≡ 0) ps
    no_lengths [] h = tt
    no_lengths (p ∷ ps) h = (ap length (h p (inl refl)), no_lengths ps (λ q w. h q (inr w)))

    pub one_side_sorted : IsStrictlySortedBy R out
    one_side_sorted = subst (IsStrictlySortedBy R) (sym made) (sorted_last order total separates 0 runs (no_lengths runs own_sides) apart)
