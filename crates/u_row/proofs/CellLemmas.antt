-- The cells of a box have just the box's places.
use Rattle.std.proofs.Common.{◌≡◌, ◌↔◌, ℕ, suc, ◌+◌, ◌<◌, ℤ, ◌≤ℤ◌, List, [], ◌∷◌, map, length, get_or, refl, sym, subst, inl, inr, arith}
use Rattle.interval_core.specs.Members.{Span}
use Rattle.std.proofs.lemmas.Int.{ints}
use Rattle.cell_packing.specs.Covering.{Among}
use Rattle.cell_packing.specs.Packed.{Has, firsts}
use Rattle.cell_packing.proofs.AmongLemmas.{among_map, among_flat}
use Rattle.cell_core.specs.Cells.{box_numbers}
use Rattle.u_row.specs.Cutting.{AreCuts, AreCutsFrom, pieces, cells_from, cells_of}
use Rattle.u_row.proofs.CuttingLemmas.{in_piece, piece_in, piece_some}

-- each place of the box is one of a cell
pub in_cell : (cuts : ℕ → List ℤ) (j : ℕ) (box : List Span) → AreCutsFrom cuts j box → (place : List ℤ) → Has box place → (cell : List Span) × Among cell (cells_from cuts j box) × Has cell place
in_cell cuts j [] h [] p = ([], inl refl, tt)
in_cell cuts j [] h (q ∷ place) p = absurd p
in_cell cuts j (i ∷ is) h [] p = absurd p
in_cell cuts j (i ∷ is) h (q ∷ place) p =
    let first = in_piece i.0 i.1 (cuts j) h.0.1 q p.0 p.1 in
    let rest = in_cell cuts (suc j) is h.1 place p.2 in
    let cell : List Span = first.0 ∷ rest.0 in (
      cell,
      (among_flat (λ (s : Span). map (λ ps. s ∷ ps) (cells_from cuts (suc j) is)) cell (pieces i.0 i.1 (cuts j))).1 (first.0, first.1, (among_map (λ ps. first.0 ∷ ps) cell (cells_from cuts (suc j) is)).1 (rest.0, rest.1, refl)),
      (first.2, first.3, rest.2),
    )

-- and each place of a cell is one of the box
pub cell_in : (cuts : ℕ → List ℤ) (j : ℕ) (box : List Span) → AreCutsFrom cuts j box → (cell : List Span) → Among cell (cells_from cuts j box) → (place : List ℤ) → Has cell place → Has box place
cell_in cuts j [] h cell m place p = elim m [ inl e ↦ subst (λ (c : List Span). Has c place) (sym e) p | inr n ↦ absurd n ]
cell_in cuts j (i ∷ is) h cell m place p =
    let w = (among_flat (λ (s : Span). map (λ ps. s ∷ ps) (cells_from cuts (suc j) is)) cell (pieces i.0 i.1 (cuts j))).0 m in
    let v = (among_map (λ ps. w.0 ∷ ps) cell (cells_from cuts (suc j) is)).0 w.2 in
    go v.0 (λ ps q. cell_in cuts (suc j) is h.1 v.0 v.1 ps q) w.0 w.1 place (subst (λ (c : List Span). Has c place) (sym v.2) p)
  where
    go : (c : List Span) → ((ps : List ℤ) → Has c ps → Has is ps) → (s : Span) → Among s (pieces i.0 i.1 (cuts j)) → (ps : List ℤ) → Has (s ∷ c) ps → Has (i ∷ is) ps
    go c rest s a [] q = absurd q
    go c rest s a (x ∷ ps) q =
        let first = piece_in i.0 i.1 (cuts j) h.0.1 s a x q.0 q.1 in
        (first.0, first.1, rest ps q.2)

-- a cell has its first place
pub has_firsts : (cuts : ℕ → List ℤ) (j : ℕ) (box : List Span) → AreCutsFrom cuts j box → (cell : List Span) → Among cell (cells_from cuts j box) → Has cell (firsts cell)
has_firsts cuts j [] h cell m = elim m [ inl e ↦ subst (λ (c : List Span). Has c (firsts c)) e tt | inr n ↦ absurd n ]
has_firsts cuts j (i ∷ is) h cell m =
    let w = (among_flat (λ (s : Span). map (λ ps. s ∷ ps) (cells_from cuts (suc j) is)) cell (pieces i.0 i.1 (cuts j))).0 m in
    let v = (among_map (λ ps. w.0 ∷ ps) cell (cells_from cuts (suc j) is)).0 w.2 in
    let low : (w.0).0 ≤ℤ (w.0).1 = piece_some i.0 i.1 (cuts j) h.0.0 h.0.1 w.0 w.1 in
    subst (λ (c : List Span). Has c (firsts c)) v.2 (refl_le (w.0).0, low, has_firsts cuts (suc j) is h.1 v.0 v.1)
  where
    refl_le : (n : ℤ) → n ≤ℤ n
    refl_le n = omega (arith, ints)

-- so there is a cell's first place with each place of the box
pub cells_have : (cuts : ℕ → List ℤ) (box : List Span) → AreCutsFrom cuts 0 box → (place : List ℤ) → Has box place ↔ ((cell : List Span) × Among cell (cells_of cuts box) × Has cell place)
cells_have cuts box h place = (λ p. in_cell cuts 0 box h place p, λ w. cell_in cuts 0 box h w.0 w.1 place w.2)

-- the same by the sides' numbers
pub are_cuts : {P : Type 0} (n : P → ℤ) (cuts : ℕ → List ℤ) (sides : List (P × P)) (j : ℕ)
    → ((i r : ℕ) (d : P × P) → i < length sides → r ≡ j + i → (n (get_or sides i d).0 ≤ℤ n (get_or sides i d).1) × AreCuts (n (get_or sides i d).0) (n (get_or sides i d).1) (cuts r))
    → AreCutsFrom cuts j (box_numbers n sides)
are_cuts n cuts [] j h = tt
are_cuts n cuts (s ∷ ss) j h = (h 0 j s (omega arith) (omega arith), are_cuts n cuts ss (suc j) (λ i r d l e. h (suc i) r d (omega arith) (omega arith)))
