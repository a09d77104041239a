-- Cells of two sides as pieces of the second one, whose keys are runs of the first.
use Rattle.std.specs.Prelude.{ℕ, ◌<◌, ◌≤◌, List, [], ◌∷◌, length, get_or, flat_map}
use Rattle.std.specs.declared.cmp.Ordering.{Ordering}
use Rattle.std.specs.declared.cmp.Ordering.TheVariants.{Equal}
use Rattle.cell_packing.specs.Pieces.{AllNotAfter}
use Rattle.cell_packing.specs.declared.Piece.{Piece}
use Rattle.cell_sweep.specs.declared.bare.NoLabel.{NoLabel}
use Rattle.cell_sweep.specs.PackedRows.{bare, span_of, alone}

-- a run of cells as a row of one side
abbrev pub run_row : Piece NoLabel → NoLabel × List (ℕ × ℕ)
run_row p = (p.key, (p.begin, p.end) ∷ [])

-- a run of cells of the first side over those of the second one from a up to before z
abbrev pub slab : ℕ → ℕ → Piece NoLabel → Piece (ℕ × ℕ)
slab a z p = record { key = (p.begin, p.end); begin = a; end = z }

-- the same as a row of both sides
abbrev pub slab_row : Piece (ℕ × ℕ) → NoLabel × List (ℕ × ℕ)
slab_row p = (record {}, p.key ∷ (p.begin, p.end) ∷ [])

-- the order of the one label of rows that have none
abbrev pub bare_cmp : NoLabel → NoLabel → Ordering
bare_cmp a b = Equal

-- the cells of the rows on their first side, as pieces
abbrev pub bare_spans : List (List (ℕ × ℕ)) → List ℕ → List (Piece NoLabel)
bare_spans boxes rows = flat_map (λ r. alone bare (span_of boxes 0 r)) rows

-- no row begins before one that stands before it, on their first side
abbrev pub BeginInTurn : List (List (ℕ × ℕ)) → List ℕ → Type 0
BeginInTurn boxes rows = (i j : ℕ) (d e : ℕ) → i ≤ j → j < length rows → (span_of boxes 0 (get_or rows i d)).0 ≤ (span_of boxes 0 (get_or rows j e)).0

-- no piece begins after the cell
abbrev pub NoneAfter : ℕ → List (Piece NoLabel) → Type 0
NoneAfter n ps = AllNotAfter bare_cmp ps (record { key = bare; begin = n; end = n })
