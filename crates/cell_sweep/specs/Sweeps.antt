-- The rows that are live, from cell to cell of a side.
use Rattle.std.specs.Prelude.{◌≡◌, ℕ, ◌<◌, ◌≤◌, ◌↔◌, true, List, length, get_or}
use Rattle.std.specs.List.{filter}
use Rattle.cell_packing.specs.Covering.{Among}
use Rattle.cell_packing.specs.Live.{side_has}
use Rattle.cell_sweep.specs.PackedRows.{span_of}
use Rattle.cell_sweep.specs.Rows.{AreRows}
use Rattle.cell_sweep.specs.declared.live.Sweep.{Sweep}

-- the rows with their first cells, by the cell
pub record AreStarts (boxes : List (List (ℕ × ℕ))) (side : ℕ) (rows : List ℕ) (starts : List (ℕ × ℕ)) : Type 0 where
  pub order : (i j : ℕ) → i ≤ j → j < length starts → (get_or starts i (0, 0)).0 ≤ (get_or starts j (0, 0)).0
  pub from : (x : ℕ × ℕ) → Among x starts → Among x.1 rows × (x.0 ≡ (span_of boxes side x.1).0)
  pub to : (r : ℕ) → Among r rows → Among ((span_of boxes side r).0, r) starts

-- of the first n of them, those are open that do not end by the cell
pub record AreOpen (boxes : List (List (ℕ × ℕ))) (side : ℕ) (rows : List ℕ) (cell : ℕ) (starts : List (ℕ × ℕ)) (n : ℕ) (live : List ℕ) : Type 0 where
  pub within : n ≤ length starts
  pub passed : (j : ℕ) → j < n → (get_or starts j (0, 0)).0 ≤ cell
  pub from : (r : ℕ) → Among r live → Among r rows
  pub to : (j : ℕ) → j < n → cell < (span_of boxes side (get_or starts j (0, 0)).1).1 → Among (get_or starts j (0, 0)).1 live

-- the sweep over the rows has come to the cell, or not so far
abbrev pub IsSweep : List (List (ℕ × ℕ)) → ℕ → List ℕ → ℕ → Sweep → Type 0
IsSweep boxes side rows cell s = AreStarts boxes side rows s.starts.items × AreOpen boxes side rows cell s.starts.items s.next s.live.items

-- of any rows in order that have with `rows` those of the cell in common, `live` are those of the cell
abbrev pub AreLive : List (List (ℕ × ℕ)) → ℕ → ℕ → List ℕ → List ℕ → Type 0
AreLive boxes side cell rows live =
    (a z : ℕ) (all : List ℕ) → AreRows a z all
    → ((r : ℕ) → side_has boxes side cell r ≡ true → Among r rows ↔ Among r all)
    → live ≡ filter (side_has boxes side cell) all

-- what holds of a sweep come to the cell, for any rows in order that it sweeps over from a cell not after it
abbrev pub ComesTo : List (List (ℕ × ℕ)) → ℕ → ℕ → Sweep → (List ℕ → Type 0) → Type 0
ComesTo boxes side cell old P = (a z b : ℕ) (rows : List ℕ) → AreRows a z rows → b ≤ cell → IsSweep boxes side rows b old → P rows
