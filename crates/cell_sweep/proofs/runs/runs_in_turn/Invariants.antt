use Rattle.std.proofs.Common.{ℕ, ◌<◌, ◌≤◌, ◌↔◌, length, get_or, take}
use Rattle.cell_packing.specs.Pieces.{AreApart, Covers}
use Rattle.cell_sweep.specs.declared.bare.NoLabel.{NoLabel}
use Rattle.cell_sweep.specs.PackedRows.{span_of}
use Rattle.cell_sweep.specs.Rows.{sides_of}
use Rattle.cell_sweep.specs.TwoSides.{bare_cmp, bare_spans, NoneAfter}
use Rattle.cell_sweep.proofs.runs.runs_in_turn.Given as goal

abbrev pub invariant-loop-r : goal.invariant-loop-r
invariant-loop-r l = record {
  apart : AreApart bare_cmp l.runs.items;
  covers : (k : NoLabel) (i : ℕ) → Covers bare_cmp l.runs.items k i ↔ Covers bare_cmp (bare_spans (sides_of l.boxes) (take l.r-index l.rows)) k i;
  order : (j d : ℕ) → l.r-index ≤ j → j < length l.rows → NoneAfter (span_of (sides_of l.boxes) 0 (get_or l.rows j d)).0 l.runs.items;
}
