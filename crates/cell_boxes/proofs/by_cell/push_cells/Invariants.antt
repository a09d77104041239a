use Rattle.std.proofs.Common.{◌≡◌, ℕ, ◌++◌, map, take}
use Rattle.cell_boxes.proofs.by_cell.push_cells.Given as goal

abbrev pub invariant-loop-p : goal.invariant-loop-p
invariant-loop-p l = l.out.items ≡ l.fn.out.items ++ map (λ (x : ℕ × ℕ). x.0) (take l.p-index l.pairs)
