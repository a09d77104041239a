use Rattle.std.proofs.Common.{◌≡◌, map, take}
use Rattle.value_core.specs.Values.{Row}
use Rattle.cell_boxes.specs.Rows.{PlainCellBox}
use Rattle.u_summarize.specs.Asked.{number_in}
use Rattle.u_summarize.proofs.ranks.numbers_in.Given as goal

abbrev pub invariant-loop-row : goal.invariant-loop-row
invariant-loop-row l = l.list.items ≡ map (λ (x : PlainCellBox Row). number_in l.labels x.0) (take l.row-index l.rows)
