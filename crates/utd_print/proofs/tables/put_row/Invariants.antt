use Rattle.std.proofs.Common.{◌≡◌, ◌++◌, ◌∷◌, [], map, take}
use Rattle.value_core.specs.Plain.{plain}
use Rattle.utd_print.specs.Tables.{cells, row_texts}
use Rattle.utd_print.proofs.tables.put_row.Given as goal

abbrev pub invariant-loop-at : goal.invariant-loop-at
invariant-loop-at l = l.out.items ≡ (l.fn.out.items ++ 124 ∷ []) ++ cells (take l.at l.widths) (take l.at (row_texts l.types (map plain l.values)))
