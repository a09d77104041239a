use Rattle.std.proofs.Common.{◌≡◌, ◌++◌, map, take}
use Rattle.std.specs.List.{flat_map}
use Rattle.utd_print.specs.Tables.{table_line, row_texts}
use Rattle.utd_print.proofs.tables.put_rows.Given as goal

abbrev pub invariant-loop-row : goal.invariant-loop-row
invariant-loop-row l = l.out.items ≡ l.fn.out.items ++ flat_map (table_line l.widths) (map (row_texts l.types) (take l.row-index l.rows))
