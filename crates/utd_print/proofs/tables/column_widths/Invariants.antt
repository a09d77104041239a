use Rattle.std.proofs.Common.{◌∷◌, map, take, length}
use Rattle.utd_print.specs.Tables.{names_of, row_texts}
use Rattle.utd_print.proofs.TableLemmas.{AreWidths}
use Rattle.utd_print.proofs.tables.column_widths.Given as goal

abbrev pub invariant-loop-row : goal.invariant-loop-row
invariant-loop-row l = AreWidths (names_of l.attributes ∷ map (row_texts l.types) (take l.row-index l.rows)) (length l.attributes) l.widths.items
