use Rattle.std.proofs.Common.{map}
use Rattle.value_core.specs.Plain.{plain}
use Rattle.utd_print.specs.Tables.{row_texts}
use Rattle.utd_print.proofs.TableLemmas.{Widened}
use Rattle.utd_print.proofs.tables.widen.Given as goal

abbrev pub invariant-loop-at : goal.invariant-loop-at
invariant-loop-at l = Widened l.fn.widths (row_texts l.types (map plain l.values)) l.widths l.at
