use Rattle.std.proofs.Common.{◌≡◌, ◌++◌, ◌∷◌, [], take}
use Rattle.utd_print.specs.Tables.{cells, names_of}
use Rattle.utd_print.proofs.tables.put_names.Given as goal

abbrev pub invariant-loop-at : goal.invariant-loop-at
invariant-loop-at l = l.out.items ≡ (l.fn.out.items ++ 124 ∷ []) ++ cells (take l.at l.widths) (take l.at (names_of l.attributes))
