use Rattle.std.proofs.Common.{◌≡◌, map, take, Ok}
use Rattle.base_core.specs.Outcomes.{first_of_all}
use Rattle.tree_core.specs.Trees.{read_sets}
use Rattle.meaning_core.specs.Rows.{literal_row}
use Rattle.algebra_core.proofs.literal.tuple_rows.Given as goal

abbrev pub invariant-loop-tuple : goal.invariant-loop-tuple
invariant-loop-tuple l = first_of_all (map (literal_row l.heading) (map read_sets (take l.tuple-index l.tuples))) ≡ Ok l.rows.items
