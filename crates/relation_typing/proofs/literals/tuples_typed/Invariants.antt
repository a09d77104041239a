use Rattle.std.proofs.Common.{◌≡◌, drop, map}
use Rattle.utd_syntax.specs.Read.{read_tuple_list}
use Rattle.tree_core.specs.Trees.{read_sets}
use Rattle.relation_typing.specs.Literals.{tuples_typed}
use Rattle.relation_typing.proofs.literals.tuples_typed.Given as goal

abbrev pub invariant-loop-tuple : goal.invariant-loop-tuple
invariant-loop-tuple l =
    tuples_typed l.types l.heading (map read_sets l.list.items) (read_tuple_list (drop l.tuple-index l.fn.tuples))
    ≡ tuples_typed l.types l.heading (map read_sets l.fn.before.items) (read_tuple_list l.fn.tuples)
