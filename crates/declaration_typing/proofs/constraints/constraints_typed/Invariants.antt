use Rattle.std.proofs.Common.{◌≡◌, [], drop}
use Rattle.utd_syntax.specs.Read.{read_constraint_list}
use Rattle.tree_core.specs.Relvars.{read_relvars}
use Rattle.declaration_typing.specs.Constraints.{constraints_typed}
use Rattle.declaration_typing.proofs.constraints.constraints_typed.Given as goal

abbrev pub invariant-loop-constraint : goal.invariant-loop-constraint
invariant-loop-constraint l =
    constraints_typed (read_relvars l.relvars) l.own l.heading l.list.items (read_constraint_list (drop l.constraint-index l.constraints))
    ≡ constraints_typed (read_relvars l.relvars) l.own l.heading [] (read_constraint_list l.constraints)
