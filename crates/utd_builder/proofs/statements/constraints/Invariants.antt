use Rattle.std.proofs.Common.{◌≤◌, ◌++◌, length}
use Rattle.utd_syntax.specs.Read.{read_constraint_list}
use Rattle.utd_syntax.specs.Table.{MoreConstraints}
use Rattle.utd_syntax.proofs.FormValues.{Val}
use Rattle.utd_builder.specs.Building.{left}
use Rattle.utd_builder.proofs.Paths.{Onwards}
use Rattle.utd_builder.proofs.statements.constraints.Given as goal

abbrev pub invariant-rules : goal.invariant-rules
invariant-rules l = Onwards MoreConstraints (Val MoreConstraints) (λ v. v) (λ v. read_constraint_list l.list.items ++ v) (left l.fn.cursor) (left l.next) × (length (left l.next) ≤ length (left l.fn.cursor))

abbrev pub decreases-rules : goal.decreases-rules
decreases-rules l = length (left l.next)
