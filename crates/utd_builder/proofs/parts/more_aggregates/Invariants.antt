use Rattle.std.proofs.Common.{◌≤◌, ◌++◌, length}
use Rattle.utd_syntax.specs.Read.{read_aggregate_list}
use Rattle.utd_syntax.specs.Table.{MoreAggregates}
use Rattle.utd_syntax.proofs.FormValues.{Val}
use Rattle.utd_builder.specs.Building.{left}
use Rattle.utd_builder.proofs.Paths.{Onwards}
use Rattle.utd_builder.proofs.parts.more_aggregates.Given as goal

abbrev pub invariant-loop-next : goal.invariant-loop-next
invariant-loop-next l = Onwards MoreAggregates (Val MoreAggregates) (λ v. read_aggregate_list l.fn.aggregates.list.items ++ v) (λ v. read_aggregate_list l.list.items ++ v) (left l.fn.cursor) (left l.next) × (length (left l.next) ≤ length (left l.fn.cursor))

abbrev pub decreases-loop-next : goal.decreases-loop-next
decreases-loop-next l = length (left l.next)
