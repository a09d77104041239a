use Rattle.std.proofs.Common.{map}
use Rattle.relation_core.specs.Groups.{rows_at}
use Rattle.tree_core.specs.Trees.{read_aggregate}
use Rattle.meaning_core.specs.Rows.{group_at}
use Rattle.algebra_core.specs.contracts.summary.fn.summarized_at.f as closure
use Rattle.algebra_core.proofs.summary.summarized_at.Given as goal

abbrev pub ghost-summarize : goal.ghost-summarize
ghost-summarize a = λ numbers.
    let making = (closure.captures a.f.now).making.now in
    group_at making.at.now (map read_aggregate making.aggregates.now) (rows_at making.rows.now numbers)
