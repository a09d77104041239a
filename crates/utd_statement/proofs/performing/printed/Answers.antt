use Rattle.std.proofs.lemmas.Result.{err_from_is_err_and}
use Rattle.tree_core.specs.Relvars.{read_relvars}
use Rattle.tree_core.specs.Trees.{read_tree}
use Rattle.utd_statement.proofs.TellingLemmas.{printed_text, printed_stop}
use Rattle.utd_statement.proofs.CostLemmas.{printed_cost}
use Rattle.utd_statement.proofs.performing.printed.Goals as goal

pub returns-in_err-relation-clause-performed : goal.returns-in_err-relation-clause-performed
returns-in_err-relation-clause-performed g c =
    let p = err_from_is_err_and c.from_residual.result c.from_residual.ensures.1 in
    rw (p.1, p.2) (printed_stop (read_relvars c.args.relvars.now) c.args.tree.now c.in_err-relation.field-0.0 c.in_err-relation.ensures.value)

pub returns-clause-performed : goal.returns-clause-performed
returns-clause-performed g c = printed_text (read_relvars c.args.relvars.now) c.args.tree.now c.in_ok-relation.relation c.in_ok-table.field-0 c.in_ok-relation.ensures.value c.in_ok-table.ensures

pub returns-in_err-relation-clause-cost : goal.returns-in_err-relation-clause-cost
returns-in_err-relation-clause-cost g c = printed_cost (read_relvars c.args.relvars.now) (read_tree c.args.tree.now) _ _ c.in_err-relation.ensures.cost

pub returns-in_err-table-clause-cost : goal.returns-in_err-table-clause-cost
returns-in_err-table-clause-cost g c = printed_cost (read_relvars c.args.relvars.now) (read_tree c.args.tree.now) _ _ c.in_ok-relation.ensures.cost

pub returns-clause-cost : goal.returns-clause-cost
returns-clause-cost g c = printed_cost (read_relvars c.args.relvars.now) (read_tree c.args.tree.now) _ _ c.in_ok-relation.ensures.cost
