use Rattle.std.proofs.Common.{◌++◌, sym, ap, arith}
use Rattle.utd_syntax.specs.Plain as plain
use Rattle.utd_syntax.specs.Read.{read_item, read_item_list}
use Rattle.utd_syntax.specs.Table.{MoreItems}
use Rattle.utd_builder.specs.Building.{left}
use Rattle.utd_builder.proofs.Paths.{none-yet}
use Rattle.utd_builder.proofs.StatementRows.{assign-to-item}
use Rattle.utd_builder.proofs.statements.assignment.Goals as goal

pub returns : goal.returns
returns c = record { shorter = omega (arith, c.in_ok-first.ensures.shorter, c.in_ok-more.ensures.shorter); goes_on = λ stack k x h. let h1 = assign-to-item (left c.args.cursor) _ k x h in let h2 = c.in_ok-first.ensures.goes_on _ _ x h1 in let h3 = none-yet MoreItems (left c.in_ok-first.next) _ (λ v. read_item_list c.new-list.result.items ++ v) _ x (λ v. ap (λ xs. read_item_list xs ++ v) (sym c.new-list.ensures.items)) h2 in c.in_ok-more.ensures.goes_on _ (λ w. k (plain.Assign (read_item c.in_ok-first.first) w.0, w.1)) x h3 }
