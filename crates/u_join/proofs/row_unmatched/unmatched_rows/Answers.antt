use Rattle.u_join.proofs.MadeLemmas.{if_made}
use Rattle.u_join.proofs.LeftRowLemmas.{left_fit, left_unmatched}
use Rattle.u_join.proofs.row_unmatched.unmatched_rows.Goals as goal

pub returns-clause-fit : goal.returns-clause-fit
returns-clause-fit c =
    let left = c.args.left.now in
    let right = c.args.right.now in
    if_made _ _ (λ rows are. left_fit left right c.leaving_rows.ensures.left_relation c.leaving_rows.ensures.right_relation c.args.here c.args.there c.requires.same c.requires.kinds c.requires.left c.requires.right rows.items are)
    c.leaving_rows.result c.leaving_rows.ensures.rows

pub returns-clause-rows : goal.returns-clause-rows
returns-clause-rows c =
    let left = c.args.left.now in
    let right = c.args.right.now in
    if_made _ _ (λ rows are. left_unmatched left right c.leaving_rows.ensures.left_relation c.leaving_rows.ensures.right_relation c.args.here c.args.there c.requires.same c.requires.kinds c.requires.left c.requires.right rows.items are)
    c.leaving_rows.result c.leaving_rows.ensures.rows
