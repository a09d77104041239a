use Rattle.u_constraints.proofs.SearchLemmas.{none_touched}
use Rattle.u_constraints.proofs.search.touched_by.Goals as goal

pub returns-then-is_either_empty-clause-rows : goal.returns-then-is_either_empty-clause-rows
returns-then-is_either_empty-clause-rows c =
    none_touched c.args.positions.now c.args.few.now c.args.many.now c.without_rows.result (c.is_either_empty.ensures.empty c.if-is_either_empty.true) c.without_rows.ensures
