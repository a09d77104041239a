use Rattle.u_constraints.proofs.SearchLemmas.{none_selected}
use Rattle.u_constraints.proofs.search.without_rows.Goals as goal

pub selection-requires : goal.selection-requires
selection-requires c = none_selected c.args.r.now.rows c.new.result.items c.new.ensures.items
