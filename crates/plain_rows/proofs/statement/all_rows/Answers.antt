use Rattle.plain_rows.proofs.ReadLemmas.{tuples-begin}
use Rattle.plain_rows.proofs.statement.all_rows.Goals as goal

pub returns : goal.returns
returns c = tuples-begin _ _ _ _ _ _ _ _ c.make-first.ensures c.in_ok-values.ensures c.past_space-more.ensures c.in_ok-rows.ensures
