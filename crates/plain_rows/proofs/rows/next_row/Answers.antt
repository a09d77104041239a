use Rattle.plain_rows.proofs.RowLemmas.{next-tuple}
use Rattle.plain_rows.proofs.rows.next_row.Goals as goal

pub returns : goal.returns
returns c = next-tuple _ _ _ _ _ _ _ _ c.make-row.ensures c.in_ok-behind.ensures c.past_space-here.ensures c.in_ok-values.ensures c.past_space-past.ensures
