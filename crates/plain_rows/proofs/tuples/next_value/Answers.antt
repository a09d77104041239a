use Rattle.plain_rows.proofs.MoreLemmas.{next}
use Rattle.plain_rows.proofs.tuples.next_value.Goals as goal

pub returns : goal.returns
returns c = next _ _ _ _ _ _ _ _ c.in_ok-behind.ensures c.past_space-here.ensures c.in_ok-v.ensures c.past_space-past.ensures
