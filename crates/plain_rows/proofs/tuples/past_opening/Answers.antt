use Rattle.plain_rows.proofs.TupleLemmas.{opening}
use Rattle.plain_rows.proofs.tuples.past_opening.Goals as goal

pub returns : goal.returns
returns c = opening _ _ _ _ _ c.in_ok-behind.ensures c.past_space-brace.ensures c.in_ok-opened.ensures c.past_space.ensures
