use Rattle.plain_rows.proofs.OrdinalLemmas.{both-words}
use Rattle.plain_rows.proofs.ordinals.dotted.Goals as goal

pub returns-clause-begins : goal.returns-clause-begins
returns-clause-begins c = both-words _ _ _ _ _ _ c.in_ok-name.ensures.begins c.in_ok-here.ensures c.in_ok-value.ensures.begins

pub returns-clause-free : goal.returns-clause-free
returns-clause-free c = (c.in_ok-name.ensures.free, c.in_ok-value.ensures.free)
