use Rattle.plain_rows.proofs.HeadLemmas.{begins-list}
use Rattle.plain_rows.proofs.heads.list_at.Goals as goal

pub returns-clause-begins : goal.returns-clause-begins
returns-clause-begins c = begins-list _ _ _ _ _ c.in_ok-opened.ensures c.in_ok-list.ensures c.in_ok-rest.ensures

pub returns-clause-named : goal.returns-clause-named
returns-clause-named c = c.in_ok-list.ensures.named
