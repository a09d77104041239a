use Rattle.plain_rows.proofs.HeadLemmas.{begins-names}
use Rattle.plain_rows.proofs.heads.names.Goals as goal

pub returns : goal.returns
returns c = begins-names _ _ _ _ _ c.in_ok-first.ensures.begins c.in_ok-first.ensures.named c.in_ok-list.ensures
