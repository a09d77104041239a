use Rattle.plain_rows.proofs.OrdinalLemmas.{begins-dotted}
use Rattle.plain_rows.proofs.ordinals.ordinal.Goals as goal

pub returns-clause-begins : goal.returns-clause-begins
returns-clause-begins c = begins-dotted _ _ _ _ _ _ c.in_ok-name.ensures.begins c.in_ok-name.ensures.free c.in_ok-t.ensures.named
