use Rattle.std.proofs.Common.{sym}
use Rattle.plain_rows.proofs.OrdinalLemmas.{value-named}
use Rattle.plain_rows.proofs.ordinals.value_named.Goals as goal

pub returns-clause-named : goal.returns-clause-named
returns-clause-named c = value-named _ _ _ _ _ _ _ (sym c.in_ok-of.ensures) (sym c.in_ok-at.ensures.found) c.in_ok-t.ensures.of_type c.in_ok-t.ensures.numbered
