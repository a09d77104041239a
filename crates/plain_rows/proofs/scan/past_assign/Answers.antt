use Rattle.plain_rows.proofs.SymbolLemmas.{begins-assign}
use Rattle.plain_rows.proofs.scan.past_assign.Goals as goal

pub returns-then-is_same-2 : goal.returns-then-is_same-2
returns-then-is_same-2 c = begins-assign _ _ _ _ _ c.in_ok-first.ensures.cases.0 (c.is_same.ensures c.if-is_same.true) c.in_ok-second.ensures.cases.0 (c.is_same-then-is_same.ensures c.if-is_same-2.true)
