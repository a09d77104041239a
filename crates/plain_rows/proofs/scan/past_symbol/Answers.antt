use Rattle.plain_rows.proofs.SymbolLemmas.{begins-symbol}
use Rattle.plain_rows.proofs.scan.past_symbol.Goals as goal

pub returns-then-is_same : goal.returns-then-is_same
returns-then-is_same c = begins-symbol _ _ _ _ c.in_ok-first.ensures.cases.0 (c.is_same.ensures c.if-is_same.true) c.requires
