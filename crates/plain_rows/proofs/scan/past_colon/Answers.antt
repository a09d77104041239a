use Rattle.std.proofs.Common.{sym, ◌∙◌}
use Rattle.plain_rows.proofs.SymbolLemmas.{begins-colon}
use Rattle.plain_rows.proofs.scan.past_colon.Goals as goal

pub returns-then-lacks_equal_sign : goal.returns-then-lacks_equal_sign
returns-then-lacks_equal_sign c = begins-colon _ _ _ c.in_ok-first.ensures.cases.0 (c.is_same.ensures c.if-is_same.true) (sym c.lacks_equal_sign.ensures ∙ c.if-lacks_equal_sign.true)
