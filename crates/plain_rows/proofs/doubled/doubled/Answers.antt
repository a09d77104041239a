use Rattle.std.proofs.Common.{sym, ◌∙◌}
use Rattle.plain_rows.proofs.DoubledLemmas.{begins-doubled}
use Rattle.plain_rows.proofs.doubled.doubled.Goals as goal

pub returns-then-ends_text : goal.returns-then-ends_text
returns-then-ends_text c = begins-doubled _ _ _ _ c.in_ok-body.ensures c.in_ok-written.ensures (sym c.ends_text.ensures ∙ c.if-ends_text.true)
