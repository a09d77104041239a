use Rattle.std.proofs.Common.{sym, ◌∙◌}
use Rattle.plain_rows.proofs.WordLemmas.{begins-known}
use Rattle.plain_rows.proofs.scan.past_word.Goals as goal

pub returns-then-ends_word : goal.returns-then-ends_word
returns-then-ends_word c = begins-known _ _ _ c.in_ok-rest.ensures c.requires (sym c.ends_word.ensures ∙ c.if-ends_word.true)
