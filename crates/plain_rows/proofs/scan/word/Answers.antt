use Rattle.std.proofs.Common.{sym, ◌∙◌, arith}
use Rattle.plain_rows.proofs.WordLemmas.{begins-word}
use Rattle.plain_rows.proofs.scan.word.Goals as goal

pub returns-then-ends_word : goal.returns-then-ends_word
returns-then-ends_word c = begins-word _ _ _ _ _ _ c.in_ok-first.ensures.cases.0 (sym c.is_start.ensures ∙ c.if-is_start.true) (omega arith) c.continuing-n.ensures.value c.split_at.ensures.front c.split_at.ensures.back (sym c.ends_word.ensures ∙ c.if-ends_word.true)
