use Rattle.std.proofs.Common.{sym, ◌∙◌}
use Rattle.plain_rows.proofs.QuotedLemmas.{begins-text}
use Rattle.plain_rows.proofs.quoted.quoted.Goals as goal

pub returns-then-ends_text : goal.returns-then-ends_text
returns-then-ends_text c = begins-text _ _ _ _ _ _ _ _ _ c.in_ok-first.ensures.cases.0 (c.is_same.ensures c.if-is_same.true) c.before_quote-n.ensures.value c.split_at.ensures.front c.split_at.ensures.back c.in_ok-second.ensures.cases.0 (c.is_same-then-is_same.ensures c.if-is_same-2.true) c.in_ok-written.ensures.same c.in_ok-written.ensures.utf8 (sym c.ends_text.ensures ∙ c.if-ends_text.true)
