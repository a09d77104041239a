use Rattle.plain_rows.proofs.DoubledLemmas.{part-of-text}
use Rattle.plain_rows.proofs.doubled.part.Goals as goal

pub returns-then-is_same : goal.returns-then-is_same
returns-then-is_same c = part-of-text _ _ _ _ _ _ _ c.before_quote-n.ensures.value c.split_at.ensures.front c.split_at.ensures.back c.in_ok-quote.ensures.cases.0 (c.is_same.ensures c.if-is_same.true) c.in_ok-written.ensures.same c.in_ok-written.ensures.utf8
