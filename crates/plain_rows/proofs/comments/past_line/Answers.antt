use Rattle.plain_rows.proofs.CommentLemmas.{line-none, line-more, line-done}
use Rattle.plain_rows.proofs.comments.past_line.Goals as goal

pub line-init : goal.line-init
line-init c = line-none c.args.text.now

pub line-preserved : goal.line-preserved
line-preserved c = line-more _ _ _ _ c.line.invariant c.in-Some.ensures.cases.0 (c.is_line_byte.ensures.small c.if-not-is_line_byte.false) (c.is_line_byte.ensures.other c.if-not-is_line_byte.false)

pub returns-then-is_same : goal.returns-then-is_same
returns-then-is_same c = line-done _ _ _ _ c.line.invariant c.in-Some.ensures.cases.0 (c.is_same.ensures c.if-is_same.true)
