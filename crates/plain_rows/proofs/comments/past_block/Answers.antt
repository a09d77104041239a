use Rattle.std.proofs.Common.{sym, ◌∙◌}
use Rattle.plain_rows.proofs.CommentLemmas.{block-none, block-more, block-done, end-long}
use Rattle.plain_rows.proofs.comments.past_block.Goals as goal

pub block-init : goal.block-init
block-init c = block-none c.args.text.now

pub split_at-requires : goal.split_at-requires
split_at-requires c = end-long _ (sym c.is_end.ensures ∙ c.if-is_end.true)

pub block-preserved : goal.block-preserved
block-preserved c = block-more _ _ _ _ c.block.invariant c.in-Some.ensures.cases.0 (c.is_ascii.ensures c.if-not-is_ascii.false) (sym c.is_end.ensures ∙ c.if-is_end.false)

pub returns-then-is_end : goal.returns-then-is_end
returns-then-is_end c = block-done _ _ _ c.block.invariant (sym c.is_end.ensures ∙ c.if-is_end.true) c.split_at.ensures.back
