use Rattle.plain_rows.proofs.CommentLemmas.{line-begins, block-begins}
use Rattle.plain_rows.proofs.comments.past_comment.Goals as goal

pub returns-then-is_same-clause-begins : goal.returns-then-is_same-clause-begins
returns-then-is_same-clause-begins c =
    line-begins _ _ _ _ _ _ c.in_ok-first.ensures.cases.0 (c.is_same.ensures c.if-not-is_same.false) c.in_ok-second.ensures.cases.0 (c.is_same-2.ensures c.if-is_same.true) c.in_ok-rest.ensures

pub returns-then-is_same-2-clause-begins : goal.returns-then-is_same-2-clause-begins
returns-then-is_same-2-clause-begins c =
    block-begins _ _ _ _ _ _ c.in_ok-first.ensures.cases.0 (c.is_same.ensures c.if-not-is_same.false) c.in_ok-second.ensures.cases.0 (c.is_same-3.ensures c.if-is_same-2.true) c.in_ok-rest-2.ensures
