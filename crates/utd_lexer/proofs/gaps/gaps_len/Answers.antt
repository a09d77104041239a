use Rattle.std.proofs.Common.{sym, ◌∙◌, refl}
use Rattle.utd_lexer.proofs.GapLengthLemmas.{gap-more, gap-ends}
use Rattle.utd_lexer.proofs.gaps.gaps_len.Goals as goal

pub returns-then-not-blank_next-clause-len : goal.returns-then-not-blank_next-clause-len
returns-then-not-blank_next-clause-len c =
    gap-ends c.args.bytes.now c.loop-at.at c.loop-at.mode c.loop-at.gap _ c.loop-at.invariant c.loop-at-test.true refl (sym c.blank_next.ensures ∙ c.if-not-blank_next.true)

pub loop-at-preserved : goal.loop-at-preserved
loop-at-preserved c =
    gap-more c.args.bytes.now c.loop-at.at c.loop-at.mode c.next-mode.result c.loop-at.gap c.gap_end-gap.result _ c.loop-at.invariant c.loop-at-test.true refl
    (sym c.blank_next.ensures ∙ c.if-not-blank_next.false) c.next-mode.ensures c.gap_end-gap.ensures
