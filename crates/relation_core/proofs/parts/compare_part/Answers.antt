use Rattle.std.proofs.Common.{◌≡◌, ◌<◌, ◌≤◌, length, sym, ◌∙◌, arith}
use Rattle.relation_core.proofs.PartOrderLemmas.{rest_short, rest_done}
use Rattle.relation_core.proofs.parts.compare_part.Goals as goal

pub returns-then-at-left : goal.returns-then-at-left
returns-then-at-left c =
    let over : length c.values-left.result.now ≤ c.loop-at.at = omega arith in
    let more : c.loop-at.at < length c.args.positions.now = omega arith in
    sym (rest_short c.values-left.result.now c.args.row.now c.args.positions.now c.loop-at.at over more) ∙ c.loop-at.invariant.rest

pub returns : goal.returns
returns c =
    let all : c.loop-at.at ≡ length c.args.positions.now = omega arith in
    c.cmp.ensures ∙ (sym (rest_done c.values-left.result.now c.args.row.now c.args.positions.now c.loop-at.at all c.loop-at.invariant.within) ∙ c.loop-at.invariant.rest)
