use Rattle.std.proofs.Common.{ℕ, map, arith, sym}
use Rattle.cell_boxes.specs.Rows.{IsRow}
use Rattle.u_join.specs.RowPairs.{seen}
use Rattle.u_join.proofs.RestLemmas.{past_more, rests_more}
use Rattle.u_join.proofs.rests.rests_of.Goals as goal

pub loop-i-preserved : goal.loop-i-preserved
loop-i-preserved c =
    let left = c.args.left.now in
    let right = c.args.right.now in
    let i : ℕ = c.loop-i.i in
    let x = c.index-left-i.result in
    let r = c.range_meeting-first in
    let at : IsRow left i x = (omega arith, sym c.index-left-i.is) in
    record {
      known = r.ensures.within;
      past = λ y h. past_more seen left right c.requires.left i r.result.0 x y at h r.ensures.past;
      rests = rests_more seen left right i x at (map seen c.loop-i.parts.items) (map seen c.push_rest.new.parts.items) c.loop-i.invariant.rests c.in_ok-push_rest.ensures;
    }
