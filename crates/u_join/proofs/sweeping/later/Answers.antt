use Rattle.std.proofs.Common.{ℕ, arith, sym}
use Rattle.cell_boxes.specs.Rows.{IsRow}
use Rattle.u_join.specs.RowPairs.{seen}
use Rattle.u_join.proofs.SweepingLemmas.{later_turn, behind_more}
use Rattle.u_join.proofs.sweeping.later.Goals as goal

pub range_within-first-requires-clause-interval : goal.range_within-first-requires-clause-interval
range_within-first-requires-clause-interval c = c.requires.intervals c.loop-i.i c.index-from-i.result (omega arith, sym c.index-from-i.is)

pub range_within-first-requires-clause-known : goal.range_within-first-requires-clause-known
range_within-first-requires-clause-known c = c.loop-i.invariant.behind c.index-from-i.result (omega arith, sym c.index-from-i.is)

pub loop-i-preserved : goal.loop-i-preserved
loop-i-preserved c =
    let from = c.args.from.now in
    let rows = c.args.rows.now in
    let i : ℕ = c.loop-i.i in
    let r = c.range_within-first in
    let x = c.index-from-i.result in
    let at : IsRow from i x = (omega arith, sym c.index-from-i.is) in
    record {
      known = r.ensures.first;
      behind = λ y h. behind_more seen c.args.strict from rows c.requires.from i r.result.0 x y at h r.ensures.behind;
      pairs = later_turn seen c.args.strict from rows i x at r.result.0 r.result.1 r.ensures.end r.ensures.rows c.loop-i.out.items c.push_range.new.out.items c.in_ok-push_range.ensures c.loop-i.invariant.pairs;
    }

pub returns : goal.returns
returns c = λ p.
    let v = c.loop-i.invariant.pairs p in (
      λ h. (v.0 h).1,
      λ h. let l = h.2.0 in v.1 (omega arith, h),
    )
