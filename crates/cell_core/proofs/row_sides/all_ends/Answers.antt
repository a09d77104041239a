use Rattle.std.proofs.Common.{◌≡◌, ◌<◌, ◌+◌, ◌++◌, length, map, arith, subst}
use Rattle.cell_core.specs.Cells.{side_of}
use Rattle.cell_core.specs.Numbering.{AreEnds}
use Rattle.cell_core.proofs.Gather.{length_rows, read_all, read_own}
use Rattle.cell_core.proofs.Numbers.{ends_none}
use Rattle.cell_core.proofs.row_sides.all_ends.Goals as goal

pub loop-r-init : goal.loop-r-init
loop-r-init g c = record {
  ends = λ d. ends_none g.T.PointType.number_of (g.T.PointType.IsPoint c.args.t.now) (g.T.PointType.last_number c.args.t.now) (map (side_of c.args.side d) (map (λ r. r.1) c.args.left.now ++ map (λ r. r.1) c.args.right.now)) c.in_ok-list.list.items c.in_ok-list.ensures.items;
  cost = omega arith;
}

pub put_ends-requires-clause-begin : goal.put_ends-requires-clause-begin
put_ends-requires-clause-begin g c =
    let x = c.ends_of-ends.result in
    read_all (λ y. g.T.PointType.IsPoint c.args.t.now y.0) c.args.side x c.args.left.now c.args.right.now c.loop-r.r (omega arith) (c.ends_of-ends.ensures x) (λ i s h. (c.requires.left_points i s h x).0) (λ i s h. (c.requires.right_points i s h x).0)

pub put_ends-requires-clause-end : goal.put_ends-requires-clause-end
put_ends-requires-clause-end g c =
    let x = c.ends_of-ends.result in
    read_all (λ y. g.T.PointType.IsPoint c.args.t.now y.1) c.args.side x c.args.left.now c.args.right.now c.loop-r.r (omega arith) (c.ends_of-ends.ensures x) (λ i s h. (c.requires.left_points i s h x).1) (λ i s h. (c.requires.right_points i s h x).1)

pub loop-r-preserved : goal.loop-r-preserved
loop-r-preserved g c = record {
  ends = λ d.
      let spans = map (side_of c.args.side d) (map (λ r. r.1) c.args.left.now ++ map (λ r. r.1) c.args.right.now) in
      let k = length_rows c.args.side d c.args.left.now c.args.right.now in
      let l : c.loop-r.r < length spans = omega arith in
      c.in_ok-put_ends.ensures.ends spans l (read_own spans c.loop-r.r c.ends_of-ends.result d l (c.ends_of-ends.ensures d)) (c.loop-r.invariant.ends d);
  cost = omega arith;
}

pub returns-clause-ends : goal.returns-clause-ends
returns-clause-ends g c = λ d.
    let e : c.loop-r.r ≡ length c.args.left.now + length c.args.right.now = omega arith in
    subst (λ m. AreEnds g.T.PointType.number_of (g.T.PointType.IsPoint c.args.t.now) (g.T.PointType.last_number c.args.t.now) (map (side_of c.args.side d) (map (λ r. r.1) c.args.left.now ++ map (λ r. r.1) c.args.right.now)) m c.loop-r.list.items) e (c.loop-r.invariant.ends d)
