use Rattle.std.proofs.Common.{◌≡◌, ◌<◌, length, arith, subst, sym}
use Rattle.std.proofs.lemmas.List.Elements.{All-get_or}
use Rattle.cell_core.specs.Numbering.{AreEnds}
use Rattle.cell_core.proofs.Numbers.{ends_none}
use Rattle.cell_core.proofs.number.ends_list.Goals as goal

pub loop-r-init : goal.loop-r-init
loop-r-init g c = record {
  ends = ends_none g.T.PointType.number_of (g.T.PointType.IsPoint c.args.t.now) (g.T.PointType.last_number c.args.t.now) c.args.spans.now c.in_ok-list.list.items c.in_ok-list.ensures.items;
  cost = omega arith;
}

pub put_ends-requires-clause-begin : goal.put_ends-requires-clause-begin
put_ends-requires-clause-begin g c =
    let has = g.T.PointType.IsPoint c.args.t.now in
    let l : c.loop-r.r < length c.args.spans.now = omega arith in
    subst (λ y. has y.0) (sym c.index-spans-r.is) (All-get_or (λ y. has y.0) c.args.spans.now c.loop-r.r c.index-spans-r.result l c.requires.begins)

pub put_ends-requires-clause-end : goal.put_ends-requires-clause-end
put_ends-requires-clause-end g c =
    let has = g.T.PointType.IsPoint c.args.t.now in
    let l : c.loop-r.r < length c.args.spans.now = omega arith in
    subst (λ y. has y.1) (sym c.index-spans-r.is) (All-get_or (λ y. has y.1) c.args.spans.now c.loop-r.r c.index-spans-r.result l c.requires.ends)

pub loop-r-preserved : goal.loop-r-preserved
loop-r-preserved g c =
    let l : c.loop-r.r < length c.args.spans.now = omega arith in
    record {
      ends = c.in_ok-put_ends.ensures.ends c.args.spans.now l c.index-spans-r.is c.loop-r.invariant.ends;
      cost = omega arith;
    }

pub returns-clause-ends : goal.returns-clause-ends
returns-clause-ends g c =
    let e : c.loop-r.r ≡ length c.args.spans.now = omega arith in
    subst (λ m. AreEnds g.T.PointType.number_of (g.T.PointType.IsPoint c.args.t.now) (g.T.PointType.last_number c.args.t.now) c.args.spans.now m c.loop-r.list.items) e c.loop-r.invariant.ends
