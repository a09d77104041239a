use Rattle.std.proofs.Common.{arith}
use Rattle.cell_boxes.proofs.GroupLemmas.{numbers_more, order_more}
use Rattle.cell_boxes.proofs.grouping.numbers.Goals as goal

pub loop-r-preserved : goal.loop-r-preserved
loop-r-preserved c = record {
  order = order_more c.args.first c.loop-r.r c.loop-r.out.items c.push.new.self.items (omega arith) c.in_ok-push.ensures.items c.loop-r.invariant.order;
  members = numbers_more c.args.first c.loop-r.r c.loop-r.out.items c.push.new.self.items (omega arith) c.in_ok-push.ensures.items c.loop-r.invariant.members;
}

pub returns-clause-members : goal.returns-clause-members
returns-clause-members c = λ q.
    let v = c.loop-r.invariant.members q in (
      λ h. let w = v.0 h in let l = w.0 in let m = w.1 in (l, omega arith),
      λ h. let l = h.0 in let m = h.1 in v.1 (l, omega arith),
    )
