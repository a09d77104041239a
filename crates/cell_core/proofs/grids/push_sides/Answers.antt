use Rattle.std.proofs.Common.{length, arith, ap, ◌∙◌}
use Rattle.std.proofs.lemmas.List.{length_push}
use Rattle.cell_core.proofs.Gather.{gather_step, gather_all}
use Rattle.cell_core.proofs.grids.push_sides.Goals as goal

pub loop-s-preserved : goal.loop-s-preserved
loop-s-preserved g c = record {
  items = λ d. gather_step c.args.side d c.args.rows.now c.loop-s.s-index c.s-item.result c.ends_at-ends.result c.args.out.now.items c.loop-s.out.items c.push.new.self.items c.loop-s-test.true c.s-item.is (c.ends_at-ends.ensures d) (c.loop-s.invariant.items d) c.in_ok-push.ensures.items;
  length =
      let e = ap length c.in_ok-push.ensures.items ∙ length_push c.loop-s.out.items c.ends_at-ends.result in
      let i = c.loop-s.invariant.length in
      omega arith;
}

pub returns-clause-items : goal.returns-clause-items
returns-clause-items g c = λ d. gather_all c.args.side d c.args.rows.now c.loop-s.s-index c.args.out.now.items c.loop-s.out.items c.loop-s-test.false (c.loop-s.invariant.items d)
