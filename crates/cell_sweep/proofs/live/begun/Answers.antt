use Rattle.std.proofs.Common.{arith}
use Rattle.cell_sweep.proofs.Sweeping.{begun_step, passed_step}
use Rattle.cell_sweep.proofs.live.begun.Goals as goal

pub loop-next-preserved : goal.loop-next-preserved
loop-next-preserved c = record {
  from = omega arith;
  within = omega arith;
  passed = passed_step c.args.starts.now c.args.first c.loop-next.next c.args.cell (omega arith) c.loop-next.invariant.passed;
  rows = begun_step c.args.starts.now c.args.first c.loop-next.next c.loop-next.invariant.from c.args.live.items c.loop-next.rows.items c.push.new.self.items c.in_ok-push.ensures.items c.loop-next.invariant.rows;
}
