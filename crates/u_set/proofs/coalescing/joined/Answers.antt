use Rattle.u_set.proofs.CoalescingLemmas.{one_more}
use Rattle.u_set.proofs.coalescing.joined.Goals as goal

pub loop-row-preserved : goal.loop-row-preserved
loop-row-preserved c =
    record {
      can = tt;
      ends = tt;
      rows = one_more c.args.heading.now c.args.at c.requires.interval c.loop-row.yielded c.loop-row.list.items c.add.new.list.items c.in-Some.row c.loop-row.invariant.rows c.in_ok-add.ensures;
    }
