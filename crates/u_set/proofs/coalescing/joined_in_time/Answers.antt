use Rattle.u_set.proofs.CoalescingLemmas.{joined_itself}
use Rattle.u_set.proofs.coalescing.joined_in_time.Goals as goal

pub returns-then-not-come_in_time : goal.returns-then-not-come_in_time
returns-then-not-come_in_time c = joined_itself c.args.heading.now c.args.at c.requires.interval c.args.rows.items c.requires.fit
