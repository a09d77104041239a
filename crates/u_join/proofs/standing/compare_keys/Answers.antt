use Rattle.std.proofs.Common.{arith}
use Rattle.u_join.proofs.StandingLemmas.{keys_longer, keys_shorter}
use Rattle.u_join.proofs.standing.compare_keys.Goals as goal

pub returns-then-i-there : goal.returns-then-i-there
returns-then-i-there c = keys_longer c.args.x.now.key.now c.args.y.now.key.now c.args.x.now.row.now c.args.y.now.row.now c.loop-i.i c.loop-i.invariant (omega arith) (omega arith)

pub returns-then-here-there : goal.returns-then-here-there
returns-then-here-there c = keys_shorter c.args.x.now.key.now c.args.y.now.key.now c.args.x.now.row.now c.args.y.now.row.now c.loop-i.i c.loop-i.invariant (omega arith) (omega arith)
