use Rattle.std.proofs.Common.{◌-◌}
use Rattle.plain_rows.specs.Tuples.{HasRows}
use Rattle.plain_rows.proofs.rows.more_rows.Given as goal

abbrev pub invariant-rows : goal.invariant-rows
invariant-rows l = HasRows l.fn.types l.fn.columns l.fn.text l.fn.first l.rows.items l.rest

abbrev pub decreases-rows : goal.decreases-rows
decreases-rows l = l.most - l.turn
