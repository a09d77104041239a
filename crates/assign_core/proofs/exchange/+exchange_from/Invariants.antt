use Rattle.std.proofs.Common.{◌-◌, length}
use Rattle.assign_core.proofs.exchange.+exchange_from.Given as goal

abbrev pub decreases-exchange_from : goal.decreases-exchange_from
decreases-exchange_from l = length l.changes.now.items - l.from
