use Rattle.std.proofs.Common.{map}
use Rattle.tree_core.specs.Relvars.{read_entry}
use Rattle.assign_core.specs.Exchanges.{place_of}
use Rattle.assign_core.proofs.ExchangeLemmas.{turned_none}
use Rattle.assign_core.proofs.exchange.hold_for.Goals as goal

pub returns-in-Value-clause-back : goal.returns-in-Value-clause-back
returns-in-Value-clause-back c = turned_none (map read_entry c.args.relvars.now.list.entries) (place_of c.args.change.now)
