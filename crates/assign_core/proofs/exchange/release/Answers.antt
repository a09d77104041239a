use Rattle.std.proofs.Common.{map}
use Rattle.tree_core.specs.Relvars.{read_entry}
use Rattle.assign_core.proofs.ExchangeLemmas.{none_held, value_held}
use Rattle.assign_core.proofs.exchange.release.Goals as goal

pub unreachable-requires : goal.unreachable-requires
unreachable-requires c =
    none_held (map read_entry c.args.relvars.now.list.entries) c.in-Rows.at c.in-Rows.rows c.args.change.now c.args.held c.in-Rows.is c.in-None.is c.requires.held

pub returns-in-Value-clause-list : goal.returns-in-Value-clause-list
returns-in-Value-clause-list c = value_held (map read_entry c.args.relvars.now.list.entries) c.in-Value.field-0 c.in-Value.field-1 c.args.change.now c.args.held c.in-Value.is c.requires.held
