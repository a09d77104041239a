use Rattle.std.proofs.Common.{◌<◌, length, map, subst, arith}
use Rattle.tree_core.specs.Relvars.{read_entry}
use Rattle.assign_core.specs.declared.exchange.Change.{Change}
use Rattle.assign_core.specs.Exchanges.{place_of, IsHeldFor}
use Rattle.relvar_logs.proofs.EntryLemmas.{entries_length, so_within}
use Rattle.assign_core.proofs.ExchangeLemmas.{none_held}
use Rattle.assign_core.proofs.exchange.turn.Goals as goal

pub exchange_value_at-requires-clause-at : goal.exchange_value_at-requires-clause-at
exchange_value_at-requires-clause-at c =
    let es = c.args.relvars.now.list.entries in
    let within = so_within (map read_entry es) (place_of c.args.change.now) (IsHeldFor c.args.change.now c.args.held) c.requires.held in
    let here = subst (λ (z : Change). place_of z < length (map read_entry es)) c.in-Value.is within in
    let long = entries_length es in
    omega (arith, here, long)

pub unreachable-requires : goal.unreachable-requires
unreachable-requires c =
    none_held (map read_entry c.args.relvars.now.list.entries) c.in-Rows.at c.in-Rows.rows c.args.change.now c.args.held c.in-Rows.is c.in-None.is c.requires.held
