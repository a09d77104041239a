use Rattle.std.proofs.Common.{◌≡◌, sym, Some}
use Rattle.meaning_core.specs.Names.{with_value}
use Rattle.relvar_logs.specs.Changes.{IsChange}
use Rattle.assign_core.specs.Turnovers.{renewed_relvar, MayExchange}
use Rattle.relvar_logs.proofs.EntryLemmas.{not_there, so_put, so_there}
use Rattle.assign_core.proofs.ExchangeLemmas.{if_ok_both}
use Rattle.assign_core.proofs.settling.value_after.Goals as goal

pub new_value-requires : goal.new_value-requires
new_value-requires c =
    record { may = so_there c.args.relvars.now.list.entries c.args.at (MayExchange c.args.rows.now) c.in-Some.field-0-0.now c.in-Some.relvar.now c.requires.may (sym c.in-Some.ensures.entry) }

pub unreachable-requires : goal.unreachable-requires
unreachable-requires c = not_there c.args.relvars.now.list.entries c.args.at (MayExchange c.args.rows.now) c.requires.may (sym c.in-None.ensures.entry)

pub returns : goal.returns
returns c =
    if_ok_both c.new_value.result
    (λ v a b. so_put c.args.relvars.now.list.entries c.args.at (λ r. IsChange (Some v) r × (with_value v r ≡ renewed_relvar c.args.rows.now r)) c.in-Some.field-0-0.now c.in-Some.relvar.now
    (sym c.in-Some.ensures.entry) (a, b))
    c.new_value.ensures.change c.new_value.ensures.ready
