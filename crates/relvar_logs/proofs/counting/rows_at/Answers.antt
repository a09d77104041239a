use Rattle.std.proofs.Common.{◌<◌, ◌≤◌, None, get_or, length, sym, subst, arith, Option}
use Rattle.log_times.specs.Kept.{PlainLog}
use Rattle.tree_core.specs.Relvars.{read_relvar}
use Rattle.relvar_logs.specs.Room.{IsCountedAs}
use Rattle.relvar_logs.specs.Turning.{IsNext}
use Rattle.relvar_logs.proofs.CountLemmas.{ready_here, none_here}
use Rattle.relvar_logs.proofs.EntryLemmas.{so_put, so_there}
use Rattle.relvar_logs.proofs.counting.rows_at.Goals as goal

pub rows_of-requires : goal.rows_of-requires
rows_of-requires g c =
    let at = c.args.at in
    let within : at < length c.args.next.now = omega arith in
    let here = so_there c.args.relvars.now.list.entries at (IsNext g.behind.0 g.behind.1 (get_or c.args.next.now at None)) c.in-Some.field-0-0.now c.in-Some.relvar.now c.requires.1.1 (sym c.in-Some.ensures.entry) in
    (c.requires.0, subst (λ (o : Option PlainLog). IsNext g.behind.0 g.behind.1 o (read_relvar c.in-Some.relvar.now)) (ready_here c.args.next.now at c.index-next-at.result within c.index-next-at.is) here)

pub returns-then-at-next : goal.returns-then-at-next
returns-then-at-next g c =
    so_put c.args.relvars.now.list.entries c.args.at (IsCountedAs g.behind.1 c.rows_of.result) c.in-Some.field-0-0.now c.in-Some.relvar.now (sym c.in-Some.ensures.entry) c.rows_of.ensures

pub rows_of-requires-in-Some : goal.rows_of-requires-in-Some
rows_of-requires-in-Some g c =
    let at = c.args.at in
    let past : length c.args.next.now ≤ at = omega arith in
    let here = so_there c.args.relvars.now.list.entries at (IsNext g.behind.0 g.behind.1 (get_or c.args.next.now at None)) c.in-Some.field-0-0.now c.in-Some.relvar.now c.requires.1.1 (sym c.in-Some.ensures.entry) in
    (c.requires.0, subst (λ (o : Option PlainLog). IsNext g.behind.0 g.behind.1 o (read_relvar c.in-Some.relvar.now)) (none_here c.args.next.now at past) here)

pub returns : goal.returns
returns g c =
    so_put c.args.relvars.now.list.entries c.args.at (IsCountedAs g.behind.1 c.rows_of-in-Some.result) c.in-Some.field-0-0.now c.in-Some.relvar.now (sym c.in-Some.ensures.entry) c.rows_of-in-Some.ensures
