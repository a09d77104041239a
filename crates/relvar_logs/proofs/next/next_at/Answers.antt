use Rattle.std.proofs.Common.{map, sym, arith}
use Rattle.tree_core.specs.Relvars.{read_entry, read_relvars}
use Rattle.meaning_core.specs.Logs.{IsInStep}
use Rattle.meaning_core.specs.WellMade.{sizes_of}
use Rattle.relvar_logs.specs.Changes.{changed}
use Rattle.relvar_logs.specs.Turning.{IsOfBase}
use Rattle.relvar_logs.proofs.EntryLemmas.{entries_length, so_there}
use Rattle.relvar_logs.proofs.NextLemmas.{of_base_there, all_so, next_put, full_put}
use Rattle.relvar_logs.proofs.next.next_at.Goals as goal

pub next_of-requires-clause-base : goal.next_of-requires-clause-base
next_of-requires-clause-base c =
    let raw = c.args.relvars.now.list.entries in
    let es = map read_entry raw in
    let read = entries_length raw in
    let at = c.requires.at in
    so_there raw c.args.at (IsOfBase es) c.in-Some.field-0-0.now c.in-Some.relvar.now
    (of_base_there (sizes_of (read_relvars c.args.relvars.now).ordinals) es c.args.at c.requires.made.relvars (omega (arith, read, at))) (sym c.in-Some.ensures.entry)

pub next_of-requires-clause-step : goal.next_of-requires-clause-step
next_of-requires-clause-step c =
    let raw = c.args.relvars.now.list.entries in
    let es = map read_entry raw in
    let read = entries_length raw in
    let at = c.requires.at in
    let step = IsInStep (read_relvars c.args.relvars.now).accepted es in
    so_there raw c.args.at step c.in-Some.field-0-0.now c.in-Some.relvar.now (all_so step es c.args.at c.requires.step (omega (arith, read, at))) (sym c.in-Some.ensures.entry)

pub returns-clause-next : goal.returns-clause-next
returns-clause-next c =
    let raw = c.args.relvars.now.list.entries in
    next_put (read_relvars c.args.relvars.now).accepted (changed c.args.changes.now (map read_entry raw)) raw c.args.at c.in-Some.field-0-0.now c.in-Some.relvar.now c.next_of.result
    (sym c.in-Some.ensures.entry) c.next_of.ensures.next

pub returns-clause-refused : goal.returns-clause-refused
returns-clause-refused c =
    let raw = c.args.relvars.now.list.entries in
    full_put (changed c.args.changes.now (map read_entry raw)) raw c.args.at c.in-Some.field-0-0.now c.in-Some.relvar.now c.next_of.result (sym c.in-Some.ensures.entry) c.next_of.ensures.refused
