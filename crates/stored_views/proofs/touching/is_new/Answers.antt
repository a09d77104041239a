use Rattle.std.proofs.Common.{◌∙◌, map, get_or, sym, ap, arith, None}
use Rattle.std.specs.Prelude.{is_some}
use Rattle.std.specs.Str.{bytes_eq}
use Rattle.value_core.specs.Values.{Name}
use Rattle.tree_core.specs.declared.relvar.Relvar.{Relvar}
use Rattle.tree_core.specs.Relvars.{read_entry, read_relvar}
use Rattle.meaning_core.proofs.LookupLemmas.{found_at, none_passes}
use Rattle.relvar_logs.proofs.EntryLemmas.{entries_length}
use Rattle.relvar_logs.proofs.NextLemmas.{change_first, change_none}
use Rattle.stored_views.proofs.TouchLemmas.{some_there}
use Rattle.stored_views.proofs.touching.is_new.Goals as goal

pub returns-in-Some : goal.returns-in-Some
returns-in-Some c =
    let raw = c.args.relvars.now.list.entries in
    let es = map read_entry raw in
    let read = entries_length raw in
    let long = c.requires in
    let first = found_at raw c.args.name.now c.in-Some.field-0-1.now c.in-Some.at c.in-Some.field-0-2.now (sym c.in-Some.ensures.index) c.in-Some.ensures.entry in
    c.is_some.ensures
    ∙ some_there (λ r. r.now) c.there.result (get_or c.args.changes.now c.in-Some.at None) c.there.ensures
    ∙ ap is_some (sym (change_first es c.args.changes.now c.args.name.now c.in-Some.at (read_relvar c.in-Some.field-0-2.now) None (omega (arith, read, long)) first))

pub returns-in-None : goal.returns-in-None
returns-in-None c =
    let raw = c.args.relvars.now.list.entries in
    sym (ap is_some (change_none raw c.args.changes.now c.args.name.now (none_passes (bytes_eq c.args.name.now) (map (λ (e : Name × Relvar). e.0) raw) (sym c.in-None.ensures.index))))
