use Rattle.std.proofs.Common.{◌∙◌, map, sym, arith}
use Rattle.std.specs.Str.{bytes_eq}
use Rattle.value_core.specs.Values.{Name}
use Rattle.tree_core.specs.declared.relvar.Relvar.{Relvar}
use Rattle.tree_core.specs.Relvars.{read_entry, read_relvar}
use Rattle.meaning_core.proofs.LookupLemmas.{found_at, none_passes}
use Rattle.relvar_logs.proofs.EntryLemmas.{entries_length}
use Rattle.stored_views.proofs.DifferenceLemmas.{difference_first, difference_none}
use Rattle.stored_views.proofs.differences.difference_named.Goals as goal

pub returns-in-Some : goal.returns-in-Some
returns-in-Some c =
    let raw = c.args.relvars.now.list.entries in
    let read = entries_length raw in
    let long = c.requires in
    let first = found_at raw c.args.name.now c.in-Some.field-0-1.now c.in-Some.at c.in-Some.field-0-2.now (sym c.in-Some.ensures.index) c.in-Some.ensures.entry in
    c.moved_at.ensures ∙ sym (difference_first (map read_entry raw) c.args.differences.now c.args.name.now c.in-Some.at (read_relvar c.in-Some.field-0-2.now) (omega (arith, read, long)) first)

pub returns-in-None : goal.returns-in-None
returns-in-None c =
    let raw = c.args.relvars.now.list.entries in
    sym (difference_none raw c.args.differences.now c.args.name.now (none_passes (bytes_eq c.args.name.now) (map (λ (e : Name × Relvar). e.0) raw) (sym c.in-None.ensures.index)))
