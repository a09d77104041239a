use Rattle.std.proofs.Common.{map, sym, ◌∙◌}
use Rattle.std.specs.Str.{bytes_eq}
use Rattle.value_core.specs.Values.{Name}
use Rattle.tree_core.specs.declared.relvar.Relvar.{Relvar}
use Rattle.tree_core.specs.Relvars.{read_entry, read_relvar}
use Rattle.meaning_core.proofs.LookupLemmas.{found_at, none_passes}
use Rattle.relvar_logs.proofs.EntryLemmas.{entries_length}
use Rattle.relvar_logs.proofs.NextLemmas.{change_first, change_none}
use Rattle.relvar_logs.proofs.next.change_of.Goals as goal

pub returns-in-Some : goal.returns-in-Some
returns-in-Some c =
    let es = c.args.relvars.now.list.entries in
    let r = read_relvar c.in-Some.field-0-2.now in
    let first = found_at es c.args.name.now c.in-Some.field-0-1.now c.in-Some.at c.in-Some.field-0-2.now (sym c.in-Some.ensures.index) c.in-Some.ensures.entry in
    let found = change_first (map read_entry es) c.args.changes.now c.args.name.now c.in-Some.at r c.index-changes-at.result (c.requires ∙ sym (entries_length es)) first in
    c.as_ref.ensures.value ∙ (c.index-changes-at.is ∙ sym found)

pub returns-in-None : goal.returns-in-None
returns-in-None c =
    let es = c.args.relvars.now.list.entries in
    sym (change_none es c.args.changes.now c.args.name.now (none_passes (bytes_eq c.args.name.now) (map (λ (e : Name × Relvar). e.0) es) (sym c.in-None.ensures.index)))
