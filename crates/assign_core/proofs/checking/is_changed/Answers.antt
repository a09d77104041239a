use Rattle.std.proofs.Common.{map, sym, ap, ◌∙◌, is_some}
use Rattle.std.specs.Str.{bytes_eq}
use Rattle.value_core.specs.Values.{Name}
use Rattle.tree_core.specs.declared.relvar.Relvar.{Relvar}
use Rattle.tree_core.specs.Relvars.{read_entry, read_relvar}
use Rattle.meaning_core.proofs.LookupLemmas.{found_at, none_passes}
use Rattle.relvar_logs.proofs.EntryLemmas.{entries_length}
use Rattle.assign_core.proofs.TouchLemmas.{found_change, absent_change}
use Rattle.assign_core.proofs.checking.is_changed.Goals as goal

pub returns-in-Some : goal.returns-in-Some
returns-in-Some c =
    let es = c.args.new.relvars.now.list.entries in
    let r = read_relvar c.in-Some.field-0-2.now in
    let first = found_at es c.args.name.now c.in-Some.field-0-1.now c.in-Some.at c.in-Some.field-0-2.now (sym c.in-Some.ensures.index) c.in-Some.ensures.entry in
    let long = c.requires ∙ sym (entries_length es) in
    c.is_some.ensures ∙ sym (ap is_some (found_change (map read_entry es) c.args.new.changes.now c.args.name.now c.in-Some.at r c.index-new-at.result long first))

pub returns-in-None : goal.returns-in-None
returns-in-None c =
    let es = c.args.new.relvars.now.list.entries in
    sym (ap is_some (absent_change es c.args.new.changes.now c.args.name.now
    (none_passes (bytes_eq c.args.name.now) (map (λ (e : Name × Relvar). e.0) es) (sym c.in-None.ensures.index))))
