use Rattle.std.proofs.Common.{[], map, sym, ap, ◌∙◌}
use Rattle.std.specs.Str.{bytes_eq}
use Rattle.value_core.specs.Values.{Name}
use Rattle.tree_core.specs.declared.relvar.Relvar.{Relvar}
use Rattle.tree_core.specs.Relvars.{read_entry, read_relvar}
use Rattle.meaning_core.proofs.EntryLemmas.{named_first}
use Rattle.meaning_core.proofs.LookupLemmas.{found_at, none_passes}
use Rattle.assign_core.specs.Breaches.{value_if}
use Rattle.assign_core.proofs.ChangeLemmas.{absent_changed}
use Rattle.assign_core.proofs.turnover.value_named.Goals as goal

pub returns-in-Some : goal.returns-in-Some
returns-in-Some c =
    let es = c.args.relvars.now.list.entries in
    let r = read_relvar c.in-Some.relvar.now in
    let first = found_at es c.args.name.now c.in-Some.field-0-1.now c.in-Some.field-0-0 c.in-Some.relvar.now (sym c.in-Some.ensures.index) c.in-Some.ensures.entry in
    c.value_of.ensures ∙ sym (ap value_if (named_first (map read_entry es) c.args.name.now c.in-Some.field-0-0 r first))

pub returns-in-None : goal.returns-in-None
returns-in-None c =
    let es = c.args.relvars.now.list.entries in
    sym (ap value_if (absent_changed es [] c.args.name.now
    (none_passes (bytes_eq c.args.name.now) (map (λ (e : Name × Relvar). e.0) es) (sym c.in-None.ensures.index))))
