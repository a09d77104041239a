use Rattle.std.proofs.Common.{Option, map, sym, ap, ◌∙◌}
use Rattle.std.specs.Str.{bytes_eq}
use Rattle.value_core.specs.Values.{Name, Relation}
use Rattle.tree_core.specs.declared.relvar.Relvar.{Relvar}
use Rattle.tree_core.specs.Relvars.{read_entry, read_relvar}
use Rattle.meaning_core.proofs.LookupLemmas.{found_at, none_passes}
use Rattle.assign_core.specs.Breaches.{value_if, value_of}
use Rattle.relvar_logs.specs.Changes.{changed_relvar}
use Rattle.assign_core.proofs.ChangeLemmas.{found_changed, absent_changed}
use Rattle.assign_core.proofs.changes.current.Goals as goal

pub returns-in-Some : goal.returns-in-Some
returns-in-Some c =
    let es = c.args.relvars.now.list.entries in
    let r = read_relvar c.in-Some.relvar.now in
    let first = found_at es c.args.name.now c.in-Some.field-0-1.now c.in-Some.at c.in-Some.relvar.now (sym c.in-Some.ensures.index) c.in-Some.ensures.entry in
    let is = ap (λ (d : Option Relation). value_of (changed_relvar d r)) c.index-changes-at.is in
    let found = found_changed (map read_entry es) c.args.changes.now c.args.name.now c.in-Some.at r c.index-changes-at.result c.requires.changes first in
    c.newest_of.ensures ∙ (is ∙ sym (ap value_if found))

pub returns-in-None : goal.returns-in-None
returns-in-None c =
    let es = c.args.relvars.now.list.entries in
    sym (ap value_if (absent_changed es c.args.changes.now c.args.name.now
    (none_passes (bytes_eq c.args.name.now) (map (λ (e : Name × Relvar). e.0) es) (sym c.in-None.ensures.index))))
