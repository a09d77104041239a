use Rattle.std.proofs.Common.{◌∙◌, map, sym, ap, subst, Option, Some}
use Rattle.std.specs.Str.{bytes_eq}
use Rattle.value_core.specs.Values.{Name, Relation}
use Rattle.tree_core.specs.declared.relvar.Relvar.{Relvar}
use Rattle.tree_core.specs.declared.tree.RelForm.{RelForm}
use Rattle.tree_core.specs.Relvars.{read_entry, read_relvar}
use Rattle.tree_core.specs.Trees.{read_form}
use Rattle.meaning_core.specs.WellMade.{IsBase}
use Rattle.meaning_core.proofs.LookupLemmas.{found_at, none_passes}
use Rattle.relvar_logs.specs.Changes.{changed, changed_relvar, IsChange}
use Rattle.stored_views.specs.Operands.{value_if, IsOperand, IsValue}
use Rattle.stored_views.proofs.NewestLemmas.{base_there, change_there, headed_there, none_named}
use Rattle.stored_views.proofs.operands.newest_named.Goals as goal

pub newest-requires-clause-base : goal.newest-requires-clause-base
newest-requires-clause-base c =
    let raw = c.args.relvars.now.list.entries in
    let es = map read_entry raw in
    let operand = subst (λ (f : RelForm). IsOperand es (read_form c.args.operand.now.place c.args.operand.now.heading f)) c.in-Named.is c.requires.operand in
    let first = found_at raw c.in-Named.name c.in-Some.field-0-1.now c.in-Some.at c.in-Some.relvar.now (sym c.in-Some.ensures.index) c.in-Some.ensures.entry in
    base_there es c.in-Named.name c.in-Some.at (read_relvar c.in-Some.relvar.now) first operand.0

pub newest-requires-clause-change : goal.newest-requires-clause-change
newest-requires-clause-change c =
    let raw = c.args.relvars.now.list.entries in
    let es = map read_entry raw in
    let r = read_relvar c.in-Some.relvar.now in
    let first = found_at raw c.in-Named.name c.in-Some.field-0-1.now c.in-Some.at c.in-Some.relvar.now (sym c.in-Some.ensures.index) c.in-Some.ensures.entry in
    subst (λ (o : Option Relation). IsChange o r) (sym c.there.ensures) (change_there es c.args.changes.now c.in-Named.name c.in-Some.at r c.requires.changes first).0

pub unreachable-requires-in-None : goal.unreachable-requires-in-None
unreachable-requires-in-None c =
    let raw = c.args.relvars.now.list.entries in
    let es = map read_entry raw in
    let operand = subst (λ (f : RelForm). IsOperand es (read_form c.args.operand.now.place c.args.operand.now.heading f)) c.in-Named.is c.requires.operand in
    let none = none_named raw c.in-Named.name (none_passes (bytes_eq c.in-Named.name) (map (λ (e : Name × Relvar). e.0) raw) (sym c.in-None.ensures.index)) in
    subst IsBase none operand.0

pub returns-clause-value : goal.returns-clause-value
returns-clause-value c =
    let raw = c.args.relvars.now.list.entries in
    let es = map read_entry raw in
    let all = changed c.args.changes.now es in
    let r = read_relvar c.in-Some.relvar.now in
    let x = c.newest.result.now in
    let operand = subst (λ (f : RelForm). IsOperand es (read_form c.args.operand.now.place c.args.operand.now.heading f)) c.in-Named.is c.requires.operand in
    let first = found_at raw c.in-Named.name c.in-Some.field-0-1.now c.in-Some.at c.in-Some.relvar.now (sym c.in-Some.ensures.index) c.in-Some.ensures.entry in
    let there = (change_there es c.args.changes.now c.in-Named.name c.in-Some.at r c.requires.changes first).1 in
    let value = ap value_if there ∙ (ap (λ (o : Option Relation). value_if (Some (changed_relvar o r))) (sym c.there.ensures) ∙ c.newest.ensures.value) in
    let headed = c.newest.ensures.heading ∙ headed_there es c.in-Named.name c.in-Some.at r c.args.operand.now.heading first operand.1 in
    subst (λ (f : RelForm). IsValue all (read_form c.args.operand.now.place c.args.operand.now.heading f) x) (sym c.in-Named.is) (value, headed)
