use Rattle.std.proofs.Common.{arith, length, map, sym, subst, ◌∙◌, Option}
use Rattle.std.specs.Prelude.{Vec}
use Rattle.std.specs.Global.{Global}
use Rattle.std.proofs.lemmas.Result.{err_from_is_err_and}
use Rattle.value_core.specs.Values.{Relation}
use Rattle.tree_core.specs.Items.{read_assignment}
use Rattle.tree_core.specs.Relvars.{read_entry}
use Rattle.relvar_logs.specs.Changes.{Changes, AreChanges, changed}
use Rattle.assign_core.proofs.AssignedLemmas.{from_none}
use Rattle.assign_core.proofs.ChangeLemmas.{none_are}
use Rattle.assign_core.proofs.CostLemmas.{cost_from_none}
use Rattle.assign_core.proofs.LogLemmas.{fault_given}
use Rattle.assign_core.proofs.RenewedNames.{none_renewed}
use Rattle.assign_core.proofs.evaluating.new_values.Goals as goal

pub evaluate-requires-clause-changes : goal.evaluate-requires-clause-changes
evaluate-requires-clause-changes g c =
    let raw = c.args.relvars.now.list.entries in
    subst (λ (cs : Changes). AreChanges cs (map read_entry raw)) (sym c.in_ok-changes.ensures) (none_are raw)

pub evaluate-requires-clause-none : goal.evaluate-requires-clause-none
evaluate-requires-clause-none g c =
    let raw = c.args.relvars.now.list.entries in
    none_renewed c.in_ok-changes.changes.items (length raw) (map read_entry raw) c.in_ok-changes.ensures

pub returns-in_err-evaluate-clause-value : goal.returns-in_err-evaluate-clause-value
returns-in_err-evaluate-clause-value g c =
    let raw = c.args.relvars.now.list.entries in
    let es = map read_entry raw in
    let list = map read_assignment c.args.list.now in
    let none = c.in_ok-changes.changes.items in
    let p = err_from_is_err_and c.from_residual-in_err-evaluate.result c.from_residual-in_err-evaluate.ensures.1 in
    rw (p.1, p.2) (fault_given (λ (v : Vec (Option Relation) Global). changed v.items es) es (changed none es) (changed c.evaluate.new.changes.items es) list c.in_err-evaluate.field-0.0
    (from_none es none (length raw) list c.in_ok-changes.ensures) c.in_err-evaluate.ensures.value)

pub returns-in_err-evaluate-clause-cost : goal.returns-in_err-evaluate-clause-cost
returns-in_err-evaluate-clause-cost g c =
    let raw = c.args.relvars.now.list.entries in
    let same = cost_from_none (map read_entry raw) c.in_ok-changes.changes.items (length raw) (map read_assignment c.args.list.now) c.in_ok-changes.ensures in
    let sources = c.evaluate.ensures.cost in
    omega (arith, same, sources)

pub returns-clause-value : goal.returns-clause-value
returns-clause-value g c =
    let raw = c.args.relvars.now.list.entries in
    let es = map read_entry raw in
    let list = map read_assignment c.args.list.now in
    sym (from_none es c.in_ok-changes.changes.items (length raw) list c.in_ok-changes.ensures) ∙ c.in_ok-evaluate.ensures.value

pub returns-clause-cost : goal.returns-clause-cost
returns-clause-cost g c =
    let raw = c.args.relvars.now.list.entries in
    let same = cost_from_none (map read_entry raw) c.in_ok-changes.changes.items (length raw) (map read_assignment c.args.list.now) c.in_ok-changes.ensures in
    let sources = c.evaluate.ensures.cost in
    omega (arith, same, sources)
