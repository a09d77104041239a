use Rattle.std.proofs.Common.{◌≡◌, ◌≤◌, ◌+◌, ap, sym, subst, ◌∙◌, Ok}
use Rattle.std.specs.Prelude.{IfErr}
use Rattle.std.proofs.lemmas.Result.{err_from_is_err_and}
use Rattle.point_core.specs.Faults.{OrFault}
use Rattle.relation_core.specs.Answers.{under}
use Rattle.tree_core.specs.Relvars.{Entries}
use Rattle.meaning_core.specs.Meanings.{limited}
use Rattle.meaning_core.proofs.LookupLemmas.{under_ok}
use Rattle.u_constraints.specs.Growth.{exchanged}
use Rattle.relvar_logs.specs.Changes.{changed}
use Rattle.assign_core.specs.Assignments.{of_values, with_target, IsRefusedFor}
use Rattle.assign_core.specs.Costs.{constraints_cost_of}
use Rattle.assign_core.specs.Targets.{entries_after, entries_before, entries_with}
use Rattle.assign_core.proofs.PendingLemmas.{value_stopped, values_admitted, values_refused}
use Rattle.assign_core.proofs.admitting.admit_whole.Goals as goal

pub returns-in_err-value-clause-refused : goal.returns-in_err-value-clause-refused
returns-in_err-value-clause-refused g c =
    let t = c.args.target in
    let x = c.args.rows.now in
    let stop = c.in_err-value.field-0.0 in
    let p = err_from_is_err_and c.from_residual.result c.from_residual.ensures.1 in
    rw (p.1, p.2) (values_refused (entries_after t x) stop
    (value_stopped (under t.value.now.heading (limited t.place (exchanged t.value.now.rows x.gone.rows x.come.rows))) (λ v. Ok (with_target (entries_before t) t.name.now v)) stop c.in_err-value.ensures))

pub alone-requires-clause-headed : goal.alone-requires-clause-headed
alone-requires-clause-headed g c =
    let t = c.args.target in
    let x = c.args.rows.now in
    sym (under_ok t.value.now.heading (limited t.place (exchanged t.value.now.rows x.gone.rows x.come.rows)) c.in_ok-value.value c.in_ok-value.ensures).1

pub returns-clause-meant : goal.returns-clause-meant
returns-clause-meant g c =
    let t = c.args.target in
    let es = entries_before t in
    let new = changed c.in_ok-changes.changes.items es in
    let made : entries_after t c.args.rows.now ≡ Ok new = ap (entries_with t) c.in_ok-value.ensures ∙ ap Ok (sym c.in_ok-changes.ensures.made) in
    values_admitted c.admit_values.result es new (entries_after t c.args.rows.now) made c.admit_values.ensures.made c.admit_values.ensures.admitted

pub returns-clause-refused : goal.returns-clause-refused
returns-clause-refused g c =
    let t = c.args.target in
    let made : entries_after t c.args.rows.now ≡ Ok (changed c.in_ok-changes.changes.items (entries_before t)) = ap (entries_with t) c.in_ok-value.ensures ∙ ap Ok (sym c.in_ok-changes.ensures.made) in
    subst (λ (v : OrFault Entries). IfErr c.admit_values.result (λ refuse. IsRefusedFor refuse (of_values v))) (sym made) c.admit_values.ensures.refused

pub returns-clause-cost : goal.returns-clause-cost
returns-clause-cost g c =
    let t = c.args.target in
    let made : entries_after t c.args.rows.now ≡ Ok (changed c.in_ok-changes.changes.items (entries_before t)) = ap (entries_with t) c.in_ok-value.ensures ∙ ap Ok (sym c.in_ok-changes.ensures.made) in
    subst (λ (v : OrFault Entries). c.admit_values.new.steps ≤ c.args.steps.now + constraints_cost_of v) (sym made) c.admit_values.ensures.cost
