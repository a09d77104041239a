use Rattle.std.proofs.Common.{◌≡◌, ap, sym, ◌∙◌, Ok}
use Rattle.std.proofs.lemmas.Result.{err_from_is_err_and}
use Rattle.meaning_core.specs.Meanings.{limited}
use Rattle.meaning_core.proofs.LookupLemmas.{under_ok}
use Rattle.assign_core.specs.Assignments.{with_target}
use Rattle.assign_core.specs.Insertions.{rows_of_both, value_meant}
use Rattle.assign_core.specs.Targets.{entries_before, entries_with}
use Rattle.assign_core.proofs.PendingLemmas.{value_stopped}
use Rattle.assign_core.proofs.evaluating.pending_any.Goals as goal

pub returns-in_err-value-clause-refused : goal.returns-in_err-value-clause-refused
returns-in_err-value-clause-refused g c =
    let a = c.args.addition in
    let p = err_from_is_err_and c.from_residual-in_err-value.result c.from_residual-in_err-value.ensures.1 in
    rw (p.1, p.2) (value_stopped (value_meant a) (λ v. Ok (with_target (entries_before a.target) a.target.name.now v)) c.in_err-value.field-0.0 c.in_err-value.ensures.value)

pub alone-requires-clause-headed : goal.alone-requires-clause-headed
alone-requires-clause-headed g c =
    let a = c.args.addition in
    sym (under_ok a.target.value.now.heading (limited a.target.place (rows_of_both a)) c.in_ok-value.value c.in_ok-value.ensures.value).1

pub returns-clause-pending : goal.returns-clause-pending
returns-clause-pending g c =
    let t = c.args.addition.target in
    (c.in_ok-changes.ensures.changes, ap (entries_with t) c.in_ok-value.ensures.value ∙ ap Ok (sym c.in_ok-changes.ensures.made))
