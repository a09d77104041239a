use Rattle.std.proofs.Common.{◌≡◌, [], ◌∷◌, ap, arith, refl, sym, subst, Ok}
use Rattle.std.proofs.lemmas.Result.{err_from_is_err_and}
use Rattle.base_core.specs.Outcomes.{then_give}
use Rattle.point_core.specs.Faults.{OrFault}
use Rattle.value_core.specs.Values.{Relation}
use Rattle.tree_core.specs.Items.{read_assignment}
use Rattle.assign_core.specs.Assignments.{evaluated, with_target}
use Rattle.assign_core.specs.Renewals.{entries_renewed, value_renewed}
use Rattle.assign_core.specs.Turnovers.{IsKnown}
use Rattle.assign_core.proofs.PendingLemmas.{value_stopped}
use Rattle.assign_core.proofs.by_condition.pending_renewal.Goals as goal

pub returns-in_err-rows-clause-refused : goal.returns-in_err-rows-clause-refused
returns-in_err-rows-clause-refused g c =
    let r = c.args.renewal in
    let p = err_from_is_err_and c.from_residual.result c.from_residual.ensures.1 in
    rw (p.1, p.2) (value_stopped (value_renewed r) (λ v. Ok (with_target (entries_renewed r) r.revision.assignment.now.target v)) c.in_err-rows.field-0.0 c.in_err-rows.ensures.refused)

pub returns-clause-pending : goal.returns-clause-pending
returns-clause-pending g c =
    let r = c.args.renewal in
    let es = entries_renewed r in
    let k = c.requires.revision in
    let known = subst (IsKnown r.value.now c.in_ok-rows.rows) (sym c.hashed_alone-known.ensures) (record { hashed = c.requires.hashed; packed = tt }) in
    let meant : evaluated es es (read_assignment r.revision.assignment.now ∷ []) ≡ _ = ap (λ (m : OrFault Relation). then_give m (λ v. Ok (with_target es r.revision.assignment.now.target v))) c.in_ok-rows.ensures.meant in
    (refl, record { constraints = k.constraints; first = k.first }, c.in_ok-rows.ensures.exchange, known, meant)
