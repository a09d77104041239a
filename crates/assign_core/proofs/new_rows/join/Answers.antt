use Rattle.std.proofs.Common.{arith, option_map}
use Rattle.std.proofs.lemmas.Result.{err_from_is_err_and}
use Rattle.assign_core.specs.Insertions.{sum_in}
use Rattle.assign_core.proofs.PendingLemmas.{values_refused}
use Rattle.assign_core.proofs.new_rows.join.Goals as goal

pub returns-in_err-pending-clause-refused : goal.returns-in_err-pending-clause-refused
returns-in_err-pending-clause-refused g c =
    let p = err_from_is_err_and c.from_residual.result c.from_residual.ensures.1 in
    rw (p.1, p.2) (values_refused (sum_in c.args.target (option_map (λ l. l.now) c.args.commalist) c.args.rows.rows) c.in_err-pending.field-0.0 c.in_err-pending.ensures.refused)

pub admit_pending-requires-clause-pending : goal.admit_pending-requires-clause-pending
admit_pending-requires-clause-pending g c =
    (sum_in c.args.target (option_map (λ l. l.now) c.args.commalist) c.args.rows.rows, c.in_ok-pending.ensures.pending)

pub returns-clause-meant : goal.returns-clause-meant
returns-clause-meant g c =
    c.admit_pending.ensures.meant (sum_in c.args.target (option_map (λ l. l.now) c.args.commalist) c.args.rows.rows) c.in_ok-pending.ensures.pending

pub returns-clause-refused : goal.returns-clause-refused
returns-clause-refused g c =
    c.admit_pending.ensures.refused (sum_in c.args.target (option_map (λ l. l.now) c.args.commalist) c.args.rows.rows) c.in_ok-pending.ensures.pending

pub returns-clause-cost : goal.returns-clause-cost
returns-clause-cost g c =
    let sources = c.pending_join.ensures.cost in
    let constraints = c.admit_pending.ensures.cost (sum_in c.args.target (option_map (λ l. l.now) c.args.commalist) c.args.rows.rows) c.in_ok-pending.ensures.pending in
    omega (arith, sources, constraints)
