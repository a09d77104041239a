use Rattle.std.proofs.Common.{◌≡◌, Ok, arith}
use Rattle.std.proofs.lemmas.Result.{err_from_is_err_and}
use Rattle.value_core.specs.declared.refuse.Refuse.TheVariants.{Memory}
use Rattle.tree_core.specs.Relvars.{read_relvars}
use Rattle.assign_core.specs.Arrivals.{way_of}
use Rattle.assign_core.specs.Assignments.{IsRefusedFor}
use Rattle.assign_core.specs.Exchanges.{with_ready}
use Rattle.assign_core.proofs.HashedLemmas.{hashes_of_first}
use Rattle.assign_core.proofs.NewRowLemmas.{readied_so}
use Rattle.assign_core.proofs.new_rows.ready_rows.Goals as goal

pub ready_for-requires-clause-hashed : goal.ready_for-requires-clause-hashed
ready_for-requires-clause-hashed g c =
    let es = (read_relvars c.args.relvars.now).relvars in
    let x = c.in-Some in
    hashes_of_first es c.args.target.now x.at x.value.now x.ensures.constraints c.hashes_at.result.now x.ensures.first (c.hashes_at.ensures es c.fill_for.ensures)

pub returns-in_err-fill_for-clause-readied : goal.returns-in_err-fill_for-clause-readied
returns-in_err-fill_for-clause-readied g c =
    let x = c.in-Some in
    let p = err_from_is_err_and c.from_residual.result c.from_residual.ensures.1 in
    rw (p.1, p.2) (readied_so (read_relvars c.args.relvars.now) c.args.target.now (way_of c.args.way) c.args.rows x.at x.value.now x.ensures (IsRefusedFor Memory) c.args.steps.now c.args.steps.now tt
    (omega arith))

pub returns-in_err-ready-clause-readied : goal.returns-in_err-ready-clause-readied
returns-in_err-ready-clause-readied g c =
    let x = c.in-Some in
    let refuse = c.in_err-ready.field-0.0 in
    let p = err_from_is_err_and c.from_residual-in_err-ready.result c.from_residual-in_err-ready.ensures.1 in
    rw (p.1, p.2) (readied_so (read_relvars c.args.relvars.now) c.args.target.now (way_of c.args.way) c.args.rows x.at x.value.now x.ensures (IsRefusedFor refuse) c.args.steps.now c.ready_for.new.steps
    c.in_err-ready.ensures.refused c.ready_for.ensures.cost)

pub returns-clause-readied : goal.returns-clause-readied
returns-clause-readied g c =
    let s = read_relvars c.args.relvars.now in
    let x = c.in-Some in
    let r = c.in_ok-ready.ready in (
      c.in_ok-ready.ensures.ready,
      readied_so s c.args.target.now (way_of c.args.way) c.args.rows x.at x.value.now x.ensures (λ m. m ≡ Ok (with_ready r s.relvars)) c.args.steps.now c.ready_for.new.steps
          c.in_ok-ready.ensures.meant c.ready_for.ensures.cost,
    )
