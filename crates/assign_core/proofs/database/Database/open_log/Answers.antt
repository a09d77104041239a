use Rattle.std.proofs.Common.{◌≡◌, sym, subst, is_ok}
use Rattle.tree_core.specs.declared.relvar.Relvars.{Relvars}
use Rattle.tree_core.specs.Relvars.{State, read_relvars}
use Rattle.meaning_core.specs.Updates.{IsTypedLog}
use Rattle.assign_core.specs.Assignments.{IsDone}
use Rattle.assign_core.specs.Logs.{counted_if}
use Rattle.assign_core.specs.Room.{opened}
use Rattle.assign_core.proofs.LogLemmas.{opened_done, opened_kept}
use Rattle.assign_core.proofs.StoredLemmas.{opened_stored}
use Rattle.assign_core.proofs.database.Database.open_log.Goals as goal

pub open_log-requires-clause-typed : goal.open_log-requires-clause-typed
open_log-requires-clause-typed c = subst (λ (r : Relvars). IsTypedLog (read_relvars r) c.args.log) (sym c.self.view_is) c.requires.typed

pub returns : goal.returns
returns c =
    let s = read_relvars c.self.inside.relvars in
    subst (λ (r : Relvars). (mid : State) × IsDone c.open_log.result (read_relvars r) mid (opened (read_relvars r) c.args.log) × (read_relvars c.open_log.new.relvars ≡ counted_if (is_ok c.open_log.result) mid)) c.self.view_is
    (opened_done c.rows_beside_logs-rows.result c.open_log.result s (read_relvars c.open_log.new.relvars) c.args.log c.self.invariant.0.well_made c.rows_beside_logs-rows.ensures c.self.invariant.3.room.each c.open_log.ensures.opened)

pub invariant_of-self : goal.invariant_of-self
invariant_of-self c =
    let s = read_relvars c.self.inside.relvars in
    let typed = subst (λ (r : Relvars). IsTypedLog (read_relvars r) c.args.log) (sym c.self.view_is) c.requires.typed in (
      opened_kept c.rows_beside_logs-rows.result c.open_log.result s (read_relvars c.open_log.new.relvars) c.args.log c.self.invariant.0 typed.made c.open_log.ensures.opened,
      c.no_hashes.ensures.hashed _,
      c.open_log.ensures.step,
      opened_stored c.rows_beside_logs-rows.result c.open_log.result s (read_relvars c.open_log.new.relvars) c.args.log c.self.inside.stored.items c.self.invariant.0.well_made typed.made c.open_log.ensures.opened c.self.invariant.3,
    )
