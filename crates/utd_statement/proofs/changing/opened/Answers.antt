use Rattle.std.proofs.lemmas.Result.{err_from_is_err_and}
use Rattle.tree_core.specs.Relvars.{read_relvars}
use Rattle.assign_core.specs.Room.{opened}
use Rattle.utd_statement.proofs.ChangingLemmas.{allowed_text, allowed_refused}
use Rattle.utd_statement.proofs.changing.opened.Goals as goal

pub returns-in_err-open_log : goal.returns-in_err-open_log
returns-in_err-open_log c =
    let old = read_relvars c.args.database.now in
    let told = c.in_err-open_log.ensures in
    let p = err_from_is_err_and c.from_residual.result c.from_residual.ensures.1 in
    rw (p.1, p.2) (allowed_refused old told.0 (read_relvars c.open_log.new.self) (opened old c.args.log) c.in_err-open_log.field-0.0 told.1 told.2)

pub returns : goal.returns
returns c =
    let old = read_relvars c.args.database.now in
    let told = c.in_ok-open_log.ensures in
    allowed_text old told.0 (read_relvars c.open_log.new.self) (opened old c.args.log) c.new.result c.new.ensures.items told.1 told.2
