use Rattle.std.proofs.lemmas.Result.{err_from_is_err_and}
use Rattle.tree_core.specs.Relvars.{read_relvars}
use Rattle.tree_core.specs.Trees.{read_tree}
use Rattle.assign_core.specs.Room.{stored_in}
use Rattle.utd_statement.proofs.ChangingLemmas.{allowed_text, allowed_refused}
use Rattle.utd_statement.proofs.changing.kept.Goals as goal

pub returns-in_err-keep-clause-performed : goal.returns-in_err-keep-clause-performed
returns-in_err-keep-clause-performed g c =
    let old = read_relvars c.args.database.now in
    let told = c.in_err-keep.ensures.done in
    let p = err_from_is_err_and c.from_residual.result c.from_residual.ensures.1 in
    rw (p.1, p.2) (allowed_refused old told.0 (read_relvars c.keep.new.self) (stored_in old c.args.name (read_tree c.args.tree)) c.in_err-keep.field-0.0 told.1 told.2)

pub returns-clause-performed : goal.returns-clause-performed
returns-clause-performed g c =
    let old = read_relvars c.args.database.now in
    let told = c.in_ok-keep.ensures.done in
    allowed_text old told.0 (read_relvars c.keep.new.self) (stored_in old c.args.name (read_tree c.args.tree)) c.new.result c.new.ensures.items told.1 told.2
