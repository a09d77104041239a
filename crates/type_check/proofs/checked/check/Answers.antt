use Rattle.utd_syntax.specs.Read.{read_statement}
use Rattle.tree_core.specs.Relvars.{read_relvars}
use Rattle.type_check.proofs.CheckLemmas.{answer-typed}
use Rattle.type_check.proofs.checked.check.Goals as goal

pub returns-clause-typed : goal.returns-clause-typed
returns-clause-typed c =
    answer-typed (read_relvars c.args.relvars.now) (read_statement c.args.statement.now) c.type_statement.result c.requires.well_made c.type_statement.ensures
