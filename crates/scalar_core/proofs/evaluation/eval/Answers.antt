use Rattle.scalar_core.specs.Expressions.{read}
use Rattle.scalar_core.specs.ScalarValues.{value}
use Rattle.scalar_core.proofs.KindLemmas.{value-fits}
use Rattle.scalar_core.proofs.TreeLemmas.{gives-kind}
use Rattle.scalar_core.proofs.evaluation.eval.Goals as goal

pub returns-clause-kind : goal.returns-clause-kind
returns-clause-kind c heading kind fitting typed =
    gives-kind c.answer.result (value (read c.args.e.now) c.args.row.now) kind c.answer.ensures
    (λ v. value-fits heading c.args.row.now (read c.args.e.now) kind v fitting typed)
