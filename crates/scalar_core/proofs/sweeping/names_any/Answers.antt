use Rattle.scalar_core.specs.Expressions.{read}
use Rattle.scalar_core.proofs.NameLemmas.{named-any}
use Rattle.scalar_core.proofs.sweeping.names_any.Goals as goal

pub returns : goal.returns
returns c = cc (named-any c.args.commalist.now (read c.args.e.now), c.is_some.ensures, c.first_named.ensures)
