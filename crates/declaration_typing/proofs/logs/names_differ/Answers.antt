use Rattle.declaration_typing.proofs.OverLemmas.{none-differ}
use Rattle.declaration_typing.proofs.logs.names_differ.Goals as goal

pub returns-in-None : goal.returns-in-None
returns-in-None c = none-differ c.args.relvars.now.list.entries c.in-None.ensures.entry
