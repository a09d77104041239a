use Rattle.scalar_typing.proofs.LiteralLemmas.{made-text}
use Rattle.scalar_typing.proofs.literals.text_of.Goals as goal

pub returns-in-Ok : goal.returns-in-Ok
returns-in-Ok c = made-text c.args.bytes.now c.in-Ok.text.now c.make.result c.in-Ok.ensures.cases.0 c.make.ensures
