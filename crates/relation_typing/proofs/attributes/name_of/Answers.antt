use Rattle.relation_typing.proofs.AttributeLemmas.{made-name}
use Rattle.relation_typing.proofs.attributes.name_of.Goals as goal

pub returns-in-Ok : goal.returns-in-Ok
returns-in-Ok c = made-name c.args.bytes.now c.in-Ok.text.now c.make.result c.in-Ok.ensures.cases.0 c.in-Ok.ensures.cases.1 c.make.ensures
