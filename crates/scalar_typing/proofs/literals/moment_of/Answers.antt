use Rattle.scalar_typing.proofs.LiteralLemmas.{moment-found}
use Rattle.scalar_typing.proofs.literals.moment_of.Goals as goal

pub returns : goal.returns
returns c = moment-found c.args.bytes.now c.read_moment-moment.result c.read_moment-moment.ensures.moment c.read_moment-moment.ensures.none
