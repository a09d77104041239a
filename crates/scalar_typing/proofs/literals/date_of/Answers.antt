use Rattle.scalar_typing.proofs.LiteralLemmas.{date-found}
use Rattle.scalar_typing.proofs.literals.date_of.Goals as goal

pub returns : goal.returns
returns c = date-found c.args.bytes.now c.read_date-day.result c.read_date-day.ensures.date c.read_date-day.ensures.none
