use Rattle.utd_parser.proofs.Stacks.{stack-pop}
use Rattle.utd_parser.proofs.stack.pop.Goals as goal

pub returns-clause-some : goal.returns-clause-some
returns-clause-some c = stack-pop _ _ _ c.pop.ensures.items
