use Rattle.std.proofs.Common.{ap}
use Rattle.utd_parser.specs.Frames.{symbols_in}
use Rattle.utd_parser.proofs.Stacks.{reach-level}
use Rattle.utd_parser.proofs.stack.leave.Goals as goal

pub returns-in-Some-Level-clause-some : goal.returns-in-Some-Level-clause-some
returns-in-Some-Level-clause-some c x b n = reach-level _ _ c.in-Some-Level.outer c.in-Some-Level.forms.now _ _ x b n c.in-Some-Level.ensures.some (ap symbols_in c.in-Some-Level.field-0-is)
