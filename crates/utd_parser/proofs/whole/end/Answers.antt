use Rattle.std.proofs.Common.{ap}
use Rattle.utd_syntax.specs.Verdict.{ended}
use Rattle.utd_parser.specs.Frames.{reach_of}
use Rattle.utd_parser.proofs.whole.end.Goals as goal

pub returns-in-Over : goal.returns-in-Over
returns-in-Over c stack = ap (λ r. ended (reach_of r stack)) c.in-Over.is

pub returns-in-Stuck : goal.returns-in-Stuck
returns-in-Stuck c stack = c.refusal.ensures _ (ap (λ r. ended (reach_of r stack)) c.in-Stuck.is)

pub returns-in-Reaches : goal.returns-in-Reaches
returns-in-Reaches c stack = c.refusal-in-Reaches.ensures _ (ap (λ r. ended (reach_of r stack)) c.in-Reaches.is)
