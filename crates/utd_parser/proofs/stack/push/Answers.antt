use Rattle.std.proofs.Common.{◌∙◌, ap}
use Rattle.utd_parser.specs.Frames.{stack_of}
use Rattle.utd_parser.proofs.Stacks.{stack-push}
use Rattle.utd_parser.proofs.stack.push.Goals as goal

pub returns : goal.returns
returns c = ap stack_of c.in_ok-push.ensures.items ∙ stack-push c.args.frames.now.items c.args.frame
